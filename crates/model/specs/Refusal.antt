-- Document 01's refusals, "Numbers given back": each case's number. 18 is nobody's since a later term has exactly one mark.
use Rattle.std.specs.Prelude.{ℕ}
use Rattle.model.specs.declared.Refusal.{Refusal}
use Rattle.model.specs.declared.Refusal.TheVariants.{NoLine, NoEntry, TableFull, ChildNotBelow, RuleUnfit, EndsUnfit, NoSupport, NoNode, NotJoined, TooFar, NoRoom, NoWords, NoTerms, FirstMarked, NotOneMark, RuleUnlisted, NoStep, TooLong}

abbrev pub number : Refusal → ℕ
-- "line isn't lower-case hex pairs, is empty, exceeds 8,192 digits or lacks its line feed"
number NoLine = 1
-- "unknown kind, kind out of order, wrong length, pattern side over 64 items, field outside its set"
number NoEntry = 2
-- "node 2,049 or rule 257"
number TableFull = 3
-- "child not below its node"
number ChildNotBelow = 4
-- "rule number listed before, or right variable absent on the left"
number RuleUnfit = 5
-- "connection: number not in the node table, ends equal, current has a parent, or ends joined already"
number EndsUnfit = 6
-- "congruence without support"
number NoSupport = 7
-- "query number not in the node table"
number NoNode = 8
-- "no chain of connections joins the pair"
number NotJoined = 9
-- "distance above" the limit
number TooFar = 10
-- "needed words exceed the area, or 1,048,576"; a text's bytes the room
number NoRoom = 11
-- "proof of no words"
number NoWords = 12
-- "words are no whole number of terms, count above 8, mark above 2, unmarked node with a rule"
number NoTerms = 13
-- "first term marked"
number FirstMarked = 14
-- a later term without exactly one mark
number NotOneMark = 15
-- "a mark names an unlisted rule"
number RuleUnlisted = 16
-- a step that is none
number NoStep = 17
-- too many words, or too many terms
number TooLong = 19
