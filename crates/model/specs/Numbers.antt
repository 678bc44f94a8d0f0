-- Document 01's numbers once more, in the order of its table, so that one that is turned in the definition and in the code alike is seen.
-- 18 is nobody's.
use Rattle.std.specs.Prelude.{List, [], ◌∷◌, ◌≡◌, refl}
use Rattle.model.specs.declared.Refusal.TheVariants.{NoLine, NoEntry, TableFull, ChildNotBelow, RuleUnfit, EndsUnfit, NoSupport, NoNode, NotJoined, TooFar, NoRoom, NoWords, NoTerms, FirstMarked, NotOneMark, RuleUnlisted, NoStep, TooLong}
use Rattle.model.specs.Refusal.{number}

numbers :
    number NoLine ∷ number NoEntry ∷ number TableFull ∷ number ChildNotBelow ∷ number RuleUnfit ∷ number EndsUnfit ∷ number NoSupport
    ∷ number NoNode ∷ number NotJoined ∷ number TooFar ∷ number NoRoom ∷ number NoWords ∷ number NoTerms ∷ number FirstMarked
    ∷ number NotOneMark ∷ number RuleUnlisted ∷ number NoStep ∷ number TooLong ∷ []
    ≡ 1 ∷ 2 ∷ 3 ∷ 4 ∷ 5 ∷ 6 ∷ 7 ∷ 8 ∷ 9 ∷ 10 ∷ 11 ∷ 12 ∷ 13 ∷ 14 ∷ 15 ∷ 16 ∷ 17 ∷ 19 ∷ []
numbers = refl
