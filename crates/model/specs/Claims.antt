-- What no line of input shows, computed: limits at their last good number and their first bad one, lent areas and rooms, and reports.
use Rattle.std.specs.Prelude.{ℕ, zero, suc, ◌+◌, ◌*◌, Bool, true, false, List, [], ◌∷◌, ◌++◌, ◌≡◌, refl, ltb, replicate, take, Ok, Err}
use Rattle.std.proofs.Math.Bool.{or-true}
use Rattle.std.proofs.Math.Option.{Option, none, some}
use Rattle.std.proofs.Common.{ap}
use Rattle.model.specs.declared.Connection.{Connection}
use Rattle.model.specs.declared.Direction.TheVariants.{Forward}
use Rattle.model.specs.declared.Justification.{Justification}
use Rattle.model.specs.declared.Justification.TheVariants.{Rule as by_rule, Congruence}
use Rattle.model.specs.declared.Refusal.TheVariants.{NotJoined, TooFar, NoRoom, NoWords, NoTerms, NotOneMark, NoStep, TooLong}
use Rattle.model.specs.Refusal.{number}
use Rattle.model.specs.Judged.{Judged, judgement_of, number_of}
use Rattle.model.specs.Term.{count}
use Rattle.model.specs.Pattern.{variable, operator, no_patterns, app}
use Rattle.model.specs.Rule.{Rule, side, add_rule}
use Rattle.model.specs.Verdict.{rejection, verdict, report_of}
use Rattle.model.specs.Node.{Node, add_node}
use Rattle.model.specs.Query.{Tables, no_tables, measure, answer, written, written_if, area_after, measure_report, answer_report}
use Rattle.model.specs.Text.{bytes, term_text, room_after, text_report}
use Rattle.model.specs.Frame.{words_kind, line_bytes}
use Rattle.model.specs.Tables.{judge_tables, area_of}
use Rattle.model.specs.Run.{State, Turn, go, stop, answer_text, opened, queried}

-- Towers: nodes 0 and 1 are the leaves o1 and o2, and nodes 2k and 2k + 1 are o3 over the two of the level below, each twice.
-- Rule r7 joins the leaves, and congruences the two nodes of each level: level k has distance 2 ^ k.
abbrev leaf : ℕ → Node
leaf o = record { op = o; kids = [] }

abbrev twice : ℕ → Node
twice n = record { op = 3; kids = n ∷ n ∷ [] }

tower_nodes : ℕ → List Node
tower_nodes zero = leaf 1 ∷ leaf 2 ∷ []
tower_nodes (suc k) = tower_nodes k ++ (twice (2 * k) ∷ twice (2 * k + 1) ∷ [])

abbrev joining : ℕ → Justification → Connection
joining n w = record { current = record { 0 = n }; next = record { 0 = n + 1 }; why = w }

tower_conns : ℕ → List Connection
tower_conns zero = joining 0 (by_rule (record { 0 = 7 }) Forward) ∷ []
tower_conns (suc k) = joining (2 * suc k) Congruence ∷ tower_conns k

tower : ℕ → Tables
unfolding tower_nodes tower_conns
tower k = record { nodes = tower_nodes k; rules = []; conns = tower_conns k }

-- Two nodes over the left nodes of levels 7 to 13 and over the right ones, with two over levels 0 to 6 among their children:
-- the distance of the upper two is that of all the levels, 16,383.
abbrev levels : ℕ → ℕ → ℕ → List ℕ
levels zero from side = []
levels (suc n) from side = (2 * from + side) ∷ levels n (suc from) side

sums : Tables
unfolding tower
sums =
    record {
      nodes =
          (tower 13).nodes
          ++ (record { op = 4; kids = levels 7 0 0 } ∷ record { op = 4; kids = levels 7 0 1 }
          ∷ record { op = 5; kids = 28 ∷ levels 7 7 0 } ∷ record { op = 5; kids = 29 ∷ levels 7 7 1 } ∷ []);
      rules = [];
      conns = joining 30 Congruence ∷ joining 28 Congruence ∷ (tower 13).conns;
    }

-- 10: a distance of 16,383 is told, one of 16,384 is refused for any area
near : measure sums 30 31 ≡ Ok 16383
unfolding sums measure
near = refl

far : measure (tower 14) 28 29 ≡ Err TooFar
unfolding tower measure
far = refl

far-report : measure_report (measure (tower 14) 28 29) ≡ record { number = 10; distance = 0 }
unfolding tower measure
far-report = refl

far-for-any-area : (area : ℕ) → answer (tower 14) area 28 29 ≡ Err TooFar
unfolding tower answer
far-for-any-area area = refl

-- 11: towers of levels 12 and 13 are near enough, and their words are past the limit for any area: 2 ^ k + 1 terms of 2 ^ (k + 1) - 1
-- nodes, four words each
near-12 : measure (tower 12) 24 25 ≡ Ok 4096
unfolding tower measure
near-12 = refl

near-13 : measure (tower 13) 26 27 ≡ Ok 8192
unfolding tower measure
near-13 = refl

large-12 : (area : ℕ) → answer (tower 12) area 24 25 ≡ Err NoRoom
unfolding tower answer
large-12 area = ap (λ (b : Bool). written_if b 4096 134234108) (or-true (ltb area 134234108))

large-13 : (area : ℕ) → answer (tower 13) area 26 27 ≡ Err NoRoom
unfolding tower answer
large-13 area = ap (λ (b : Bool). written_if b 8192 536903676) (or-true (ltb area 536903676))

-- 11: an area that the words fill is enough, one word less is not
fits : answer (tower 7) 131580 14 15 ≡ Ok (written 128 131580)
unfolding tower answer
fits = refl

short : answer (tower 7) 131579 14 15 ≡ Err NoRoom
unfolding tower answer
short = refl

-- A tower of level k with two nodes on top of its left one, which make its term one node larger each: 2 ^ (k + 1) nodes, and one more.
topped : ℕ → Tables
unfolding tower_nodes
topped k =
    record {
      nodes = tower_nodes k ++ (record { op = 4; kids = 2 * k ∷ [] } ∷ record { op = 4; kids = (2 * k + 2) ∷ [] } ∷ []);
      rules = [];
      conns = [];
    }

-- 11: as many words as the limit are written in a larger area, more are not
many-words : answer (topped 17) 2000000 36 36 ≡ Ok (written 0 1048576)
unfolding topped answer
many-words = refl

too-many-words : answer (topped 17) 2000000 37 37 ≡ Err NoRoom
unfolding topped answer
too-many-words = refl

-- The program's area holds 32,768 words of a query's proof, and no more.
abbrev printed_by : Turn → List ℕ
printed_by (go out s) = out
printed_by (stop r) = []

abbrev holding : Tables → List ℕ → State
holding t ws = record { kind = words_kind; tables = t; open-words = ws }

filled : take 11 (printed_by (queried (holding (topped 12) []) 1 (some (record { left = 26; right = 26 })))) ≡ bytes "distance 0\n"
unfolding topped answer answer_text bytes
filled = refl

overflows : printed_by (queried (holding (topped 12) []) 1 (some (record { left = 27; right = 27 }))) ≡ bytes "refused 11 line 1\n"
unfolding topped answer answer_text bytes
overflows = refl

-- An offered proof may fill the area; "an offered proof that outgrows the area" is 11, and neither is open then.
abbrev stop_of : Turn → ℕ
stop_of (go out s) = 0
stop_of (stop r) = number r

offered-fills : stop_of (opened (holding no_tables (replicate 32764 0)) (some (replicate 4 0))) ≡ 0
offered-fills = refl

offered-outgrows : stop_of (opened (holding no_tables (replicate 32765 0)) (some (replicate 4 0))) ≡ 11
offered-outgrows = refl

-- 1: 8,192 digits are a line, 8,194 are not
abbrev is_there : {A : Type 0} → Option A → Bool
is_there none = false
is_there (some a) = true

long-line : is_there (line_bytes (replicate 8192 48)) ≡ true
unfolding line_bytes
long-line = refl

longer-line : is_there (line_bytes (replicate 8194 48)) ≡ false
unfolding line_bytes
longer-line = refl

-- 3: node 2,048 and rule 256 are taken, the next ones are not
abbrev number_in : {A : Type 0} → Judged A → ℕ
number_in j = number_of (judgement_of j)

last-node : number_in (add_node (replicate 2047 (leaf 1)) (some (leaf 1))) ≡ 0
unfolding add_node
last-node = refl

node-too-many : number_in (add_node (replicate 2048 (leaf 1)) (some (leaf 1))) ≡ 3
unfolding add_node
node-too-many = refl

abbrev rule_no : ℕ → Rule
rule_no n = record { number = n; left = app 1 no_patterns no_patterns; right = app 2 no_patterns no_patterns }

last-rule : number_in (add_rule (replicate 255 (rule_no 7)) (some (rule_no 8))) ≡ 0
unfolding add_rule
last-rule = refl

rule-too-many : number_in (add_rule (replicate 256 (rule_no 7)) (some (rule_no 8))) ≡ 3
unfolding add_rule
rule-too-many = refl

-- 2: 64 items are a side, 65 are not; variable 15 is one, 16 is not
full-side : is_there (side (replicate 63 (operator 1 1) ++ (operator 1 0 ∷ []))) ≡ true
unfolding side
full-side = refl

side-too-long : is_there (side (replicate 64 (operator 1 1) ++ (operator 1 0 ∷ []))) ≡ false
unfolding side
side-too-long = refl

last-variable : is_there (side (variable 15 ∷ [])) ≡ true
unfolding side
last-variable = refl

variable-too-high : is_there (side (variable 16 ∷ [])) ≡ false
unfolding side
variable-too-high = refl

-- 19 for terms: 16,384 are looked at (the second has no mark), 16,385 are not; a term cut behind them is 13
leaves : ℕ → List ℕ
leaves zero = []
leaves (suc n) = 1 ∷ 0 ∷ 0 ∷ 0 ∷ leaves n

terms-enough : verdict [] (leaves 16384) ≡ Err (rejection NotOneMark 1)
unfolding leaves verdict
terms-enough = refl

terms-too-many : verdict [] (leaves 16385) ≡ Err (rejection TooLong 0)
unfolding leaves verdict
terms-too-many = refl

too-many-report : report_of (verdict [] (leaves 16385)) ≡ record { number = 19; value = 0 }
unfolding leaves verdict
too-many-report = refl

terms-cut : verdict [] (leaves 16384 ++ (3 ∷ 1 ∷ 0 ∷ 0 ∷ [])) ≡ Err (rejection NoTerms 0)
unfolding leaves verdict
terms-cut = refl

-- Tables handed in whole: nodes before rules (4, and 2 behind it), rules before connections (2, and 6 behind it).
nodes-first : number_in (judge_tables (1 ∷ 1 ∷ replicate 8 0) (0 ∷ []) []) ≡ 4
unfolding judge_tables
nodes-first = refl

rules-first : number_in (judge_tables [] (0 ∷ []) (0 ∷ 1 ∷ 1 ∷ 7 ∷ 1 ∷ [])) ≡ 2
unfolding judge_tables
rules-first = refl

-- The lent area: the proof's words and zeros, or all zero, over bad tables too.
area-written : area_after (tower 0) 10 0 1 ≡ 1 ∷ 0 ∷ 0 ∷ 0 ∷ 2 ∷ 0 ∷ 1 ∷ 7 ∷ 0 ∷ 0 ∷ []
unfolding tower area_after count
area-written = refl

area-refused : area_after (tower 0) 7 0 1 ≡ replicate 7 0
unfolding tower area_after
area-refused = refl

area-bad : area_of (judge_tables (0 ∷ []) [] []) 3 0 0 ≡ 0 ∷ 0 ∷ 0 ∷ []
unfolding judge_tables
area-bad = refl

-- The text of one term: an exact room is enough, a room one byte short is 11, no words are 12, a second term is 13; and the room.
room-exact : term_text (leaves 1) 2 ≡ Ok 2
unfolding leaves term_text
room-exact = refl

room-short : term_text (leaves 1) 1 ≡ Err NoRoom
unfolding leaves term_text
room-short = refl

no_words : term_text [] 9 ≡ Err NoWords
unfolding term_text
no_words = refl

second-term : term_text (leaves 2) 9 ≡ Err NoTerms
unfolding leaves term_text
second-term = refl

room-written : room_after (leaves 1) 4 ≡ bytes "o1" ++ (0 ∷ 0 ∷ [])
unfolding leaves room_after bytes
room-written = refl

room-refused : room_after (leaves 1) 1 ≡ 0 ∷ []
unfolding leaves room_after
room-refused = refl

-- document 01's number and values for each case of an answer
written-report : answer_report (Ok (written 1 16)) ≡ record { number = 0; distance = 1; written = 16 }
written-report = refl

refused-report : answer_report (Err NotJoined) ≡ record { number = 9; distance = 0; written = 0 }
refused-report = refl

distance-report : measure_report (Ok 3) ≡ record { number = 0; distance = 3 }
distance-report = refl

unmeasured-report : measure_report (Err NotJoined) ≡ record { number = 9; distance = 0 }
unmeasured-report = refl

accepted-report : report_of (Ok 2) ≡ record { number = 0; value = 2 }
accepted-report = refl

rejected-report : report_of (Err (rejection NoStep 1)) ≡ record { number = 17; value = 1 }
rejected-report = refl

text-report : text_report (Ok 2) ≡ record { number = 0; written = 2 }
text-report = refl

no-text-report : text_report (Err NoTerms) ≡ record { number = 13; written = 0 }
no-text-report = refl
