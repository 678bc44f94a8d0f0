-- Tables handed in whole, as words: "judged before all else, as their frames would be".
-- Slots that a count leaves unused, and a variable's count, play no part.
use Rattle.std.specs.Prelude.{ℕ, zero, suc, ◌+◌, ◌-◌, ◌*◌, ◌/◌, Bool, true, false, ◌&&◌, List, [], ◌∷◌, leb, length, get_or, replicate, Err}
use Rattle.std.proofs.Math.Option.{Option, none, some}
use Rattle.model.specs.declared.Connection.{Connection}
use Rattle.model.specs.declared.Direction.{Direction}
use Rattle.model.specs.declared.Direction.TheVariants.{Forward, Backward}
use Rattle.model.specs.declared.Justification.{Justification}
use Rattle.model.specs.declared.Justification.TheVariants.{Rule as by_rule, Congruence}
use Rattle.model.specs.Limits.{child_limit, item_limit}
use Rattle.model.specs.Judged.{Judged, good, bad}
use Rattle.model.specs.Pattern.{Item, variable, operator, Patterns}
use Rattle.model.specs.Rule.{Rule, side, rule_of, add_rule}
use Rattle.model.specs.Verdict.{Verdict, rejection, verdict}
use Rattle.model.specs.Node.{Node, add_node}
use Rattle.model.specs.Connect.{add_connection}
use Rattle.model.specs.Query.{Tables, Measured, measure, Answer, answer, area_after}

-- How an entry lies. A node: operator, count, and a slot for each of eight children.
abbrev pub count_at : ℕ
count_at = 1

abbrev pub children_at : ℕ
children_at = 2

abbrev pub node_words : ℕ
node_words = children_at + child_limit

-- A rule: number, left items, right items, then 64 slots for the left side's items and 64 for the right's, each of three words
-- (kind, variable or operator, count).
abbrev pub item_words : ℕ
item_words = 3

abbrev pub side_words : ℕ
side_words = item_words * item_limit

abbrev pub left_at : ℕ
left_at = 3

abbrev pub right_at : ℕ
right_at = left_at + side_words

abbrev pub rule_words : ℕ
rule_words = right_at + side_words

-- A connection: current, next, kind, rule, forward, as in its frame.
abbrev pub next_at : ℕ
next_at = 1

abbrev pub why_at : ℕ
why_at = 2

abbrev pub by_rule_at : ℕ
by_rule_at = 3

abbrev pub forward_at : ℕ
forward_at = 4

abbrev pub connection_words : ℕ
connection_words = 5

-- what there is, if a condition holds
module _ {A : Type 0} where
  abbrev pub only_if : Bool → Option A → Option A
  only_if true a = a
  only_if false a = none

-- a run of words, from a place on
unfoldable pub words_from : List ℕ → ℕ → ℕ → List ℕ
words_from ws at zero = []
words_from ws at (suc n) = get_or ws at 0 ∷ words_from ws (suc at) n

-- entry i of a table, if it stands there whole and its fields are in their sets
unfoldable pub node_at : List ℕ → ℕ → Node
unfolding words_from
node_at ws i =
    let at = i * node_words in
    record { op = get_or ws at 0; kids = words_from ws (at + children_at) (get_or ws (at + 1) 0) }

unfoldable pub node_entry : List ℕ → ℕ → Option Node
unfolding node_at
node_entry ws i =
    let at = i * node_words in
    only_if (leb (at + node_words) (length ws) && leb (get_or ws (at + 1) 0) child_limit) (some (node_at ws i))

-- "field outside its set": an item's kind
abbrev pub item_of : ℕ → ℕ → ℕ → Option Item
item_of zero v n = some (variable v)
item_of (suc zero) o n = some (operator o n)
item_of (suc (suc k)) v n = none

abbrev pub item_front : Option Item → Option (List Item) → Option (List Item)
item_front none is = none
item_front (some i) none = none
item_front (some i) (some is) = some (i ∷ is)

unfoldable pub items_from : List ℕ → ℕ → ℕ → Option (List Item)
items_from ws at zero = some []
items_from ws at (suc n) = item_front (item_of (get_or ws at 0) (get_or ws (at + 1) 0) (get_or ws (at + 2) 0)) (items_from ws (at + item_words) n)

abbrev pub side_by : Bool → Option (List Item) → Option Patterns
side_by false is = none
side_by true none = none
side_by true (some is) = side is

unfoldable pub side_at : List ℕ → ℕ → ℕ → Option Patterns
unfolding items_from side
side_at ws at n = side_by (leb n item_limit) (items_from ws at n)

unfoldable pub rule_entry : List ℕ → ℕ → Option Rule
unfolding side_at
rule_entry ws i =
    let at = i * rule_words in
    only_if (leb (at + rule_words) (length ws))
    (rule_of (get_or ws at 0) (side_at ws (at + left_at) (get_or ws (at + 1) 0)) (side_at ws (at + right_at) (get_or ws (at + 2) 0)))

-- "kind 1: 0 congruence, 1 rule; rule 2, forward 1; both 0 for congruence"
abbrev pub direction_of : ℕ → Option Direction
direction_of zero = some Backward
direction_of (suc zero) = some Forward
direction_of (suc (suc f)) = none

abbrev pub rule_why : ℕ → Option Direction → Option Justification
rule_why r none = none
rule_why r (some d) = some (by_rule (record { 0 = r }) d)

abbrev pub why_of : ℕ → ℕ → ℕ → Option Justification
why_of zero zero zero = some Congruence
why_of zero zero (suc f) = none
why_of zero (suc r) f = none
why_of (suc zero) r f = rule_why r (direction_of f)
why_of (suc (suc k)) r f = none

abbrev pub connection_of : ℕ → ℕ → Option Justification → Option Connection
connection_of c n none = none
connection_of c n (some w) = some (record { current = record { 0 = c }; next = record { 0 = n }; why = w })

unfoldable pub connection_entry : List ℕ → ℕ → Option Connection
connection_entry ws i =
    let at = i * connection_words in
    only_if (leb (at + connection_words) (length ws))
    (connection_of (get_or ws at 0) (get_or ws (at + next_at) 0)
    (why_of (get_or ws (at + why_at) 0) (get_or ws (at + by_rule_at) 0) (get_or ws (at + forward_at) 0)))

-- how many entries of a size stand in so many words; a part of an entry at the end counts as an entry
abbrev pub entries_in : ℕ → ℕ → ℕ
entries_in size n = (n + (size - 1)) / size

-- A table, entry by entry; "first bad entry decides".
module _ {A E : Type 0} (add : A → Option E → Judged A) (entry : ℕ → Option E) (start : A) where
  abbrev pub and_add : Judged A → Option E → Judged A
  and_add (bad n) e = bad n
  and_add (good a) e = add a e

  unfoldable pub entries : ℕ → Judged A
  entries zero = good start
  entries (suc k) = and_add (entries k) (entry k)

unfoldable pub node_table : List ℕ → Judged (List Node)
unfolding entries node_entry add_node
node_table ws = entries add_node (node_entry ws) [] (entries_in node_words (length ws))

unfoldable pub rule_table : List ℕ → Judged (List Rule)
unfolding entries rule_entry add_rule
rule_table ws = entries add_rule (rule_entry ws) [] (entries_in rule_words (length ws))

unfoldable pub connection_table : List Node → List ℕ → Judged (List Connection)
unfolding entries connection_entry add_connection
connection_table ns ws = entries (add_connection ns) (connection_entry ws) [] (entries_in connection_words (length ws))

-- "nodes, rules, connections; first bad entry decides"
abbrev pub with_connections : List Node → List Rule → Judged (List Connection) → Judged Tables
with_connections ns rs (bad n) = bad n
with_connections ns rs (good cs) = good (record { nodes = ns; rules = rs; conns = cs })

abbrev pub with_rules : List Node → Judged (List Rule) → Judged (List Connection) → Judged Tables
with_rules ns (bad n) cs = bad n
with_rules ns (good rs) cs = with_connections ns rs cs

abbrev pub with_nodes : Judged (List Node) → Judged (List Rule) → (List Node → Judged (List Connection)) → Judged Tables
with_nodes (bad n) rs cs = bad n
with_nodes (good ns) rs cs = with_rules ns rs (cs ns)

unfoldable pub judge_tables : List ℕ → List ℕ → List ℕ → Judged Tables
unfolding node_table rule_table connection_table
judge_tables nws rws cws = with_nodes (node_table nws) (rule_table rws) (λ ns. connection_table ns cws)

-- "a query or check over bad ones returns that number, otherwise as its own refusals do, place 0"
abbrev pub measure_by : Judged Tables → ℕ → ℕ → Measured
measure_by (bad e) l r = Err e
measure_by (good t) l r = measure t l r

abbrev pub answer_by : Judged Tables → ℕ → ℕ → ℕ → Answer
answer_by (bad e) area l r = Err e
answer_by (good t) area l r = answer t area l r

abbrev pub area_of : Judged Tables → ℕ → ℕ → ℕ → List ℕ
area_of (bad e) area l r = replicate area 0
area_of (good t) area l r = area_after t area l r

abbrev pub verdict_by : Judged Tables → List ℕ → Verdict
verdict_by (bad e) ws = Err (rejection e 0)
verdict_by (good t) ws = verdict t.rules ws
