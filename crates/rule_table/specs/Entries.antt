-- The rules that a table's entries are, an entry by itself, the entry that lists a number, and the slots of an entry's sides.
-- Assumes nothing.
use Rattle.std.specs.Prelude.{ℕ, zero, suc, ◌+◌, ◌*◌, ◌/◌, Bool, true, false, List, [], ◌≡◌, eqb, Option, Some, None, length, get_or, take, drop}
use Rattle.std.proofs.Math.Option.{Option as Maybe, some}
use Rattle.model.specs.Judged.{Judged, good}
use Rattle.model.specs.Rule.{Rule, add_rule}
use Rattle.model.specs.Tables.{only_if, side_words, left_at, right_at, rule_words, rule_entry, and_add, entries, rule_table}

-- the whole table was accepted
pub record AcceptedRules (ws : List ℕ) : Type 0 where
  pub rules : List Rule
  pub are : rule_table ws ≡ good rules

-- what the first n entries are
abbrev pub rules_in : List ℕ → ℕ → Judged (List Rule)
rules_in ws n = entries add_rule (rule_entry ws) [] n

-- entry i of a table is a rule
pub record HasRule (ws : List ℕ) (i : ℕ) : Type 0 where
  pub rule : Rule
  pub said : rule_entry ws i ≡ some rule

-- an entry by itself: it is as long as an entry, and no longer
unfoldable pub entry_of : List ℕ → Maybe Rule
unfolding rule_entry
entry_of es = only_if (eqb (length es) rule_words) (rule_entry es 0)

-- a table and one entry more
abbrev pub with_entry : List ℕ → Maybe Rule → Judged (List Rule)
with_entry ws e = and_add add_rule (rule_entry ws) [] (rule_table ws) e

-- "each listed once": of the first n entries, the last one of a number
abbrev pub listed_if : Bool → ℕ → Option ℕ → Option ℕ
listed_if true i r = Some i
listed_if false i r = r

unfoldable pub listed_below : List ℕ → ℕ → ℕ → Option ℕ
listed_below ws zero x = None
listed_below ws (suc i) x = listed_if (eqb x (get_or ws (i * rule_words) 0)) i (listed_below ws i x)

-- and of all entries
abbrev pub where_listed : List ℕ → ℕ → Option ℕ
where_listed ws x = listed_below ws (length ws / rule_words) x

-- the slots of an entry's left side, and of its right side
abbrev pub side_slots : List ℕ → ℕ → ℕ → List ℕ
side_slots ws i from = take side_words (drop (i * rule_words + from) ws)

abbrev pub left_slots : List ℕ → ℕ → List ℕ
left_slots ws i = side_slots ws i left_at

abbrev pub right_slots : List ℕ → ℕ → List ℕ
right_slots ws i = side_slots ws i right_at
