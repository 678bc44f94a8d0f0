-- An item slot, three words of a rule entry, which variables stand in a run of slots, and the patterns that slots hold.
-- Assumes nothing.
use Rattle.std.specs.Prelude.{ℕ, zero, suc, ◌+◌, ◌*◌, ◌≤◌, ◌<◌, Bool, true, false, ◌&&◌, ◌||◌, List, ◌≡◌, leb, ltb, eqb, Option, Some, None, length, get_or}
use Rattle.std.proofs.Math.Option.{Option as Maybe, none, some}
use Rattle.model.specs.Limits.{child_limit, variable_limit}
use Rattle.model.specs.Pattern.{Item, variable, operator, Patterns, count_p, items, NarrowP}
use Rattle.model.specs.Tables.{item_words, item_of, items_from}
use Rattle.rule_table.specs.declared.Item.{Item as Held}
use Rattle.rule_table.specs.declared.Item.TheVariants.{Variable, Operator}

-- whether there is a side
abbrev pub is_side : Maybe Patterns → Bool
is_side none = false
is_side (some q) = true

-- the item that the three words at a place say, and what the code makes of it: the code's own item, here `Held`, or none where a field is
-- outside its set
abbrev pub item_at : List ℕ → ℕ → Maybe Item
item_at ws at = item_of (get_or ws at 0) (get_or ws (at + 1) 0) (get_or ws (at + 2) 0)

abbrev pub slot_if : Bool → Held → Option Held
slot_if true i = Some i
slot_if false i = None

abbrev pub slot_of : Maybe Item → Option Held
slot_of none = None
slot_of (some (variable x)) = slot_if (ltb x variable_limit) (Variable x)
slot_of (some (operator o c)) = slot_if (leb c child_limit) (Operator (record { 0 = o }) c)

-- the variable that a slot holds
abbrev pub variable_in : Option Held → Option ℕ
variable_in (Some (Variable x)) = Some x
variable_in (Some (Operator o c)) = None
variable_in None = None

-- whether a variable stands in one of n slots
abbrev pub holds : ℕ → Option Held → Bool
holds x (Some (Variable y)) = eqb x y
holds x (Some (Operator o c)) = false
holds x None = false

unfoldable pub holds_from : List ℕ → ℕ → ℕ → ℕ → Bool
holds_from ws at zero x = false
holds_from ws at (suc n) x = holds x (slot_of (item_at ws at)) || holds_from ws (at + item_words) n x

-- which of the variables stand in n slots
abbrev pub Standing : List ℕ → ℕ → ℕ → List Bool → Type 0
Standing ws at n on = (x : ℕ) → x < variable_limit → get_or on x false ≡ holds_from ws at n x

-- whether each variable in one of n slots is one of those given
abbrev pub known : List Bool → Option Held → Bool
known on (Some (Variable x)) = get_or on x false
known on (Some (Operator o c)) = true
known on None = true

unfoldable pub known_from : List Bool → List ℕ → ℕ → ℕ → Bool
known_from on ws at zero = true
known_from on ws at (suc n) = known on (slot_of (item_at ws at)) && known_from on ws (at + item_words) n

-- the slots from `item` on begin with the items of the n patterns q. What stands in unused slots, and in a variable's count, plays no part
pub record PatternsAt (ps : List ℕ) (item n : ℕ) (q : Patterns) : Type 0 where
  pub narrow : NarrowP q
  pub counted : count_p q ≡ n
  pub room : item + item_words * length (items q) ≤ length ps
  pub spelled : items_from ps item (length (items q)) ≡ some (items q)

-- the slots begin with one pattern
pub record Side (ps : List ℕ) : Type 0 where
  pub pattern : Patterns
  pub is : PatternsAt ps 0 1 pattern
