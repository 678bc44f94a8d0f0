-- The sides of a rule in its frame, read item by item as the code reads them: by how many patterns are still to come, and how many
-- items there may still be.
use Rattle.std.specs.Prelude.{ℕ, zero, suc, ◌+◌, ◌-◌, ◌≤◌, Bool, true, false, List, [], ◌∷◌, ◌++◌, ◌≡◌, leb, ltb, Option, Some, None, length, drop}
use Rattle.std.proofs.Math.Option.{Option as Maybe, none, some}
use Rattle.model.specs.Limits.{child_limit, item_limit, variable_limit}
use Rattle.model.specs.Pattern.{Item, variable, operator}
use Rattle.model.specs.Tables.{side_words}
use Rattle.model.specs.Frame.{two}
use Rattle.layouts.specs.Words.{padded, slots_of}
use Rattle.decode.specs.declared.sides.Part.{Part}

-- the item that bytes begin with, if they begin with one: how many bytes it has, and its three words
abbrev pub part_if : Bool → Part → Option Part
part_if true p = Some p
part_if false p = None

-- "an item is 00 and a variable 0 to 15, or 01, operator 2, count 1"
unfoldable pub part_of : List ℕ → Option Part
part_of [] = None
part_of (zero ∷ []) = None
part_of (zero ∷ x ∷ bs) = part_if (ltb x variable_limit) (record { size = 2; kind = 0; field = x; count = 0 })
part_of (suc zero ∷ []) = None
part_of (suc zero ∷ a ∷ []) = None
part_of (suc zero ∷ a ∷ b ∷ []) = None
part_of (suc zero ∷ a ∷ b ∷ c ∷ bs) = part_if (leb c child_limit) (record { size = 4; kind = 1; field = two a b; count = c })
part_of (suc (suc k) ∷ bs) = None

abbrev pub item_by : ℕ → ℕ → ℕ → Item
item_by zero x n = variable x
item_by (suc k) o n = operator o n

abbrev pub item_of : Part → Item
item_of p = item_by p.kind p.field p.count

-- the items of a side, and the bytes behind them
pub record Found : Type 0 where
  pub items : List Item
  pub rest : List ℕ

abbrev pub longer : Item → Maybe Found → Maybe Found
longer i none = none
longer i (some f) = some (record { items = i ∷ f.items; rest = f.rest })

-- what comes of an item, if there is one
abbrev pub behind : Option Part → (Part → Maybe Found) → Maybe Found
behind None f = none
behind (Some p) f = f p

-- k items at most, p patterns to come
unfoldable pub found : ℕ → ℕ → List ℕ → Maybe Found
unfolding part_of
found zero zero bs = some (record { items = []; rest = bs })
found zero (suc p) bs = none
found (suc k) zero bs = some (record { items = []; rest = bs })
found (suc k) (suc p) bs = behind (part_of bs) λ q. longer (item_of q) (found k (p + q.count) (drop q.size bs))

-- one side: one pattern of at most 64 items
abbrev pub side_found : List ℕ → ℕ → Maybe Found
side_found bs at = found item_limit 1 (drop at bs)

-- how many items it has, and where they end
abbrev pub side_of : ℕ → Maybe Found → Option (ℕ × ℕ)
side_of n none = None
side_of n (some f) = Some (length f.items, n - length f.rest)

abbrev pub items_of : Maybe Found → List Item
items_of none = []
items_of (some f) = f.items

-- there are n items
abbrev pub HasItems : List ℕ → ℕ → ℕ → Type 0
HasItems bs at n = (length (items_of (side_found bs at)) ≡ n)

-- two sides of a frame that is a rule's: where each starts, and how many items it has
pub record TwoSides (bs : List ℕ) (left middle right : ℕ) : Type 0 where
  pub head : 2 ≤ length bs
  pub within : middle ≤ length bs
  pub lefts : HasItems bs 2 left
  pub rights : HasItems bs middle right
  pub few : left ≤ item_limit
  pub others-few : right ≤ item_limit

-- a rule's words, from its number and the items of its sides
abbrev pub rule_slot : ℕ → List Item → List Item → List ℕ
rule_slot n ls rs = n ∷ length ls ∷ length rs ∷ (padded side_words (slots_of ls) ++ padded side_words (slots_of rs))
