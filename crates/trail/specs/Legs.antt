-- The costly connections of a path, by their ages.
use Rattle.forest.specs.declared.Row.{Row}
use Rattle.std.specs.Prelude.{ℕ, zero, suc, Bool, List, [], ◌∷◌, ◌++◌, length}
use Rattle.model.specs.declared.Connection.{Connection}
use Rattle.model.specs.Forest.{cur, walk}
use Rattle.forest.specs.Rows.{cost_in}

-- a connection on a path: its age, and whether it is walked up, from current to next
pub record Leg : Type 0 where
  pub age : ℕ
  pub up : Bool

-- what costs nothing appends nothing, and is left out
module _ {A : Type 0} where
  abbrev pub costly : ℕ → A → List A
  costly zero a = []
  costly (suc k) a = a ∷ []

-- the costly connections of a path; their ages alone
unfoldable pub legs : List Row → List Connection → ℕ → ℕ → List Leg
unfolding walk
legs rows = walk [] ◌++◌ (λ older _ c u. costly (cost_in rows (cur c)) (record { age = length older; up = u }))

unfoldable pub ages : List Row → List Connection → ℕ → ℕ → List ℕ
unfolding walk
ages rows = walk [] ◌++◌ (λ older _ c u. costly (cost_in rows (cur c)) (length older))
