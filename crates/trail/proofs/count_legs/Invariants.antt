-- `trail::count_legs` meets its contract: what is counted and what is left make the whole climb.
use Prim.Native.Nat.{ℕ, ◌<◌}
use mathlib.Core.List.{List}
use mathlib.Core.Path.{◌≡◌}
use lib.ListN.{length}
use Rattle.model.specs.declared.Connection.{Connection}
use Rattle.forest.specs.Rows.{Climbs, depth_in}
use Rattle.costs.specs.Costs.{Above}
use Rattle.trail.proofs.Laying.{Climb}
use Rattle.trail.proofs.count_legs.Given as goal

-- as many are counted as were passed
abbrev pub Counted : ℕ → List ℕ → Type 0
Counted count done = count ≡ length done

abbrev pub invariant-loop-to : goal.invariant-loop-to
invariant-loop-to l =
    (cs : List Connection) (n : ℕ) → Climbs cs n l.rows → l.initial.at.0 < n → Above cs l.initial.at.0 l.to.0 → Climb l.rows cs n l.initial.at.0 l.to.0 l.at.0 (Counted l.count)

abbrev pub decreases-loop-to : goal.decreases-loop-to
decreases-loop-to l = depth_in l.rows l.at.0
