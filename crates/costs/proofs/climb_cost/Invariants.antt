-- `costs::climb_cost` meets its contract: what the climb has cost and what is left of it make the whole sum, held at the cap.
use Prim.Native.Nat.{ℕ, ◌<◌, ◌≤◌}
use mathlib.Core.List.{List}
use Rattle.model.specs.declared.Connection.{Connection}
use Rattle.forest.specs.Rows.{Climbs, depth_in}
use Rattle.costs.specs.Costs.{Above, cost_cap}
use Rattle.costs.proofs.Climbs.{Paid}
use Rattle.costs.proofs.climb_cost.Given as goal

abbrev pub invariant-loop-to : goal.invariant-loop-to
invariant-loop-to l =
    (l.sum ≤ cost_cap)
    × ((cs : List Connection) (n : ℕ) → Climbs cs n l.rows → l.initial.at.0 < n → Above cs l.initial.at.0 l.to.0 → Paid l.rows cs n l.initial.at.0 l.to.0 l.at.0 l.sum)

abbrev pub decreases-loop-to : goal.decreases-loop-to
decreases-loop-to l = depth_in l.rows l.at.0
