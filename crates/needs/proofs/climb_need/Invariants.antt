-- `needs::climb_need` meets its contract: what the climb has cost and appended, and what is left of it, make the whole sums, held at the cap.
use Prim.Native.Nat.{ℕ, ◌<◌, ◌≤◌}
use mathlib.Core.List.{List}
use Rattle.model.specs.declared.Connection.{Connection}
use Rattle.forest.specs.Rows.{Climbs, depth_in}
use Rattle.costs.specs.Costs.{Above}
use Rattle.trees.specs.Sizes.{node_cap}
use Rattle.needs.proofs.Climbed.{Gone}
use Rattle.needs.proofs.climb_need.Given as goal

abbrev pub invariant-loop-to : goal.invariant-loop-to
invariant-loop-to l =
    (l.cost ≤ node_cap) × (l.nodes ≤ node_cap)
    × ((cs : List Connection) (n : ℕ) → Climbs cs n l.rows → l.initial.at.0 < n → Above cs l.initial.at.0 l.to.0 →
    Gone l.rows l.table cs n l.initial.at.0 l.to.0 l.at.0 l.cost l.nodes)

abbrev pub decreases-loop-to : goal.decreases-loop-to
decreases-loop-to l = depth_in l.rows l.at.0
