-- `forest::meet` meets its contract: the deeper of the two ends climbs, and where they meet stays the same.
use Prim.Native.Nat.{ℕ, ◌+◌, ◌<◌}
use mathlib.Core.List.{List}
use Rattle.model.specs.declared.Connection.{Connection}
use Rattle.forest.specs.Rows.{Climbs, depth_in}
use Rattle.forest.proofs.Climbing.{Nearing}
use Rattle.forest.proofs.meet.Given as goal

abbrev pub invariant-loop-r : goal.invariant-loop-r
invariant-loop-r l =
    (cs : List Connection) (n : ℕ) → Climbs cs n l.rows → l.initial.l.0 < n → l.initial.r.0 < n → Nearing cs n l.initial.l.0 l.initial.r.0 l.l.0 l.r.0

abbrev pub decreases-loop-r : goal.decreases-loop-r
decreases-loop-r l = depth_in l.rows l.l.0 + depth_in l.rows l.r.0
