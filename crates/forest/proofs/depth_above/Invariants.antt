-- `forest::depth_above` meets its contract: the steps taken and the depth of where the climb is make the depth of where it began.
use Prim.Native.Nat.{ℕ, ◌-◌, ◌<◌}
use mathlib.Core.List.{List}
use Rattle.forest.specs.declared.Row.{Row}
use Rattle.model.specs.Limits.{node_limit}
use Rattle.model.specs.declared.Connection.{Connection}
use Rattle.forest.specs.Filling.{Sounded}
use Rattle.forest.proofs.Climbing.{Sought}
use Rattle.forest.proofs.depth_above.Given as goal

abbrev pub invariant-loop-steps : goal.invariant-loop-steps
invariant-loop-steps l =
    (cs : List Connection) (k : ℕ) (old : List Row) → Sounded cs k old l.rows → l.initial.at.0 < k → Sought cs k l.initial.at.0 l.at.0 l.steps

abbrev pub decreases-loop-steps : goal.decreases-loop-steps
decreases-loop-steps l = node_limit - l.steps
