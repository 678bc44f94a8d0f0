-- `forest::settle` meets its contract: the depth that is written is that of where the climb is, as long as that is not known.
use Prim.Native.Nat.{ℕ, ◌<◌}
use mathlib.Core.List.{List}
use Rattle.forest.specs.declared.Row.{Row}
use Rattle.model.specs.declared.Connection.{Connection}
use Rattle.forest.specs.Filling.{Sounded}
use Rattle.forest.proofs.Climbing.{Settling}
use Rattle.forest.proofs.settle.Given as goal

abbrev pub invariant-loop-at : goal.invariant-loop-at
invariant-loop-at l =
    (cs : List Connection) (k : ℕ) (old : List Row) → Sounded cs k old l.initial.rows → l.initial.at.0 < k →
    Settling cs k old l.initial.rows l.rows l.initial.at.0 l.at.0 l.depth

abbrev pub decreases-loop-at : goal.decreases-loop-at
decreases-loop-at l = l.depth
