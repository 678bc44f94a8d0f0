-- `forest::settle_all` meets its contract: the depths of the nodes passed are there, and those that are there are right.
use mathlib.Core.List.{List}
use Rattle.forest.specs.declared.Row.{Row}
use Rattle.model.specs.declared.Connection.{Connection}
use Rattle.forest.specs.Filling.{DepthsKnown, Sounded}
use Rattle.forest.proofs.settle_all.Given as goal

abbrev pub invariant-loop-i : goal.invariant-loop-i
invariant-loop-i l =
    ((cs : List Connection) (old : List Row) → Sounded cs l.n old l.initial.rows → Sounded cs l.n old l.rows × DepthsKnown l.i l.rows)
