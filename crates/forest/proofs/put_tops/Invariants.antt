-- `forest::put_tops` meets its contract: the rows passed are those of nodes without a parent, and what stands behind them is as it was.
use mathlib.Core.List.{[]}
use Rattle.forest.specs.Filling.{Tied, DepthsUnknown}
use Rattle.forest.proofs.put_tops.Given as goal

abbrev pub invariant-loop-i : goal.invariant-loop-i
invariant-loop-i l = Tied [] l.i l.initial.rows l.rows × DepthsUnknown l.i l.rows
