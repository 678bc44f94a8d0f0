-- `marks::to_mark` meets its contract. The loop's invariant: what is left, from its first mark on, is that of the row.
-- The measure is what is left of the words. Assumes nothing.
use Prim.Native.Nat.{◌+◌, ◌-◌, ◌*◌}
use lib.ListN.{length}
use Rattle.model.specs.Limits.{flat_words}
use Rattle.marks.proofs.Walk.{WalkHere}
use Rattle.marks.proofs.to_mark.Given as goal

abbrev pub invariant-loop-pending : goal.invariant-loop-pending
invariant-loop-pending l = WalkHere l.words l.at l.count l.nodes l.pending

abbrev pub decreases-loop-pending : goal.decreases-loop-pending
decreases-loop-pending l = length l.words - (l.at + flat_words * l.nodes)
