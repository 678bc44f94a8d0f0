-- `terms::subterm_end` meets its contract. The loop's invariant: the walk from here on, with the terms still to be read, finds
-- what the whole walk finds. The measure is what is left of the words.
-- Assumes nothing.
use Prim.Native.Nat.{◌-◌}
use lib.ListN.{length}
use Rattle.terms.proofs.Walk.{Walking}
use Rattle.terms.proofs.subterm_end.Given as goal

abbrev pub invariant-loop-pending : goal.invariant-loop-pending
invariant-loop-pending l = Walking l.words l.at l.pos l.pending

abbrev pub decreases-loop-pending : goal.decreases-loop-pending
decreases-loop-pending l = length l.words - l.pos
