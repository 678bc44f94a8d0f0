-- `terms::TwoTerms::same_term` meets its contract. The loop's invariant: what is left of the two terms is the same exactly when the
-- whole terms are. The measure is what is left of the words.
-- Assumes nothing.
use Prim.Native.Nat.{◌-◌}
use lib.ListN.{length}
use Rattle.terms.proofs.SameWalk.{SameHere}
use Rattle.terms.proofs.TwoTerms.same_term.Given as goal

abbrev pub invariant-loop-pending : goal.invariant-loop-pending
invariant-loop-pending l = SameHere l.self.words.now l.self.a l.self.b l.i l.j l.pending

abbrev pub decreases-loop-pending : goal.decreases-loop-pending
decreases-loop-pending l = length l.self.words.now - l.i
