-- `terms::whole_terms` meets its contract. The loop's invariant: the terms passed and those from here on are what the whole
-- words say. The measure is what is left of the words.
-- Assumes nothing.
use Prim.Native.Nat.{◌-◌}
use lib.ListN.{length}
use Rattle.terms.proofs.Counted.{Counting}
use Rattle.terms.proofs.whole_terms.Given as goal

abbrev pub invariant-loop-pos : goal.invariant-loop-pos
invariant-loop-pos l = Counting l.words l.pos l.n

abbrev pub decreases-loop-pos : goal.decreases-loop-pos
decreases-loop-pos l = length l.words - l.pos
