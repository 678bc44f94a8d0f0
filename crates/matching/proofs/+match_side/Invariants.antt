-- The proof of the cycle of calls {match_side}. The measure is what is left of the side's words.
-- Assumes nothing.
use Prim.Native.Nat.{◌-◌}
use lib.ListN.{length}
use Rattle.matching.proofs.+match_side.Given as goal

abbrev pub decreases-match_side : goal.decreases-match_side
decreases-match_side l = length l.side.now - l.item
