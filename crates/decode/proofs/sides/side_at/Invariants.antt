-- `decode::sides::side_at` meets its contract: the bytes left, and the patterns still to be read, say the rest of the side.
use Prim.Native.Nat.{◌-◌}
use Rattle.model.specs.Limits.{item_limit}
use Rattle.decode.proofs.Found.{Walk}
use Rattle.decode.proofs.sides.side_at.Given as goal

abbrev pub invariant-loop-pending : goal.invariant-loop-pending
invariant-loop-pending l = Walk l.bytes l.at l.pos l.n l.pending

abbrev pub decreases-loop-pending : goal.decreases-loop-pending
decreases-loop-pending l = item_limit - l.n
