-- `text::close` meets its contract: the brackets passed are closed.
use Prim.Native.Nat.{◌-◌}
use mathlib.Core.Path.{◌≡◌}
use lib.ListN.{length}
use Rattle.text.proofs.Filled.{Closing}
use Rattle.text.proofs.close.Given as goal

abbrev pub invariant-loop-i : goal.invariant-loop-i
invariant-loop-i l = (l.n ≡ length l.initial.room - l.top) × Closing l.initial.room l.at l.top l.room l.i

abbrev pub decreases-loop-i : goal.decreases-loop-i
decreases-loop-i l = l.n - l.i
