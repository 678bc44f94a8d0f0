-- `text::put_lines` meets its contract: the lines of the terms passed are there.
use Prim.Native.Nat.{◌-◌}
use lib.ListN.{length}
use Rattle.text.proofs.Lined.{Lining}
use Rattle.text.proofs.put_lines.Given as goal

abbrev pub invariant-loop-pos : goal.invariant-loop-pos
invariant-loop-pos l = Lining l.words l.initial.room l.at l.room l.end l.pos

abbrev pub decreases-loop-pos : goal.decreases-loop-pos
decreases-loop-pos l = length l.words - l.pos
