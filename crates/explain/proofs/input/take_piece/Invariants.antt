-- `explain::input::take_piece` meets its contract: each step makes the chain longer, up to the piece's end.
use Prim.Native.Nat.{◌≤◌, ◌-◌}
use lib.ListN.{length}
use Rattle.reader.specs.Fold.{Through}
use Rattle.explain.proofs.input.take_piece.Given as goal

abbrev pub invariant-loop-from : goal.invariant-loop-from
invariant-loop-from l =
    Through l.piece l.initial.place l.initial.memory.store l.initial.memory.line 0 l.place l.memory.store l.memory.line l.from
    × (l.from ≤ length l.piece)

abbrev pub decreases-loop-from : goal.decreases-loop-from
decreases-loop-from l =
    length l.piece - l.from
