-- `hex_lines::put_bytes` meets its contract: the bytes passed are written, and the digits left spell those to come.
use Prim.Native.Nat.{◌*◌}
use mathlib.Core.Path.{◌≡◌}
use lib.ListN.{drop}
use Rattle.hex_lines.proofs.Spelled.{Spelling}
use Rattle.hex_lines.proofs.put_bytes.Given as goal

abbrev pub invariant-loop-i : goal.invariant-loop-i
invariant-loop-i l =
    Spelling l.digits l.initial.bytes l.bytes (2 * l.i-iterator.count) l.i-iterator.count
    × (l.i-iterator.iter.rest.now ≡ drop (2 * l.i-iterator.count) l.digits)
    × (l.i-iterator.iter.size ≡ 2)
