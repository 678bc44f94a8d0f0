-- `decode::sides::put_items` meets its contract: the words of the items passed are written, and the bytes left say those to come.
use Prim.Native.Nat.{◌+◌, ◌*◌, ◌-◌}
use Rattle.model.specs.Tables.{item_words}
use Rattle.decode.proofs.Written.{Writing}
use Rattle.decode.proofs.sides.put_items.Given as goal

abbrev pub invariant-loop-k : goal.invariant-loop-k
invariant-loop-k l = Writing l.bytes l.at l.items l.place l.initial.slot l.slot l.pos (l.place + item_words * l.k) (l.items - l.k)
