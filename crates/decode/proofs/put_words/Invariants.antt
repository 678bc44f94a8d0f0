-- `decode::put_words` meets its contract: the words passed are written, and the bytes left say those to come.
use Prim.Native.Nat.{◌*◌}
use Rattle.decode.proofs.Asked.{Sixing}
use Rattle.decode.proofs.put_words.Given as goal

abbrev pub invariant-loop-k : goal.invariant-loop-k
invariant-loop-k l = Sixing l.bytes l.initial.area l.area (6 * l.k) (4 * l.k)
