-- `text::text_len` meets its contract: the bytes of the nodes passed are used up.
use Prim.Native.Nat.{◌*◌}
use Rattle.model.specs.Limits.{flat_words}
use Rattle.text.proofs.Sized.{Sizing}
use Rattle.text.proofs.text_len.Given as goal

abbrev pub invariant-loop-i : goal.invariant-loop-i
invariant-loop-i l = Sizing l.words l.limit l.used l.before (flat_words * l.i)
