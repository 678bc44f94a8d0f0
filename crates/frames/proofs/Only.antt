-- No second outcome fits the end of the input: what is printed, and every byte of the room. Of a line, the contract fixes the turn, the
-- bytes that it prints and all that the counts cover; what stands behind these plays no part.
use Prim.Native.Nat.{ℕ}
use mathlib.Core.Path.{◌≡◌, sym, ◌∙◌}
use contract.Lifetimes.{Lfts}
use Rattle.frames.proofs.finish.Reads as finish

finish-only : (κs : Lfts 1) (a s s' : _) (r r' : ℕ) → finish.Post κs a r s → finish.Post κs a r' s' →
    (r ≡ r') × (s.1.1.1.0.now ≡ s'.1.1.1.0.now)
finish-only κs a s s' r r' p q = (p.0 ∙ sym q.0, p.1 ∙ sym q.1)
