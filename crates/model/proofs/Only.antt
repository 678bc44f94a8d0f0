-- No second outcome fits: two results that meet a public contract of this crate, for the same arguments, are equal.
use Prim.Native.Nat.{ℕ}
use mathlib.Core.Path.{◌≡◌, sym, ◌∙◌}
use contract.Lifetimes.{Lfts}
use Rattle.model.proofs.word.Reads as word
use Rattle.model.proofs.U16FromRefusal.from.Reads as u16-from
use Rattle.model.proofs.RejectionFromRefusal.from.Reads as rejection-from

word-only : (κs : Lfts 1) (a s s' : _) (r r' : ℕ) → word.Post κs a r s → word.Post κs a r' s' → r ≡ r'
word-only κs a s s' r r' p q = p ∙ sym q

u16-from-only : (κs : Lfts 0) (a s s' : _) (r r' : _) → u16-from.Post κs a r s → u16-from.Post κs a r' s' → r ≡ r'
u16-from-only κs a s s' r r' p q = p ∙ sym q

rejection-from-only : (κs : Lfts 0) (a s s' : _) (r r' : _) → rejection-from.Post κs a r s → rejection-from.Post κs a r' s' → r ≡ r'
rejection-from-only κs a s s' r r' p q = p ∙ sym q
