-- No second outcome fits: two results that meet the public contract of this crate for the same arguments are equal.
use Prim.Native.Nat.{ℕ}
use mathlib.Core.Path.{◌≡◌, sym, ◌∙◌}
use contract.Lifetimes.{Lfts}
use Rattle.needs.proofs.words_needed.Reads as words-needed

words-needed-only : (κs : Lfts 2) (a s s' : _) (r r' : ℕ) → words-needed.Post κs a r s → words-needed.Post κs a r' s' → r ≡ r'
words-needed-only κs a s s' r r' p q = p ∙ sym q
