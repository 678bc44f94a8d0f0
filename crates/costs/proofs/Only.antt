-- No second outcome fits: two results, and two tables left, that meet the public contract of this crate for the same arguments are equal.
use Prim.Native.Nat.{ℕ}
use mathlib.Core.Path.{◌≡◌, sym, ◌∙◌}
use contract.Lifetimes.{Lfts}
use Rattle.costs.proofs.distance.Reads as distance

distance-only : (κs : Lfts 2) (a s s' : _) (r r' : ℕ) → distance.Post κs a r s → distance.Post κs a r' s' →
    (r ≡ r') × (s.1.0.now ≡ s'.1.0.now)
distance-only κs a s s' r r' p q = (p.0 ∙ sym q.0, p.1 ∙ sym q.1)
