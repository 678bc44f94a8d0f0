-- No second outcome fits: two results, and two values left with the caller, that meet a public contract of this crate for the same
-- arguments are equal. Entry points ask nothing of their arguments, so this holds for any words.
use Prim.Native.Nat.{ℕ}
use mathlib.Core.Path.{◌≡◌, sym, ◌∙◌}
use contract.Lifetimes.{Lfts}
use Rattle.explanation_c.proofs.erbighenti_check.Reads as check-in-c
use Rattle.explanation_c.proofs.erbighenti_distance.Reads as distance-in-c
use Rattle.explanation_c.proofs.erbighenti_query.Reads as query-in-c
use Rattle.explanation_c.proofs.erbighenti_term_text.Reads as text_in-c

check-in-c-only : (κs : Lfts 5) (a s s' : _) (r r' : ℕ) → check-in-c.Post κs a r s → check-in-c.Post κs a r' s' →
    (r ≡ r') × (s.1.1.1.1.0.now ≡ s'.1.1.1.1.0.now)
check-in-c-only κs a s s' r r' p q = (p.0 ∙ sym q.0, p.1 ∙ sym q.1)

distance-in-c-only : (κs : Lfts 4) (a s s' : _) (r r' : ℕ) → distance-in-c.Post κs a r s → distance-in-c.Post κs a r' s' →
    (r ≡ r') × (s.1.1.1.1.1.0.now ≡ s'.1.1.1.1.1.0.now)
distance-in-c-only κs a s s' r r' p q = (p.0 ∙ sym q.0, p.1 ∙ sym q.1)

query-in-c-only : (κs : Lfts 6) (a s s' : _) (r r' : ℕ) → query-in-c.Post κs a r s → query-in-c.Post κs a r' s' →
    (r ≡ r')
    × (s.1.1.1.1.1.0.now ≡ s'.1.1.1.1.1.0.now)
    × (s.1.1.1.1.1.1.0.now ≡ s'.1.1.1.1.1.1.0.now)
    × (s.1.1.1.1.1.1.1.0.now ≡ s'.1.1.1.1.1.1.1.0.now)
query-in-c-only κs a s s' r r' p q =
    (p.0 ∙ sym q.0, p.1.1.1 ∙ sym q.1.1.1, p.1.0 ∙ sym q.1.0, p.1.1.0 ∙ sym q.1.1.0)

text_in-c-only : (κs : Lfts 3) (a s s' : _) (r r' : ℕ) → text_in-c.Post κs a r s → text_in-c.Post κs a r' s' →
    (r ≡ r') × (s.1.0.now ≡ s'.1.0.now) × (s.1.1.0.now ≡ s'.1.1.0.now)
text_in-c-only κs a s s' r r' p q = (p.0 ∙ sym q.0, p.1.1 ∙ sym q.1.1, p.1.0 ∙ sym q.1.0)
