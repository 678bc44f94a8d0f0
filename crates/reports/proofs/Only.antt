-- No second outcome fits: two results, and two rooms left with the caller, that meet a public contract of this crate for the same
-- arguments are equal.
use Prim.Native.Nat.{ℕ}
use mathlib.Core.Path.{◌≡◌, sym, ◌∙◌}
use contract.Lifetimes.{Lfts}
use denote.RattleType.{RattleType}
use Rattle.reports.proofs.put_refusal.Reads as put-refusal
use Rattle.reports.proofs.put_rejection.Reads as put-rejection
use Rattle.reports.proofs.put_verdict.Reads as put-verdict
use Rattle.reports.proofs.put_distance.Reads as put-distance
use Rattle.reports.proofs.RejectionTold.told.Reads as rejection-told
use Rattle.reports.proofs.Tuple2U16UsizeTold.told.Reads as number-told

put-refusal-only : (κs : Lfts 1) (a s s' : _) (r r' : ℕ) → put-refusal.Post κs a r s → put-refusal.Post κs a r' s' →
    (r ≡ r') × (s.0.now ≡ s'.0.now)
put-refusal-only κs a s s' r r' p q = (p.0 ∙ sym q.0, p.1 ∙ sym q.1)

put-rejection-only : (κs : Lfts 1) (a s s' : _) (r r' : ℕ) → put-rejection.Post κs a r s → put-rejection.Post κs a r' s' →
    (r ≡ r') × (s.0.now ≡ s'.0.now)
put-rejection-only κs a s s' r r' p q = (p.0 ∙ sym q.0, p.1 ∙ sym q.1)

-- whatever refuses, and however it is told
put-verdict-only : (R : RattleType) (laws copy told told_dict clone clone_dict : _) (κs : Lfts 2) (a s s' : _) (r r' : ℕ) →
    put-verdict.Post R laws copy told told_dict clone clone_dict κs a r s → put-verdict.Post R laws copy told told_dict clone clone_dict κs a r' s' →
    (r ≡ r') × (s.0.now ≡ s'.0.now)
put-verdict-only R laws copy told told_dict clone clone_dict κs a s s' r r' p q = (p.0 ∙ sym q.0, p.1 ∙ sym q.1)

put-distance-only : (κs : Lfts 1) (a s s' : _) (r r' : ℕ) → put-distance.Post κs a r s → put-distance.Post κs a r' s' →
    (r ≡ r') × (s.0.now ≡ s'.0.now)
put-distance-only κs a s s' r r' p q = (p.0 ∙ sym q.0, p.1 ∙ sym q.1)

rejection-told-only : (κs : Lfts 0) (a s s' : _) (r r' : _) → rejection-told.Post κs a r s → rejection-told.Post κs a r' s' →
    (r.0 ≡ r'.0) × (r.1 ≡ r'.1)
rejection-told-only κs a s s' r r' p q = (p.0 ∙ sym q.0, p.1 ∙ sym q.1)

number-told-only : (κs : Lfts 0) (a s s' : _) (r r' : _) → number-told.Post κs a r s → number-told.Post κs a r' s' →
    (r.0 ≡ r'.0) × (r.1 ≡ r'.1)
number-told-only κs a s s' r r' p q = (p.0 ∙ sym q.0, p.1 ∙ sym q.1)
