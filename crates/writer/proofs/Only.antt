-- No second outcome fits: two areas that meet the public contract of this crate, for the same arguments, are equal.
use mathlib.Core.Path.{◌≡◌, sym, ◌∙◌}
use contract.Lifetimes.{Lfts}
use Rattle.writer.proofs.write_proof.Reads as write-proof

-- the area, its second argument
write-proof-only : (κs : Lfts 3) (a s s' r r' : _) → write-proof.Post κs a r s → write-proof.Post κs a r' s' →
    s.1.0.now ≡ s'.1.0.now
write-proof-only κs a s s' r r' p q = p ∙ sym q
