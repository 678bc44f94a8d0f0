-- No second outcome fits: two results and two lines that meet a public contract of this crate, for the same arguments, are equal.
use mathlib.Core.Path.{◌≡◌, sym, ◌∙◌}
use contract.Lifetimes.{Lfts}
use Rattle.pieces.specs.declared.Gathered.{Gathered}
use Rattle.pieces.proofs.gather.Reads as gather

-- the result, and the line, its third argument
gather-only : (κs : Lfts 2) (a s s' : _) (r r' : Gathered) → gather.Post κs a r s → gather.Post κs a r' s' →
    (r ≡ r') × (s.1.1.0.now ≡ s'.1.1.0.now)
gather-only κs a s s' r r' p q = (p.0 ∙ sym q.0, p.1 ∙ sym q.1)
