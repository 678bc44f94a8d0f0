-- No second line fits: what is held of the line behind a piece is determined, byte for byte. Of the answer the contract fixes the turn, the
-- bytes printed and all that the counts cover, as `frames` does.
use mathlib.Core.Path.{◌≡◌, sym, ◌∙◌}
use contract.Lifetimes.{Lfts}
use Rattle.reader.specs.Reading.{Advance}
use Rattle.reader.proofs.read_on.Reads as read-on

-- the line, its fourth argument
read-on-only : (κs : Lfts 4) (a s s' : _) (r r' : Advance) → read-on.Post κs a r s → read-on.Post κs a r' s' →
    s.1.1.1.0.now ≡ s'.1.1.1.0.now
read-on-only κs a s s' r r' p q = p.1 ∙ sym q.1
