-- No second outcome fits: two results and two rooms that meet a public contract of this crate, for the same arguments, are equal.
use Prim.Native.Nat.{ℕ}
use mathlib.Core.Path.{◌≡◌, sym, ◌∙◌}
use contract.Lifetimes.{Lfts}
use Rattle.model.specs.Text.{Printed}
use Rattle.text.proofs.term_text.Reads as term-text
use Rattle.text.proofs.put_lines.Reads as put-lines

-- the answer, and the room, its second argument
term-text-only : (κs : Lfts 2) (a s s' : _) (r r' : Printed) → term-text.Post κs a r s → term-text.Post κs a r' s' →
    (r ≡ r') × (s.1.0.now ≡ s'.1.0.now)
term-text-only κs a s s' r r' p q = (p.0 ∙ sym q.0, p.1 ∙ sym q.1)

-- the end, and the room, its second argument
put-lines-only : (κs : Lfts 2) (a s s' : _) (r r' : ℕ) → put-lines.Post κs a r s → put-lines.Post κs a r' s' →
    (r ≡ r') × (s.1.0.now ≡ s'.1.0.now)
put-lines-only κs a s s' r r' p q = (p.0 ∙ sym q.0, p.1 ∙ sym q.1)
