-- No second outcome fits: two pens that meet a public contract of this crate, for the same arguments, are equal.
use Prim.Native.Nat.{ℕ}
use mathlib.Core.Path.{◌≡◌, sym, ◌∙◌}
use contract.Lifetimes.{Lfts}
use Rattle.letters.proofs.Pen.put.Reads as pen-put
use Rattle.letters.proofs.put.Reads as put
use Rattle.letters.proofs.number_len.Reads as number-len
use Rattle.letters.proofs.Pen.put_number.Reads as put-number

-- how far it is written, and the room
pen-put-only : (κs : Lfts 3) (a s s' : _) (r r' : _) → pen-put.Post κs a r s → pen-put.Post κs a r' s' →
    (s.0.now.at ≡ s'.0.now.at) × (s.0.now.room.now ≡ s'.0.now.room.now)
pen-put-only κs a s s' r r' p q = (p.1.0 ∙ sym q.1.0, p.1.1 ∙ sym q.1.1)

-- the end, and the room, its first argument
put_only : (κs : Lfts 2) (a s s' : _) (r r' : ℕ) → put.Post κs a r s → put.Post κs a r' s' → (r ≡ r') × (s.0.now ≡ s'.0.now)
put_only κs a s s' r r' p q = (p.0 ∙ sym q.0, p.1 ∙ sym q.1)

number-len-only : (κs : Lfts 0) (a s s' : _) (r r' : ℕ) → number-len.Post κs a r s → number-len.Post κs a r' s' → r ≡ r'
number-len-only κs a s s' r r' p q = p ∙ sym q

put-number-only : (κs : Lfts 2) (a s s' : _) (r r' : _) → put-number.Post κs a r s → put-number.Post κs a r' s' →
    (s.0.now.at ≡ s'.0.now.at) × (s.0.now.room.now ≡ s'.0.now.room.now)
put-number-only κs a s s' r r' p q = (p.1.0 ∙ sym q.1.0, p.1.1 ∙ sym q.1.1)
