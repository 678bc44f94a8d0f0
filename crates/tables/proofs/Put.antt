-- An entry written into the slot behind the first n of a table, where the frame says one: the words before and behind it stay.
use Prim.Native.Nat.{ℕ, ◌+◌, ◌*◌, ◌-◌, ◌≤◌}
use mathlib.Core.List.{List}
use mathlib.Core.Option.{Option, none, some}
use mathlib.Core.Path.{◌≡◌, refl, sym, ap, ◌∙◌}
use native.Mathlib.Omega.{arith}
use borrow.Rule.Slice.PartMut.{mid_of, put_mid}
use lib.ListN.{length, take}
use Rattle.laws.specs.Area.{splice, part}
use Rattle.laws.proofs.Area.{length-splice, length_part, take-splice, part-written}
use Rattle.laws.proofs.Lent.{lent-part, lent_back}
use Rattle.decode.specs.Slot.{slot_by}

module _ {E : Type 0} (words_of : E → List ℕ) (size : ℕ) (ws : List ℕ) (n : ℕ) (room : n * size + size ≤ length ws) (o : Option E)
    (sized : (e : E) → o ≡ some e → length (words_of e) ≡ size) where
  abbrev slot : List ℕ
  slot = slot_by words_of (part ws (n * size) size) o

  slot-long : length slot ≡ size
  slot-long = by o refl sized
    where
      by : (p : Option E) → o ≡ p → ((e : E) → p ≡ some e → length (words_of e) ≡ size) → length (slot_by words_of (part ws (n * size) size) p) ≡ size
      by none q s = length_part ws (n * size) size room
      by (some e) q s = s e refl

  abbrev put : List ℕ
  put = splice ws (n * size) slot

  pub put-long : length (splice ws (n * size) (slot_by words_of (part ws (n * size) size) o)) ≡ length ws
  put-long = length-splice ws (n * size) slot (omega (arith, slot-long))

  pub put_front : take (n * size) ws ≡ take (n * size) (splice ws (n * size) (slot_by words_of (part ws (n * size) size) o))
  put_front = sym (take-splice ws (n * size) slot (omega (arith, slot-long)) (n * size) (omega arith))

  -- the slot's words
  pub put-slot : (e : E) → o ≡ some e → part (splice ws (n * size) (slot_by words_of (part ws (n * size) size) o)) (n * size) size ≡ words_of e
  put-slot e q =
      ap (part put (n * size)) (sym slot-long) ∙ part-written ws (n * size) slot (omega (arith, slot-long))
      ∙ ap (slot_by words_of (part ws (n * size) size)) q

  -- a call that wrote the slot wrote this table
  pub put_back : (new : List ℕ) → new ≡ slot_by words_of (mid_of (n * size) (n * size + size - n * size) ws) o →
      put_mid (n * size) (n * size + size - n * size) ws new ≡ splice ws (n * size) (slot_by words_of (part ws (n * size) size) o)
  put_back new e =
      let is : new ≡ slot = e ∙ ap (λ (l : List ℕ). slot_by words_of l o) (lent-part ws (n * size) size) in
      lent_back ws new (n * size) size (ap length is ∙ slot-long) ∙ ap (splice ws (n * size)) is
