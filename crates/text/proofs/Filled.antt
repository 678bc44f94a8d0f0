-- Bytes put one after another: a run of equal ones, brackets closed, and one text behind another.
use Prim.Native.Nat.{ℕ, zero, suc, ◌+◌, ◌-◌, ◌≤◌, ◌<◌}
use native.Mathlib.Omega.{arith}
use native.Mathlib.Nat.{add-zero}
use mathlib.Core.Path.{◌≡◌, refl, sym, ap, ap₂, ◌∙◌}
use mathlib.Core.List.{List, [], ◌∷◌, ◌++◌, append_assoc, append-nil}
use lib.ListN.{length, get_or, set, take, drop, replicate, length-append, length-replicate, drop_of_length-le, replicate-append-replicate}
use lib.Seq.{drop-cons, drop-drop}
use Rattle.laws.specs.Area.{splice}
use Rattle.laws.proofs.Area.{length-splice, splice-behind, splice-none, splice-push, splice-more, splice-end}
use Rattle.text.specs.Writing.{closing, shut}

-- the first i bytes of a run are there
pub record Filling (old : List ℕ) (at b : ℕ) (room : List ℕ) (i : ℕ) : Type 0 where
  pub some : at + i ≤ length old
  pub is : room ≡ splice old at (replicate i b)

pub filling-none : (old : List ℕ) (at b : ℕ) → at ≤ length old → Filling old at b old 0
filling-none old at b h = record { some = omega arith; is = sym (splice-none old at) }

run_more : (i b : ℕ) → replicate i b ++ (b ∷ []) ≡ replicate (i + 1) b
run_more i b = replicate-append-replicate i 1 b

module _ {old : List ℕ} {at b : ℕ} {room : List ℕ} {i : ℕ} (h : Filling old at b room i) where
  pub filling-length : length room ≡ length old
  filling-length =
      ap length h.is ∙ length-splice old at (replicate i b) (omega (arith, length-replicate i b, h.some))

  pub filling-more : at + i < length old → Filling old at b (set room (at + i) b) (i + 1)
  filling-more l =
      let n = length-replicate i b in
      record {
        some = omega arith;
        is = ap₂ (λ (s : List ℕ) (k : ℕ). set s (at + k) b) h.is (sym n)
            ∙ splice-push old at (replicate i b) b (omega (arith, n))
            ∙ ap (splice old at) (run_more i b);
      }

  pub filling-all : length old ≤ at + i → room ≡ take at old ++ replicate (length old - at) b
  filling-all l =
      let n : i ≡ length old - at = omega (arith, h.some) in
      h.is ∙ splice-end old at (replicate i b) (omega (arith, length-replicate i b, h.some)) ∙ ap (λ (k : ℕ). take at old ++ replicate k b) n

-- all of a room
pub fill-all : (room : List ℕ) (b : ℕ) → take 0 room ++ replicate (length room - 0) b ≡ replicate (length room) b
fill-all room b = let e : length room - 0 ≡ length room = omega arith in ap (λ (k : ℕ). replicate k b) e

-- the first i brackets of a stack are closed
pub record Closing (old : List ℕ) (at top : ℕ) (room : List ℕ) (i : ℕ) : Type 0 where
  pub fills : Filling old at closing room i
  pub inside : top + i ≤ length old
  pub shuts : shut (drop top old) ≡ replicate i closing ++ shut (drop (top + i) old)

pub closing-none : (old : List ℕ) (at top : ℕ) → at ≤ top → top ≤ length old → Closing old at top old 0
closing-none old at top h g =
    record {
      fills = filling-none old at closing (omega arith);
      inside = omega arith;
      shuts = ap (λ (k : ℕ). shut (drop k old)) (sym (add-zero top));
    }

module _ {old : List ℕ} {at top : ℕ} {room : List ℕ} {i : ℕ} (apart : at ≤ top) (h : Closing old at top room i) where
  -- the next entry is as it was
  entry : get_or room (top + i) 0 ≡ get_or old (top + i) 0
  entry =
      let n = length-replicate i closing in
      ap (λ (s : List ℕ). get_or s (top + i) 0) h.fills.is
      ∙ splice-behind old at (replicate i closing) (omega (arith, n, h.fills.some)) (top + i) (omega (arith, n))

  pub closing-more : top + i < length old → get_or room (top + i) 0 ≡ 0 → Closing old at top (set room (at + i) closing) (i + 1)
  unfolding shut
  closing-more l e =
      let k : suc (top + i) ≡ top + (i + 1) = omega arith in
      let next : drop (top + i) old ≡ 0 ∷ drop (top + (i + 1)) old =
      drop-cons old (top + i) 0 l ∙ ap₂ (λ (x k : ℕ). x ∷ drop k old) (sym entry ∙ e) k in
      record {
        fills = filling-more h.fills (omega arith);
        inside = omega arith;
        shuts = h.shuts
            ∙ ap (λ (s : List ℕ). replicate i closing ++ shut s) next
            ∙ sym (append_assoc (replicate i closing) (closing ∷ []) (shut (drop (top + (i + 1)) old)))
            ∙ ap (λ (s : List ℕ). s ++ shut (drop (top + (i + 1)) old)) (run_more i closing);
      }

  ended : shut (drop (top + i) old) ≡ [] → (i ≡ length (shut (drop top old))) × (room ≡ splice old at (shut (drop top old)))
  ended e =
      let s : shut (drop top old) ≡ replicate i closing =
      h.shuts ∙ ap (λ (x : List ℕ). replicate i closing ++ x) e ∙ append-nil (replicate i closing) in
      (sym (ap length s ∙ length-replicate i closing), h.fills.is ∙ ap (splice old at) (sym s))

  stays : (st : List ℕ) (n : ℕ) (r : List ℕ) → st ≡ n ∷ r → (n ≡ 0 → ⊥) → shut st ≡ []
  unfolding shut
  stays st zero r e f = absurd (f refl)
  stays st (suc n) r e f = rw e refl

  -- at an entry with a term to come, and at the end
  pub closing-stops : top + i < length old → (get_or room (top + i) 0 ≡ 0 → ⊥) →
      (i ≡ length (shut (drop top old))) × (room ≡ splice old at (shut (drop top old)))
  closing-stops l f = ended (stays (drop (top + i) old) (get_or old (top + i) 0) _ (drop-cons old (top + i) 0 l) (λ e. f (entry ∙ e)))

  pub closing-all : length old ≤ top + i → (i ≡ length (shut (drop top old))) × (room ≡ splice old at (shut (drop top old)))
  unfolding shut
  closing-all l = ended (ap shut (drop_of_length-le old l))

-- bytes put behind others
pub record Wrote (old : List ℕ) (at : ℕ) (u room : List ℕ) (to : ℕ) : Type 0 where
  pub end : to ≡ at + length u
  pub fits : to ≤ length old
  pub is : room ≡ splice old at u

module _ {old : List ℕ} {at : ℕ} {u room : List ℕ} {to : ℕ} (h : Wrote old at u room to) where
  pub wrote-length : length room ≡ length old
  wrote-length = ap length h.is ∙ length-splice old at u (omega (arith, h.end, h.fits))

  pub wrote-more : (v : List ℕ) {room' : List ℕ} {to' : ℕ} → to + length v ≤ length old → to' ≡ to + length v → room' ≡ splice room to v →
      Wrote old at (u ++ v) room' to'
  wrote-more v f e p =
      record {
        end = omega (arith, h.end, length-append u v);
        fits = omega arith;
        is = p ∙ ap₂ (λ (s : List ℕ) (k : ℕ). splice s k v) h.is h.end ∙ splice-more old at u v (omega (arith, h.end, h.fits));
      }

-- what was written into a part of a room that was lent on
pub wrote-part : (old ws : List ℕ) (at n : ℕ) → n ≡ length ws → at + n ≤ length old →
    Wrote old at ws (take at old ++ (ws ++ drop (at + n - at) (drop at old))) (at + n)
unfolding splice
wrote-part old ws at n e f =
    let k : at + (at + n - at) ≡ at + length ws = omega arith in
    record {
      end = omega arith;
      fits = f;
      is = ap (λ (l : List ℕ). take at old ++ (ws ++ l)) (drop-drop (at + n - at) at old ∙ ap (λ (i : ℕ). drop i old) k);
    }

-- nothing put, and the same bytes by another name
pub put-none : {l : List ℕ} (old : List ℕ) (at : ℕ) → l ≡ [] → (at ≡ at + length l) × (old ≡ splice old at l)
put-none old at e = rw e (sym (add-zero at), sym (splice-none old at))

pub put_as : (old : List ℕ) (at : ℕ) {room b l : List ℕ} {r : ℕ} → b ≡ l → r ≡ at + length b → room ≡ splice old at b → (r ≡ at + length l) × (room ≡ splice old at l)
put_as old at e p q = rw (← e) (p, q)
