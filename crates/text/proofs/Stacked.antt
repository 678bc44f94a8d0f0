-- A room with a text in front and a stack of brackets at the end: bytes written, brackets pushed, counted down and closed.
use Prim.Native.Nat.{ℕ, zero, suc, ◌+◌, ◌-◌, ◌≤◌, ◌<◌}
use native.Mathlib.Omega.{arith}
use native.Mathlib.Nat.{add-zero}
use mathlib.Core.Path.{◌≡◌, refl, sym, ap, ap₂, ◌∙◌}
use mathlib.Core.List.{List, [], ◌∷◌, ◌++◌, append_assoc}
use lib.ListN.{length, get_or, set, take, drop, length-append, length-drop, drop_of_length-le}
use lib.Seq.{drop-cons, drop-drop, drop_at, take_at, length-take-le, ext_get_or, get_or-drop, set_split}
use Rattle.laws.specs.Area.{splice}
use Rattle.laws.proofs.Area.{length-splice, take-splice, splice-behind, splice-end, splice-none, splice-one}
use Rattle.model.specs.Text.{bytes}
use Rattle.text.specs.Nodes.{pushed}
use Rattle.text.specs.Writing.{shut, left, space, less, Ready, Holds}
use Rattle.text.proofs.Emitted.{left-drop}
use Rattle.text.proofs.Heads.{pushed_none, pushed-some}

-- what a writing leaves of the front and of the end
module _ (old : List ℕ) (at : ℕ) (ws : List ℕ) (fits : at + length ws ≤ length old) where
  front : take (at + length ws) (splice old at ws) ≡ take at old ++ ws
  unfolding splice
  front =
      ap (take (at + length ws)) (sym (append_assoc (take at old) ws (drop (at + length ws) old)))
      ∙ take_at (take at old ++ ws) (drop (at + length ws) old) (at + length ws)
      (length-append (take at old) ws ∙ ap (λ (k : ℕ). k + length ws) (length-take-le at old (omega arith)))

  end : drop at (splice old at ws) ≡ ws ++ drop (at + length ws) old
  unfolding splice
  end = drop_at (take at old) (ws ++ drop (at + length ws) old) at (length-take-le at old (omega arith))

  behind : (k : ℕ) → at + length ws ≤ k → drop k (splice old at ws) ≡ drop k old
  behind k h =
      let n = length-splice old at ws fits in
      ext_get_or 0 (drop k (splice old at ws)) (drop k old) (length-drop k (splice old at ws) ∙ ap (λ (l : ℕ). l - k) n ∙ sym (length-drop k old))
      (λ i q. get_or-drop k (splice old at ws) i 0 ∙ splice-behind old at ws fits (k + i) (omega arith) ∙ sym (get_or-drop k old i 0))

pub holds-now : (room : List ℕ) (at top : ℕ) → at ≤ top → top ≤ length room → Holds room at top (take at room) (drop top room)
holds-now room at top h g = record { front = refl; stack = refl; apart = h; inside = g }

pub less-length : (s : List ℕ) → length (less s) ≡ length s
less-length [] = refl
less-length (n ∷ s) = refl

module _ {room : List ℕ} {at top : ℕ} {w st : List ℕ} (h : Holds room at top w st) where
  pub holds-write : (b : List ℕ) {room' : List ℕ} {at' : ℕ} → at + length b ≤ top → at' ≡ at + length b → room' ≡ splice room at b →
      Holds room' at' top (w ++ b) st
  holds-write b {room'} {at'} f e p =
      let fits : at + length b ≤ length room = omega (arith, h.inside) in
      record {
        front = ap₂ take e p ∙ front room at b fits ∙ ap (λ (x : List ℕ). x ++ b) h.front;
        stack = ap (drop top) p ∙ behind room at b fits top f ∙ h.stack;
        apart = omega (arith, e);
        inside = omega (arith, h.inside, ap length p, length-splice room at b fits);
      }

  pub holds-push : (p : List ℕ) {room' : List ℕ} {top' : ℕ} → at + length p ≤ top → top' + length p ≡ top → room' ≡ splice room top' p →
      Holds room' at top' w (p ++ st)
  holds-push p {room'} {top'} f e q =
      let fits : top' + length p ≤ length room = omega (arith, h.inside) in
      record {
        front = ap (take at) q ∙ take-splice room top' p fits at (omega arith) ∙ h.front;
        stack = ap (drop top') q ∙ end room top' p fits ∙ ap (λ (x : List ℕ). p ++ x) (ap (λ (k : ℕ). drop k room) e ∙ h.stack);
        apart = omega arith;
        inside = omega (arith, ap length q, length-splice room top' p fits);
      }

  pub stack-length : top + length st ≡ length room
  stack-length = omega (arith, h.inside, ap length h.stack, length-drop top room)

  pub holds-less : {room' : List ℕ} → room' ≡ splice room top (less st) → Holds room' at top w (less st)
  holds-less {room'} q =
      let n = less-length st in
      let fits : top + length (less st) ≤ length room = omega (arith, n, stack-length) in
      record {
        front = ap (take at) q ∙ take-splice room top (less st) fits at h.apart ∙ h.front;
        stack = ap (drop top) (q ∙ splice-end room top (less st) (omega (arith, n, stack-length)))
            ∙ drop_at (take top room) (less st) top (length-take-le top room h.inside);
        apart = h.apart;
        inside = omega (arith, h.inside, ap length q, length-splice room top (less st) fits);
      }

  shut-short : (s : List ℕ) → length (shut s) ≤ length s
  unfolding shut
  shut-short [] = omega arith
  shut-short (zero ∷ s) = omega (arith, shut-short s)
  shut-short (suc n ∷ s) = omega arith

  pub holds-close : {room' : List ℕ} {k : ℕ} → k ≡ length (shut st) → room' ≡ splice room at (shut st) →
      Holds room' (at + k) (top + k) (w ++ shut st) (left st)
  holds-close {room'} {k} e q =
      let s = shut-short st in
      let fits : at + length (shut st) ≤ length room = omega (arith, s, stack-length, h.apart) in
      record {
        front = ap₂ take (ap (λ (n : ℕ). at + n) e) q ∙ front room at (shut st) fits ∙ ap (λ (x : List ℕ). x ++ shut st) h.front;
        stack = ap₂ drop (ap (λ (n : ℕ). top + n) e) q
            ∙ behind room at (shut st) fits (top + length (shut st)) (omega (arith, h.apart))
            ∙ sym (drop-drop (length (shut st)) top room)
            ∙ ap (drop (length (shut st))) h.stack
            ∙ sym (left-drop st);
        apart = omega (arith, h.apart);
        inside = omega (arith, e, s, stack-length, ap length q, length-splice room at (shut st) fits);
      }

-- a bracket pushed
pub push-none : {k : ℕ} (n : ℕ) (old : List ℕ) (top : ℕ) → k ≡ 0 → (top + length (pushed k n) ≡ top) × (old ≡ splice old top (pushed k n))
push-none n old top e = rw (pushed_none n e) (add-zero top, sym (splice-none old top))

pub push-some : (k n : ℕ) (old : List ℕ) (top : ℕ) → (k ≡ 0 → ⊥) → length (pushed k n) ≤ top → top ≤ length old →
    (top - 1 + length (pushed k n) ≡ top) × (set old (top - 1) n ≡ splice old (top - 1) (pushed k n))
push-some k n old top f h g =
    let e = pushed-some k n f in
    let l = ap length e in
    (omega arith, splice-one old (top - 1) n (omega arith) ∙ ap (splice old (top - 1)) (sym e))

-- a term that begins inside a bracket, and one that is the whole text
module _ (room : List ℕ) (at top : ℕ) where
  module _ (h : top < length room) where
    rest : drop top room ≡ get_or room top 0 ∷ drop (suc top) room
    rest = drop-cons room top 0 h

    pub next-space : space (drop top room) ≡ bytes " "
    next-space = ap space rest

    pub next-ready : Ready (drop top room) → 0 < get_or room top 0
    next-ready r = rw rest at r

    pub next-less : set room top (get_or room top 0 - 1) ≡ splice room top (less (drop top room))
    next-less =
        let s = less (drop top room) in
        set_split room top (get_or room top 0 - 1) h
        ∙ ap (λ (l : List ℕ). take top room ++ l) (sym (ap less rest))
        ∙ sym (splice-end room top s (omega (arith, less-length (drop top room), length-drop top room)))

  pub next-none : length room ≤ top →
      (at ≡ at + length (space (drop top room)))
      × (room ≡ splice (splice room top (less (drop top room))) at (space (drop top room)))
  next-none h =
      let e : drop top room ≡ [] = drop_of_length-le room h in
      rw e (sym (add-zero at), sym (splice-none _ at ∙ splice-none room top))
