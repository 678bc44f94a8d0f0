-- The item that bytes begin with, by the first of them.
use Prim.Native.Nat.{ℕ, zero, suc, ◌+◌, ◌-◌, ◌≤◌, ◌<◌}
use mathlib.Core.Bool.{Bool, true, false}
use mathlib.Core.List.{List, [], ◌∷◌}
use mathlib.Core.Path.{◌≡◌, refl, sym, ap, ap₂, subst, ◌∙◌}
use Rattle.std.proofs.Common.{Option, Some, None}
use native.Mathlib.Omega.{arith}
use borrow.Author.Tests.{lt-ltb, le-ltb, le-leb, lt-leb, leb-true}
use lib.Dec.{leb, ltb}
use lib.ListN.{length, get_or, drop, length-drop}
use lib.Seq.{get_or-drop}
use Rattle.model.specs.Limits.{child_limit, variable_limit}
use Rattle.model.specs.Frame.{two}
use Rattle.layouts.specs.Words.{item_kind, item_field, item_count}
use Rattle.decode.specs.declared.sides.Part.{Part}
use Rattle.decode.specs.Sides.{part_if, part_of, item_of}

no_byte : (l : List ℕ) → length l ≡ 0 → None ≡ part_of l
unfolding part_of
no_byte [] h = refl
no_byte (b ∷ l) h = absurd (omega arith)

one_byte : (l : List ℕ) → get_or l 0 0 ≡ 0 → length l < 2 → None ≡ part_of l
unfolding part_of
one_byte [] e h = refl
one_byte (zero ∷ []) e h = refl
one_byte (suc k ∷ []) e h = absurd (omega arith)
one_byte (a ∷ b ∷ l) e h = absurd (omega arith)

two_bytes : (l : List ℕ) → get_or l 0 0 ≡ 0 → 2 ≤ length l → part_if (ltb (get_or l 1 0) variable_limit) (record { size = 2; kind = 0; field = get_or l 1 0; count = 0 }) ≡ part_of l
unfolding part_of
two_bytes [] e h = absurd (omega arith)
two_bytes (a ∷ []) e h = absurd (omega arith)
two_bytes (zero ∷ x ∷ l) e h = refl
two_bytes (suc k ∷ x ∷ l) e h = absurd (omega arith)

three-bytes : (l : List ℕ) → get_or l 0 0 ≡ 1 → length l < 4 → None ≡ part_of l
unfolding part_of
three-bytes [] e h = refl
three-bytes (zero ∷ l) e h = absurd (omega arith)
three-bytes (suc zero ∷ []) e h = refl
three-bytes (suc zero ∷ a ∷ []) e h = refl
three-bytes (suc zero ∷ a ∷ b ∷ []) e h = refl
three-bytes (suc zero ∷ a ∷ b ∷ c ∷ l) e h = absurd (omega arith)
three-bytes (suc (suc k) ∷ l) e h = absurd (omega arith)

four_bytes : (l : List ℕ) → get_or l 0 0 ≡ 1 → 4 ≤ length l →
    part_if (leb (get_or l 3 0) child_limit) (record { size = 4; kind = 1; field = two (get_or l 1 0) (get_or l 2 0); count = get_or l 3 0 }) ≡ part_of l
unfolding part_of
four_bytes [] e h = absurd (omega arith)
four_bytes (zero ∷ l) e h = absurd (omega arith)
four_bytes (suc zero ∷ []) e h = absurd (omega arith)
four_bytes (suc zero ∷ a ∷ []) e h = absurd (omega arith)
four_bytes (suc zero ∷ a ∷ b ∷ []) e h = absurd (omega arith)
four_bytes (suc zero ∷ a ∷ b ∷ c ∷ l) e h = refl
four_bytes (suc (suc k) ∷ l) e h = absurd (omega arith)

other-kind : (l : List ℕ) → (get_or l 0 0 ≡ 0 → ⊥) → (get_or l 0 0 ≡ 1 → ⊥) → None ≡ part_of l
unfolding part_of
other-kind [] h g = refl
other-kind (zero ∷ l) h g = absurd (h refl)
other-kind (suc zero ∷ l) h g = absurd (g refl)
other-kind (suc (suc k) ∷ l) h g = refl

-- the same of the bytes from a place on
module _ (bs : List ℕ) (at : ℕ) where
  first : get_or (drop at bs) 0 0 ≡ get_or bs at 0
  first = get_or-drop at bs 0 0 ∙ ap (λ (k : ℕ). get_or bs k 0) (omega arith)

  pub none_left : length bs - at ≡ 0 → None ≡ part_of (drop at bs)
  none_left h = no_byte (drop at bs) (length-drop at bs ∙ h)

  pub cut-variable : get_or bs at 0 ≡ 0 → length bs - at < 2 → None ≡ part_of (drop at bs)
  cut-variable e h = one_byte (drop at bs) (first ∙ e) (omega (arith, length-drop at bs))

  variable-there : (x : ℕ) → get_or bs at 0 ≡ 0 → 2 ≤ length bs - at → x ≡ get_or bs (at + 1) 0 →
      part_if (ltb x variable_limit) (record { size = 2; kind = 0; field = x; count = 0 }) ≡ part_of (drop at bs)
  variable-there x e h d =
      let w : x ≡ get_or (drop at bs) 1 0 = d ∙ sym (get_or-drop at bs 1 0) in
      rw w (two_bytes (drop at bs) (first ∙ e) (omega (arith, length-drop at bs)))

  pub a-variable : (x y : ℕ) → get_or bs at 0 ≡ 0 → 2 ≤ length bs - at → x ≡ get_or bs (at + 1) 0 → y ≡ x → y < variable_limit →
      Some (record { size = 2; kind = 0; field = x; count = 0 }) ≡ part_of (drop at bs)
  a-variable x y e h d w g = rw (lt-ltb x variable_limit (omega arith)) at (variable-there x e h d)

  pub no-variable : (x y : ℕ) → get_or bs at 0 ≡ 0 → 2 ≤ length bs - at → x ≡ get_or bs (at + 1) 0 → y ≡ x → variable_limit ≤ y → None ≡ part_of (drop at bs)
  no-variable x y e h d w g = rw (le-ltb x variable_limit (omega arith)) at (variable-there x e h d)

  pub cut-operator : get_or bs at 0 ≡ 1 → length bs - at < 4 → None ≡ part_of (drop at bs)
  cut-operator e h = three-bytes (drop at bs) (first ∙ e) (omega (arith, length-drop at bs))

  operator-there : (o c : ℕ) → get_or bs at 0 ≡ 1 → 4 ≤ length bs - at → o ≡ two (get_or bs (at + 1) 0) (get_or bs (at + 1 + 1) 0) → c ≡ get_or bs (at + 3) 0 →
      part_if (leb c child_limit) (record { size = 4; kind = 1; field = o; count = c }) ≡ part_of (drop at bs)
  operator-there o c e h p q =
      let two-on : get_or bs (at + 1 + 1) 0 ≡ get_or bs (at + 2) 0 = ap (λ (k : ℕ). get_or bs k 0) (omega arith) in
      let w : o ≡ two (get_or (drop at bs) 1 0) (get_or (drop at bs) 2 0) =
      p ∙ ap₂ two (sym (get_or-drop at bs 1 0)) (two-on ∙ sym (get_or-drop at bs 2 0)) in
      let v : c ≡ get_or (drop at bs) 3 0 = q ∙ sym (get_or-drop at bs 3 0) in
      rw (w, v) (four_bytes (drop at bs) (first ∙ e) (omega (arith, length-drop at bs)))

  pub an-operator : (o c : ℕ) → get_or bs at 0 ≡ 1 → 4 ≤ length bs - at → o ≡ two (get_or bs (at + 1) 0) (get_or bs (at + 1 + 1) 0) → c ≡ get_or bs (at + 3) 0 →
      c ≤ child_limit → Some (record { size = 4; kind = 1; field = o; count = c }) ≡ part_of (drop at bs)
  an-operator o c e h p q g = rw (le-leb c child_limit g) at (operator-there o c e h p q)

  pub no-operator : (c : ℕ) → get_or bs at 0 ≡ 1 → 4 ≤ length bs - at → c ≡ get_or bs (at + 3) 0 → child_limit < c → None ≡ part_of (drop at bs)
  no-operator c e h q g = rw (lt-leb c child_limit g) at (operator-there _ c e h refl q)

  pub no_kind : (get_or bs at 0 ≡ 0 → ⊥) → (get_or bs at 0 ≡ 1 → ⊥) → None ≡ part_of (drop at bs)
  no_kind h g = other-kind (drop at bs) (λ e. h (sym first ∙ e)) (λ e. g (sym first ∙ e))

-- What holds of the item: it stands in the bytes, has few children, and its words are its item's.
pub record Sound (l : List ℕ) (p : Part) : Type 0 where
  pub fits : p.size ≤ length l
  pub few : p.count ≤ child_limit
  pub kind : item_kind (item_of p) ≡ p.kind
  pub field : item_field (item_of p) ≡ p.field
  pub number : item_count (item_of p) ≡ p.count

abbrev pub SoundIf : List ℕ → Option Part → Type 0
SoundIf l None = Unit {0}
SoundIf l (Some p) = Sound l p

sound-if : (l : List ℕ) → SoundIf l (part_of l)
unfolding part_of
sound-if [] = tt
sound-if (zero ∷ []) = tt
sound-if (zero ∷ x ∷ l) = by (ltb x variable_limit)
  where
    by : (b : Bool) → SoundIf (0 ∷ x ∷ l) (part_if b (record { size = 2; kind = 0; field = x; count = 0 }))
    by true = record { fits = omega arith; few = omega arith; kind = refl; field = refl; number = refl }
    by false = tt
sound-if (suc zero ∷ []) = tt
sound-if (suc zero ∷ a ∷ []) = tt
sound-if (suc zero ∷ a ∷ b ∷ []) = tt
sound-if (suc zero ∷ a ∷ b ∷ c ∷ l) = by (leb c child_limit) refl
  where
    by : (t : Bool) → leb c child_limit ≡ t → SoundIf (1 ∷ a ∷ b ∷ c ∷ l) (part_if t (record { size = 4; kind = 1; field = two a b; count = c }))
    by true e = record { fits = omega arith; few = leb-true c child_limit e; kind = refl; field = refl; number = refl }
    by false e = tt
sound-if (suc (suc k) ∷ l) = tt

pub sound : (l : List ℕ) (p : Part) → Some p ≡ part_of l → Sound l p
sound l p e = subst (SoundIf l) (sym e) (sound-if l)
