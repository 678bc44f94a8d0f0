-- A digit's value is below 16, and a pair of digits is a byte.
use Prim.Native.Nat.{ℕ, ◌+◌, ◌-◌, ◌≤◌, ◌<◌}
use mathlib.Core.Bool.{Bool, true, false, ◌&&◌, false≢true}
use mathlib.Core.List.{List, [], ◌∷◌, ◌++◌}
use mathlib.Core.Option.{Option, none, some}
use mathlib.Core.Path.{◌≡◌, refl, sym, ap, subst, ◌∙◌}
use native.Mathlib.Omega.{arith}
use borrow.Author.Tests.{le-leb, lt-leb, leb-true}
use lib.Dec.{leb}
use lib.ListN.{length, get_or, drop, length-drop}
use lib.Seq.{get_or-drop, drop-drop}
use Rattle.model.specs.Frame.{is_between, hex_by, hex_digit, byte_front, hex_pairs}
use Rattle.std.specs.Prelude.{Option as Said, Some, None, is_some, IsSome}
use Rattle.laws.specs.Present.{present}
use Rattle.hex_lines.specs.Line.{value_of}

-- what the ranges of a byte say of its value
module _ (b : ℕ) where
  pub below : b < 48 → None ≡ value_of (hex_digit b)
  unfolding hex_digit
  below h = rw (lt-leb 48 b h, lt-leb 97 b (omega arith)) refl

  pub number : 48 ≤ b → b ≤ 57 → Some (b - 48) ≡ value_of (hex_digit b)
  unfolding hex_digit
  number h g = rw (le-leb 48 b h, le-leb b 57 g) refl

  pub between : 57 < b → b < 97 → None ≡ value_of (hex_digit b)
  unfolding hex_digit
  between h g = rw (le-leb 48 b (omega arith), lt-leb b 57 h, lt-leb 97 b g) refl

  pub letter : 97 ≤ b → b ≤ 102 → Some (b - 97 + 10) ≡ value_of (hex_digit b)
  unfolding hex_digit
  letter h g = rw (le-leb 48 b (omega arith), lt-leb b 57 (omega arith), le-leb 97 b h, le-leb b 102 g) (ap Some (omega arith))

  pub above : 102 < b → None ≡ value_of (hex_digit b)
  unfolding hex_digit
  above h = rw (le-leb 48 b (omega arith), lt-leb b 57 (omega arith), le-leb 97 b (omega arith), lt-leb b 102 h) refl

-- a digit's value as a number
abbrev pub digit_of : Option ℕ → ℕ
digit_of none = 0
digit_of (some v) = v

pub said-digit : (o : Option ℕ) {v : ℕ} → value_of o ≡ Some v → v ≡ digit_of o
said-digit none e = let z : ◌≡◌ {A = ℕ} 0 1 = cc in absurd (omega arith)
said-digit (some w) e = cc

pub said-there : (o : Option ℕ) {r : Said ℕ} → r ≡ value_of o → present o ≡ true → IsSome r
said-there o {r} e h = subst IsSome (sym e) (by o h)
  where
    by : (x : Option ℕ) → present x ≡ true → IsSome (value_of x)
    by none q = absurd (false≢true q)
    by (some v) q = refl

pub said-some : (o : Option ℕ) → is_some (value_of o) ≡ present o
said-some none = refl
said-some (some v) = refl

both : (a b : Bool) → a && b ≡ true → (a ≡ true) × (b ≡ true)
both true b e = (refl, e)
both false b e = let z : ◌≡◌ {A = ℕ} 0 1 = cc in absurd (omega arith)

pub small : (b v : ℕ) → hex_digit b ≡ some v → v < 16
unfolding hex_digit
small b v e = by (is_between 48 b 57) (is_between 97 b 102) refl refl e
  where
    by : (s t : Bool) → is_between 48 b 57 ≡ s → is_between 97 b 102 ≡ t → hex_by s t b ≡ some v → v < 16
    by true t p q e =
        let w = both (leb 48 b) (leb b 57) p in
        let d : b - 48 ≡ v = cc in
        omega (arith, leb-true b 57 w.1)
    by false true p q e =
        let w = both (leb 97 b) (leb b 102) q in
        let d : b - 87 ≡ v = cc in
        omega (arith, leb-true b 102 w.1)
    by false false p q e = let z : ◌≡◌ {A = ℕ} 0 1 = cc in absurd (omega arith)

-- the first pair of digits, and those behind it
first-pair : (l : List ℕ) → 2 ≤ length l → hex_pairs l ≡ byte_front (hex_digit (get_or l 0 0)) (hex_digit (get_or l 1 0)) (hex_pairs (drop 2 l))
unfolding hex_pairs
first-pair [] h = absurd (omega arith)
first-pair (a ∷ []) h = absurd (omega arith)
first-pair (a ∷ b ∷ l) h = refl

pub pair-at : (ds : List ℕ) (i : ℕ) → i + 2 ≤ length ds →
    hex_pairs (drop i ds) ≡ byte_front (hex_digit (get_or ds i 0)) (hex_digit (get_or ds (i + 1) 0)) (hex_pairs (drop (i + 2) ds))
pair-at ds i h =
    let first : get_or ds (i + 0) 0 ≡ get_or ds i 0 = ap (λ (k : ℕ). get_or ds k 0) (omega arith) in
    first-pair (drop i ds) (omega (arith, length-drop i ds))
    ∙ rw (get_or-drop i ds 0 0, get_or-drop i ds 1 0, drop-drop 2 i ds, first) refl

-- a pair taken off the digits from a place on, and what is left behind it
pub record TakenOff (ds pair after : List ℕ) (i : ℕ) : Type 0 where
  pub some : i < length ds
  pub high : get_or pair 0 0 ≡ get_or ds i 0
  pub low : get_or pair 1 0 ≡ get_or ds (i + 1) 0
  pub left : after ≡ drop (i + 2) ds

pub taken-off : (ds pair after : List ℕ) (i : ℕ) → drop i ds ≡ pair ++ after → length pair ≡ 2 → TakenOff ds pair after i
taken-off ds [] after i e l = absurd (omega arith)
taken-off ds (a ∷ []) after i e l = absurd (omega arith)
taken-off ds (a ∷ b ∷ c ∷ pair) after i e l = absurd (omega arith)
taken-off ds (a ∷ b ∷ []) after i e l =
    record {
      some = omega (arith, length-drop i ds, ap length e);
      high = ap (λ (x : List ℕ). get_or x 0 0) (sym e) ∙ get_or-drop i ds 0 0 ∙ ap (λ (k : ℕ). get_or ds k 0) (omega arith);
      low = ap (λ (x : List ℕ). get_or x 1 0) (sym e) ∙ get_or-drop i ds 1 0;
      left = ap (drop 2) (sym e) ∙ drop-drop 2 i ds;
    }
