-- Lines: the walk over pairs of digits finds whether there is one.
use Prim.Native.Nat.{ℕ, zero, suc, ◌+◌, ◌%◌, ◌≤◌, ◌<◌}
use mathlib.Core.Bool.{Bool, true, false, false≢true}
use mathlib.Core.List.{List, [], ◌∷◌}
use mathlib.Core.Option.{Option, none, some}
use mathlib.Core.Path.{◌≡◌, refl, sym, ap, ◌∙◌}
use native.Mathlib.Omega.{arith}
use borrow.Author.Tests.{le-leb, lt-leb, leb-true, leb-false}
use lib.Dec.{leb}
use lib.ListN.{length, get_or, take}
use lib.Seq.{take_all, length-take-le}
use Rattle.model.specs.Limits.{digit_limit}
use Rattle.model.specs.Frame.{hex_digit, byte_front, hex_pairs, line_bytes}
use Rattle.laws.specs.Present.{present}
use Rattle.hex_lines.specs.Line.{value_of}
use Rattle.hex_lines.proofs.Digits.{said-some}
use Rattle.std.specs.Prelude.{◌↔◌, is_some, EachIndex}

-- "is empty, exceeds 8,192 digits"
module _ (ds : List ℕ) where
  pub no-digits : length ds ≡ 0 → false ≡ present (line_bytes ds)
  unfolding line_bytes
  no-digits h = rw (lt-leb 1 (length ds) (omega arith)) refl

  pub many-digits : digit_limit < length ds → line_bytes ds ≡ none
  unfolding line_bytes
  many-digits h = rw (le-leb 1 (length ds) (omega arith), lt-leb (length ds) digit_limit h) refl

  pub as-pairs : (length ds ≡ 0 → ⊥) → length ds ≤ digit_limit → line_bytes ds ≡ hex_pairs ds
  unfolding line_bytes
  as-pairs h g = rw (le-leb 1 (length ds) (omega arith), le-leb (length ds) digit_limit g) refl

-- a longer line cut behind its first digit too many is no line either: a reader keeps no more
pub cut_line : (ds : List ℕ) → line_bytes (take (digit_limit + 1) ds) ≡ line_bytes ds
cut_line ds = by (leb (length ds) digit_limit) refl
  where
    by : (b : Bool) → leb (length ds) digit_limit ≡ b → line_bytes (take (digit_limit + 1) ds) ≡ line_bytes ds
    by true e = let h = leb-true (length ds) digit_limit e in ap line_bytes (take_all (digit_limit + 1) ds (omega arith))
    by false e =
        let h = leb-false (length ds) digit_limit e in
        many-digits (take (digit_limit + 1) ds) (omega (arith, length-take-le (digit_limit + 1) ds (omega arith))) ∙ sym (many-digits ds (omega arith))

pub odd-digits : (ds : List ℕ) → (length ds % 2 ≡ 0 → ⊥) → present (hex_pairs ds) ≡ false
unfolding hex_pairs
odd-digits [] h = absurd (h refl)
odd-digits (a ∷ []) h = refl
odd-digits (a ∷ b ∷ ds) h = no_byte (hex_digit a) (hex_digit b) (hex_pairs ds) (odd-digits ds (λ e. h (omega (arith, e))))
  where
    no_byte : (h l : Option ℕ) (r : Option (List ℕ)) → present r ≡ false → present (byte_front h l r) ≡ false
    no_byte none l r e = refl
    no_byte (some h) none r e = refl
    no_byte (some h) (some l) none e = refl
    no_byte (some h) (some l) (some bs) e = e

no-low : (h : Option ℕ) (r : Option (List ℕ)) → present (byte_front h none r) ≡ false
no-low none r = refl
no-low (some h) r = refl

-- an even number of bytes is a line's pairs where all of them are digits
abbrev pub Digits : List ℕ → Type 0
Digits ds = (k : ℕ) → k < length ds → present (hex_digit (get_or ds k 0)) ≡ true

pub all-digits : (ds : List ℕ) → length ds % 2 ≡ 0 → Digits ds → present (hex_pairs ds) ≡ true
unfolding hex_pairs
all-digits [] e d = refl
all-digits (a ∷ []) e d = let z : ◌≡◌ {A = ℕ} 1 0 = e in absurd (omega arith)
all-digits (a ∷ b ∷ ds) e d =
    by (hex_digit a) (hex_digit b) (hex_pairs ds) (d 0 (omega arith)) (d 1 (omega arith))
    (all-digits ds (omega (arith, e)) (λ k h. d (suc (suc k)) (omega arith)))
  where
    by : (x y : Option ℕ) (r : Option (List ℕ)) → present x ≡ true → present y ≡ true → present r ≡ true → present (byte_front x y r) ≡ true
    by none y r p q t = absurd (false≢true p)
    by (some h) none r p q t = absurd (false≢true q)
    by (some h) (some l) none p q t = absurd (false≢true t)
    by (some h) (some l) (some bs) p q t = refl

pub digits-all : (ds : List ℕ) → present (hex_pairs ds) ≡ true → Digits ds
unfolding hex_pairs
digits-all [] e k h = absurd (omega arith)
digits-all (a ∷ []) e k h = absurd (false≢true e)
digits-all (a ∷ b ∷ ds) e k h = at (λ q j. digits-all ds q j) k h
  where
    by : (x y : Option ℕ) (r : Option (List ℕ)) → present (byte_front x y r) ≡ true → (present x ≡ true) × (present y ≡ true) × (present r ≡ true)
    by none y r q = absurd (false≢true q)
    by (some h) none r q = absurd (false≢true q)
    by (some h) (some l) none q = absurd (false≢true q)
    by (some h) (some l) (some bs) q = (refl, refl, refl)

    parts : (present (hex_digit a) ≡ true) × (present (hex_digit b) ≡ true) × (present (hex_pairs ds) ≡ true)
    parts = by (hex_digit a) (hex_digit b) (hex_pairs ds) e

    at : (present (hex_pairs ds) ≡ true → Digits ds) → (k : ℕ) → k < length (a ∷ b ∷ ds) → present (hex_digit (get_or (a ∷ b ∷ ds) k 0)) ≡ true
    at f zero h = parts.0
    at f (suc zero) h = parts.1
    at f (suc (suc k)) h = f parts.2 k (omega arith)

-- and so the test of each finds whether there is a line
pub line-by : (b : Bool) (ds : List ℕ) → (length ds ≡ 0 → ⊥) → length ds ≤ digit_limit → length ds % 2 ≡ 0 →
    (b ≡ true ↔ EachIndex ds (λ k. is_some (value_of (hex_digit (get_or ds k 0))) ≡ true)) → b ≡ present (line_bytes ds)
line-by true ds n m e f =
    sym (ap present (as-pairs ds n m) ∙ all-digits ds e (λ k h. sym (said-some (hex_digit (get_or ds k 0))) ∙ f.0 refl k h))
line-by false ds n m e f = by (present (hex_pairs ds)) refl ∙ sym (ap present (as-pairs ds n m))
  where
    by : (p : Bool) → present (hex_pairs ds) ≡ p → false ≡ present (hex_pairs ds)
    by false q = sym q
    by true q = absurd (false≢true (f.1 (λ k h. said-some (hex_digit (get_or ds k 0)) ∙ digits-all ds q k h)))
