-- Elements of a `Vec`, read and set.
use Prim.Native.Nat.{ℕ, zero, suc, ◌<◌}
use mathlib.Core.Path.{◌≡◌, refl, ap, ◌∙◌}
use mathlib.Core.List.{List, [], ◌∷◌, ◌++◌}
use mathlib.Core.Option.{Option, none, some}
use native.Mathlib.Omega.{arith}
use native.Mathlib.Decide.{ℕ_discrete}
use lib.ListN.{length, get_or, set, get_elem?, length-append}
use Rattle.rust.specs.Panics.{◌>>=◌, counted}

-- a statement that does not panic
pub on : {A B : Type 0} {o : Option A} {a : A} (f : A → Option B) → o ≡ some a → ◌>>=◌ o f ≡ f a
on f p = rw p refl

-- and one that does
pub off : {A B : Type 0} {o : Option A} (f : A → Option B) → o ≡ none → ◌>>=◌ o f ≡ none
off f p = rw p refl

module _ {A : Type 0} where
  pub set_same : (l : List A) (i : ℕ) (a : A) → i < length l → get_elem? (set l i a) i ≡ some a
  set_same [] i a h = absurd (omega arith)
  set_same (x ∷ l) zero a h = refl
  set_same (x ∷ l) (suc i) a h = set_same l i a (omega arith)

  pub set_other : (l : List A) (i j : ℕ) (a : A) → (j ≡ i → ⊥) → get_elem? (set l i a) j ≡ get_elem? l j
  set_other [] i j a n = refl
  set_other (x ∷ l) zero zero a n = absurd (n refl)
  set_other (x ∷ l) zero (suc j) a n = refl
  set_other (x ∷ l) (suc i) zero a n = refl
  set_other (x ∷ l) (suc i) (suc j) a n = set_other l i j a (λ e. n (ap suc e))

  pub elem-default : (l : List A) (i : ℕ) (d : A) → i < length l → get_elem? l i ≡ some (get_or l i d)
  elem-default [] i d h = absurd (omega arith)
  elem-default (x ∷ l) zero d h = refl
  elem-default (x ∷ l) (suc i) d h = elem-default l i d (omega arith)

  elem-front : (l m : List A) (i : ℕ) → i < length l → get_elem? (l ++ m) i ≡ get_elem? l i
  elem-front [] m i h = absurd (omega arith)
  elem-front (x ∷ l) m zero h = refl
  elem-front (x ∷ l) m (suc i) h = elem-front l m i (omega arith)

  elem_end : (l : List A) (a : A) → get_elem? (l ++ (a ∷ [])) (length l) ≡ some a
  elem_end [] a = refl
  elem_end (x ∷ l) a = elem_end l a

  pub counted-length : (f : ℕ → A) (n : ℕ) → length (counted f n) ≡ n
  unfolding counted
  counted-length f zero = refl
  counted-length f (suc n) = omega (arith, length-append (counted f n) (f n ∷ []), counted-length f n)

  pub counted-at : (f : ℕ → A) (k n : ℕ) → n < k → get_elem? (counted f k) n ≡ some (f n)
  unfolding counted
  counted-at f zero n h = absurd (omega arith)
  counted-at f (suc k) n h =
      elim (ℕ_discrete n k) [
        | yes e ↦ rw e (rw (counted-length f k) at (elem_end (counted f k) (f k)))
        | no e ↦ elem-front (counted f k) (f k ∷ []) n (omega (arith, counted-length f k)) ∙ counted-at f k n (omega arith)
      ]
