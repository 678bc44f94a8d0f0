-- Decimal digits: a number is the digits of its tenth and the last digit, powers of ten bound how many there are, and so they are put into a room.
use Prim.Native.Nat.{ℕ, zero, suc, ◌+◌, ◌^◌, ◌/◌, ◌%◌, ◌≤◌, ◌<◌}
use native.Mathlib.Omega.{arith}
use native.Mathlib.Nat.{pow-suc}
use mathlib.Core.Path.{◌≡◌, refl, sym, ap, ap₂, ◌∙◌}
use mathlib.Core.Bool.{Bool, true, false}
use mathlib.Core.List.{List, [], ◌∷◌, ◌++◌}
use borrow.Author.Tests.{lt-ltb, le-ltb, ltb-true, ltb-false}
use lib.Dec.{ltb}
use lib.ListN.{length, set, length-append}
use Rattle.model.specs.Text.{digits_by, digits}
use Rattle.laws.specs.Area.{splice}
use Rattle.laws.proofs.Area.{splice-one, splice-push}

-- a digit as a byte
abbrev pub digit : ℕ → ℕ
digit n = 48 + n

-- one digit
one-digit : (d n : ℕ) → n < 10 → digits_by d n ≡ digit n ∷ []
unfolding digits_by
one-digit zero n h = ap (λ (k : ℕ). digit k ∷ []) (omega arith)
one-digit (suc d) n h = rw (digits_by, lt-ltb n 10 h)

more-digits : (d n : ℕ) → 10 ≤ n → digits_by (suc d) n ≡ digits_by d (n / 10) ++ (digit (n % 10) ∷ [])
unfolding digits_by
more-digits d n h = rw (digits_by, le-ltb n 10 h)

-- the tenth of a number below a power of ten
tenth : (k n : ℕ) → n < 10 ^ suc k → n / 10 < 10 ^ k
tenth k n h = omega (arith, pow-suc 10 k)

by_size : (n : ℕ) {P : Type 0} → (n < 10 → P) → (10 ≤ n → P) → P
by_size n {P} f g = go (ltb n 10) refl
  where
    go : (b : Bool) → ltb n 10 ≡ b → P
    go true e = f (ltb-true n 10 e)
    go false e = g (ltb-false n 10 e)

-- more digits than are needed are not written
enough : (d n : ℕ) → n < 10 ^ suc d → digits_by (suc d) n ≡ digits_by d n
enough zero n h = let s : n < 10 = omega (arith, pow-suc 10 0) in one-digit 1 n s ∙ sym (one-digit 0 n s)
enough (suc d) n h =
    by_size n (λ s. one-digit (suc (suc d)) n s ∙ sym (one-digit (suc d) n s))
    (λ s.
    more-digits (suc d) n s ∙ ap (λ (l : List ℕ). l ++ (digit (n % 10) ∷ [])) (enough d (n / 10) (tenth (suc d) n h))
    ∙ sym (more-digits d n s))

-- a number of 64 bits
pub last-digit : (n : ℕ) → n < 10 → digits n ≡ digit n ∷ []
unfolding digits
last-digit n h = one-digit 19 n h

pub then-digit : (n : ℕ) → n < 2 ^ 64 → 10 ≤ n → digits n ≡ digits (n / 10) ++ (digit (n % 10) ∷ [])
unfolding digits
then-digit n h g =
    more-digits 18 n g
    ∙ ap (λ (l : List ℕ). l ++ (digit (n % 10) ∷ [])) (sym (enough 18 (n / 10) (omega arith)))

-- how many digits: at least one, and at most k below the k-th power of ten
some-by : (d n : ℕ) → 1 ≤ length (digits_by d n)
unfolding digits_by
some-by zero n = omega arith
some-by (suc d) n =
    by_size n (λ s. omega (arith, ap length (one-digit (suc d) n s)))
    (λ s. omega (arith, ap length (more-digits d n s), length-append (digits_by d (n / 10)) (digit (n % 10) ∷ [])))

few-by : (d k n : ℕ) → n < 10 ^ suc k → length (digits_by d n) ≤ suc k
unfolding digits_by
few-by zero k n h = omega arith
few-by (suc d) zero n h = omega (arith, ap length (one-digit (suc d) n (omega (arith, pow-suc 10 0))))
few-by (suc d) (suc k) n h =
    by_size n (λ s. omega (arith, ap length (one-digit (suc d) n s)))
    (λ s.
    omega (
      arith,
      ap length (more-digits d n s),
      length-append (digits_by d (n / 10)) (digit (n % 10) ∷ []),
      few-by d k (n / 10) (tenth (suc k) n h),
    ))

all-by : (d n : ℕ) → length (digits_by d n) ≤ suc d
unfolding digits_by
all-by zero n = omega arith
all-by (suc d) n =
    by_size n (λ s. omega (arith, ap length (one-digit (suc d) n s)))
    (λ s.
    omega (arith, ap length (more-digits d n s), length-append (digits_by d (n / 10)) (digit (n % 10) ∷ []), all-by d (n / 10)))

-- never more than 20
pub all_digits : (n : ℕ) → length (digits n) ≤ 20
unfolding digits
all_digits n = all-by 19 n

pub some-digits : (n : ℕ) → 1 ≤ length (digits n)
unfolding digits
some-digits n = some-by 19 n

pub few-digits : (k n : ℕ) → n < 10 ^ suc k → length (digits n) ≤ suc k
unfolding digits
few-digits k n h = few-by 19 k n h

pub one-more-digit : (n : ℕ) → n < 2 ^ 64 → 10 ≤ n → length (digits n) ≡ length (digits (n / 10)) + 1
one-more-digit n h g = ap length (then-digit n h g) ∙ length-append (digits (n / 10)) (digit (n % 10) ∷ [])

-- The digits in a room: the last one written where it is the only one, and behind the others.
module _ (old : List ℕ) (at n : ℕ) (fits : at + length (digits n) ≤ length old) where
  pub put_one : n < 10 → set old at (digit n) ≡ splice old at (digits n)
  put_one h = splice-one old at (digit n) (omega (arith, some-digits n)) ∙ ap (splice old at) (sym (last-digit n h))

  pub put_last : n < 2 ^ 64 → 10 ≤ n → {room : List ℕ} {end : ℕ} → room ≡ splice old at (digits (n / 10)) → end ≡ at + length (digits (n / 10)) →
      set room end (digit (n % 10)) ≡ splice old at (digits n)
  put_last h g p q =
      ap₂ (λ (s : List ℕ) (k : ℕ). set s k (digit (n % 10))) p q
      ∙ splice-push old at (digits (n / 10)) (digit (n % 10)) (omega (arith, one-more-digit n h g))
      ∙ ap (splice old at) (sym (then-digit n h g))
