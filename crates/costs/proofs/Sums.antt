-- Sums over pairs of children, held at the cap: what the loop over the children keeps.
use Prim.Native.Nat.{ℕ, ◌+◌, ◌≤◌, ◌<◌}
use mathlib.Core.Path.{◌≡◌, ap₂}
use mathlib.Core.List.{List}
use native.Mathlib.Omega.{arith}
use lib.ListN.{get_or}
use Rattle.model.specs.Forest.{sum_pairs}
use Rattle.model.specs.Tables.{words_from}
use Rattle.entries.proofs.Children.{left, left-all, left-next, left-none}
use Rattle.costs.specs.Costs.{cost_cap, held}

-- the first i pairs are counted
pub record Sums (f : ℕ → ℕ → ℕ) (ws : List ℕ) (a b n i sum : ℕ) : Type 0 where
  pub some : i ≤ n
  pub small : sum ≤ cost_cap
  pub total : held (sum + sum_pairs f (left ws a n i) (left ws b n i)) ≡ held (sum_pairs f (words_from ws a n) (words_from ws b n))

pub sums_none : (f : ℕ → ℕ → ℕ) (ws : List ℕ) (a b n : ℕ) → Sums f ws a b n 0 0
sums_none f ws a b n =
    record { some = omega arith; small = omega arith; total = omega (arith, ap₂ (sum_pairs f) (left-all ws a n) (left-all ws b n)) }

module _ {f : ℕ → ℕ → ℕ} {ws : List ℕ} {a b n i sum : ℕ} (s : Sums f ws a b n i sum) where
  first-sum : i < n → sum_pairs f (left ws a n i) (left ws b n i) ≡
      f (get_or ws (a + i) 0) (get_or ws (b + i) 0) + sum_pairs f (left ws a n (i + 1)) (left ws b n (i + 1))
  unfolding sum_pairs
  first-sum h = ap₂ (sum_pairs f) (left-next ws a n i h) (left-next ws b n i h)

  pub sums_next : {v new : ℕ} → i < n → v ≡ held (f (get_or ws (a + i) 0) (get_or ws (b + i) 0)) → new ≡ held (sum + v) →
      Sums f ws a b n (i + 1) new
  sums_next h p q =
      record { some = omega arith; small = omega arith; total = omega (arith, first-sum h, s.total) }

  pub sums-done : n ≤ i → sum ≡ held (sum_pairs f (words_from ws a n) (words_from ws b n))
  unfolding sum_pairs
  sums-done h = omega (arith, ap₂ (sum_pairs f) (left-none ws a n i h) (left-none ws b n i h), s.total, s.small)
