-- Loops over a node's children: what is left of a run of words, and what that decides.
use Prim.Native.Nat.{ℕ, zero, suc, ◌+◌, ◌-◌, ◌≤◌, ◌<◌}
use mathlib.Core.Path.{◌≡◌, refl, sym, ap, ap₂, ◌∙◌}
use mathlib.Core.Bool.{Bool, true, false, ◌&&◌, and-false}
use mathlib.Core.List.{List, [], ◌∷◌}
use native.Mathlib.Omega.{arith}
use native.Mathlib.Nat.{add-zero}
use borrow.Author.Tests.{lt-ltb, le-ltb}
use lib.Dec.{ltb}
use lib.ListN.{length, get_or}
use Rattle.model.specs.Node.{all_below}
use Rattle.model.specs.Connect.{pairs_joined}
use Rattle.model.specs.Tables.{words_from}

-- a run of n words from a place on, without its first i
abbrev pub left : List ℕ → ℕ → ℕ → ℕ → List ℕ
left ws at n i = words_from ws (at + i) (n - i)

module _ (ws : List ℕ) (at n : ℕ) where
  pub left-all : left ws at n 0 ≡ words_from ws at n
  left-all = ap₂ (words_from ws) (add-zero at) (omega arith)

  pub left-next : (i : ℕ) → i < n → left ws at n i ≡ get_or ws (at + i) 0 ∷ left ws at n (i + 1)
  unfolding words_from
  left-next i h =
      let e : n - i ≡ suc (n - (i + 1)) = omega arith in
      let q : suc (at + i) ≡ at + (i + 1) = omega arith in
      rw (e, words_from) (ap (λ (p : ℕ). get_or ws (at + i) 0 ∷ words_from ws p (n - (i + 1))) q)

  pub left-none : (i : ℕ) → n ≤ i → left ws at n i ≡ []
  unfolding words_from
  left-none i h = let e : n - i ≡ 0 = omega arith in rw (e, words_from) refl

pub length-words : (ws : List ℕ) (at n : ℕ) → length (words_from ws at n) ≡ n
unfolding words_from
length-words ws at zero = refl
length-words ws at (suc n) = ap suc (length-words ws (suc at) n)

pub words-at : (ws : List ℕ) (at n i : ℕ) → i < n → get_or (words_from ws at n) i 0 ≡ get_or ws (at + i) 0
unfolding words_from
words-at ws at zero i h = absurd (omega arith)
words-at ws at (suc n) zero h = ap (λ (p : ℕ). get_or ws p 0) (sym (add-zero at))
words-at ws at (suc n) (suc i) h =
    words-at ws (suc at) n i (omega arith) ∙ ap (λ (p : ℕ). get_or ws p 0) (omega arith)

-- pairs of children, of which the first i are joined
pub record Pairs (f : ℕ → ℕ → Bool) (ws : List ℕ) (a b n i : ℕ) : Type 0 where
  pub some : i ≤ n
  pub same : pairs_joined f (left ws a n i) (left ws b n i) ≡ pairs_joined f (words_from ws a n) (words_from ws b n)

pub pairs-all : (f : ℕ → ℕ → Bool) (ws : List ℕ) (a b n : ℕ) → Pairs f ws a b n 0
pairs-all f ws a b n = record { some = omega arith; same = ap₂ (pairs_joined f) (left-all ws a n) (left-all ws b n) }

module _ {f : ℕ → ℕ → Bool} {ws : List ℕ} {a b n i : ℕ} (p : Pairs f ws a b n i) where
  first-pair : i < n → pairs_joined f (left ws a n i) (left ws b n i) ≡
      (f (get_or ws (a + i) 0) (get_or ws (b + i) 0) && pairs_joined f (left ws a n (i + 1)) (left ws b n (i + 1)))
  unfolding pairs_joined
  first-pair h = ap₂ (pairs_joined f) (left-next ws a n i h) (left-next ws b n i h)

  pub pairs_next : i < n → f (get_or ws (a + i) 0) (get_or ws (b + i) 0) ≡ true → Pairs f ws a b n (i + 1)
  pairs_next h q = record { some = omega arith; same = sym (first-pair h ∙ rw q refl) ∙ p.same }

  pub pairs-off : i < n → f (get_or ws (a + i) 0) (get_or ws (b + i) 0) ≡ false → false ≡ pairs_joined f (words_from ws a n) (words_from ws b n)
  pairs-off h q = sym (first-pair h ∙ rw q refl) ∙ p.same

  pub pairs-done : n ≤ i → true ≡ pairs_joined f (words_from ws a n) (words_from ws b n)
  unfolding pairs_joined
  pairs-done h = sym (ap₂ (pairs_joined f) (left-none ws a n i h) (left-none ws b n i h)) ∙ p.same

-- unequal counts decide by themselves
pub pairs-uneven : (f : ℕ → ℕ → Bool) (ws : List ℕ) (a b k m : ℕ) → (k ≡ m → ⊥) →
    pairs_joined f (words_from ws a k) (words_from ws b m) ≡ false
unfolding pairs_joined words_from
pairs-uneven f ws a b zero zero h = absurd (h refl)
pairs-uneven f ws a b zero (suc m) h = refl
pairs-uneven f ws a b (suc k) zero h = refl
pairs-uneven f ws a b (suc k) (suc m) h =
    rw (pairs-uneven f ws (suc a) (suc b) k m (λ e. h (ap suc e))) (and-false (f (get_or ws a 0) (get_or ws b 0)))

-- children, of which the first i are below a number
pub record Lower (m : ℕ) (ws : List ℕ) (at n i : ℕ) : Type 0 where
  pub some : i ≤ n
  pub same : all_below m (left ws at n i) ≡ all_below m (words_from ws at n)

pub lower-all : (m : ℕ) (ws : List ℕ) (at n : ℕ) → Lower m ws at n 0
lower-all m ws at n = record { some = omega arith; same = ap (all_below m) (left-all ws at n) }

module _ {m : ℕ} {ws : List ℕ} {at n i : ℕ} (p : Lower m ws at n i) where
  first-child : i < n → all_below m (left ws at n i) ≡ (ltb (get_or ws (at + i) 0) m && all_below m (left ws at n (i + 1)))
  unfolding all_below
  first-child h = ap (all_below m) (left-next ws at n i h)

  pub lower-next : i < n → get_or ws (at + i) 0 < m → Lower m ws at n (i + 1)
  lower-next h q = record { some = omega arith; same = sym (first-child h ∙ rw (lt-ltb _ _ q) refl) ∙ p.same }

  pub lower-off : i < n → m ≤ get_or ws (at + i) 0 → false ≡ all_below m (words_from ws at n)
  lower-off h q = sym (first-child h ∙ rw (le-ltb _ _ q) refl) ∙ p.same

  pub lower-done : n ≤ i → true ≡ all_below m (words_from ws at n)
  unfolding all_below
  lower-done h = sym (ap (all_below m) (left-none ws at n i h)) ∙ p.same
