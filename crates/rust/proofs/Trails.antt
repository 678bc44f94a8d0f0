-- The nodes that a climb has come through.
use Prim.Native.Nat.{ℕ, zero, suc, ◌≤◌, ◌<◌}
use mathlib.Core.Path.{◌≡◌, refl, sym, ap, ◌∙◌}
use mathlib.Core.Bool.{true, false, true≢false, false≢true}
use mathlib.Core.List.{List, [], ◌∷◌}
use native.Mathlib.Omega.{arith}
use native.Mathlib.Decide.{ℕ_discrete, dec_le}
use borrow.Author.Tests.{eq-eqb, ne_eqb}
use Rattle.model.specs.declared.Connection.{Connection}
use Rattle.paths.specs.Hangs.{next_of, depth, Forest}
use Rattle.paths.proofs.Places.{high, low, place}
use Rattle.paths.proofs.Ways.{climb_by, next-high, Lowest}
use Rattle.rust.specs.Paths.{contains}

-- the nodes of a climb before its k-th step, the last first
abbrev pub trail : List Connection → ℕ → ℕ → List ℕ
trail cs zero n = []
trail cs (suc k) n = climb_by cs k n ∷ trail cs k n

pub record Passed (cs : List Connection) (k n x : ℕ) : Type 0 where
  pub at : ℕ
  pub before : at < k
  pub is : climb_by cs at n ≡ x

pub passed : (k : ℕ) (cs : List Connection) (n x : ℕ) → contains (trail cs k n) x ≡ true → Passed cs k n x
unfolding contains
passed zero cs n x p = absurd (false≢true p)
passed (suc k) cs n x p =
    elim (ℕ_discrete (climb_by cs k n) x) [
      | yes e ↦ record { at = k; before = omega arith; is = e }
      | no e ↦
          let m = passed k cs n x (rw (ne_eqb _ _ e) at p) in
          record { at = m.at; before = omega (arith, m.before); is = m.is }
    ]

pub not-passed : (k : ℕ) (cs : List Connection) (n x : ℕ) → contains (trail cs k n) x ≡ false → (b : ℕ) → b < k → climb_by cs b n ≡ x → ⊥
unfolding contains
not-passed zero cs n x p b h e = omega arith
not-passed (suc k) cs n x p b h e =
    elim (ℕ_discrete (climb_by cs k n) x) [
      | yes q ↦ true≢false (rw (eq-eqb _ _ q) at p)
      | no q ↦ elim (ℕ_discrete b k) [
        | yes z ↦ q (ap (λ (y : ℕ). climb_by cs y n) (sym z) ∙ e)
        | no z ↦ not-passed k cs n x (rw (ne_eqb _ _ q) at p) b (omega arith) e
      ]
    ]

pub climb-next : (k : ℕ) (cs : List Connection) (n : ℕ) → next_of cs (climb_by cs k n) ≡ climb_by cs (suc k) n
unfolding climb_by
climb-next zero cs n = refl
climb-next (suc k) cs n = climb-next k cs (next_of cs n)

-- a climb stays at the top
stays : (k : ℕ) (cs : List Connection) (n : ℕ) → next_of cs n ≡ n → climb_by cs k n ≡ n
unfolding climb_by
stays zero cs n p = refl
stays (suc k) cs n p = ap (climb_by cs k) p ∙ stays k cs n p

past_top : (k : ℕ) (cs : List Connection) (n : ℕ) → Forest cs → depth cs n ≤ k → climb_by cs k n ≡ climb_by cs (depth cs n) n
unfolding climb_by
past_top zero cs n f h = let e : depth cs n ≡ 0 = omega arith in rw e refl
past_top (suc k) cs n f h =
    elim (place cs n f) [
      | high a b ↦ stays (suc k) cs n (next-high cs n f a b) ∙ sym (stays (depth cs n) cs n (next-high cs n f a b))
      | low c o a b t ↦ past_top k cs (next_of cs n) f (omega arith) ∙ sym (ap (λ (x : ℕ). climb_by cs x n) t)
    ]

-- no two climbs meet lower, however high they are said to go
pub lowest-any : (cs : List Connection) (l r i j : ℕ) → Forest cs → Lowest cs l r i j → (a b : ℕ) → climb_by cs a l ≡ climb_by cs b r → (i ≤ a) × (j ≤ b)
lowest-any cs l r i j f m a b e =
    elim (dec_le a (depth cs l)) [
      | yes p ↦ elim (dec_le b (depth cs r)) [
        | yes q ↦ m a b p q e
        | no q ↦ let k = m a (depth cs r) p (omega arith) (e ∙ past_top b cs r f (omega arith)) in (k.0, omega (arith, k.1))
      ]
      | no p ↦ elim (dec_le b (depth cs r)) [
        | yes q ↦ let k = m (depth cs l) b (omega arith) q (sym (past_top a cs l f (omega arith)) ∙ e) in (omega (arith, k.0), k.1)
        | no q ↦
            let k = m (depth cs l) (depth cs r) (omega arith) (omega arith) (sym (past_top a cs l f (omega arith)) ∙ e ∙ past_top b cs r f (omega arith)) in
            (omega (arith, k.0), omega (arith, k.1))
      ]
    ]
