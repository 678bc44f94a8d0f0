-- There are fewer connections than nodes: each hangs a node that had no parent before, and a root is left.
use Prim.Native.Nat.{ℕ, zero, suc, ◌+◌, ◌≤◌, ◌<◌}
use mathlib.Core.Path.{◌≡◌, refl, sym, ap, ◌∙◌}
use mathlib.Core.List.{List, [], ◌∷◌}
use native.Mathlib.Omega.{arith}
use native.Mathlib.Decide.{ℕ_discrete}
use lib.ListN.{length}
use Rattle.model.specs.declared.Connection.{Connection}
use Rattle.model.specs.Forest.{cur, nxt, root, Parent, top, below, parent_of}
use Rattle.paths.specs.Hangs.{Forest}
use Rattle.paths.specs.Hangs.{Within}
use Rattle.paths.proofs.Laws.{parent-new, parent-old, root-hung, root_kept, root-top}

abbrev top_one : Parent → ℕ
top_one top = 1
top_one (below c older) = 0

-- how many of the first n nodes have no parent
tops : List Connection → ℕ → ℕ
tops cs zero = 0
tops cs (suc n) = tops cs n + top_one (parent_of cs n)

tops-none : (n : ℕ) → tops [] n ≡ n
unfolding tops parent_of
tops-none zero = refl
tops-none (suc n) = omega (arith, tops-none n)

module _ (c : Connection) (cs : List Connection) where
  tops-beyond : (n : ℕ) → n ≤ cur c → tops (c ∷ cs) n ≡ tops cs n
  unfolding tops
  tops-beyond zero h = refl
  tops-beyond (suc n) h = rw (tops-beyond n (omega arith), parent-old c cs n (λ q. omega arith)) refl

  tops-fewer : (n : ℕ) → cur c < n → parent_of cs (cur c) ≡ top → tops cs n ≡ suc (tops (c ∷ cs) n)
  unfolding tops
  tops-fewer zero h p = absurd (omega arith)
  tops-fewer (suc n) h p =
      elim (ℕ_discrete n (cur c)) [
        | yes e ↦
            omega (arith, tops-beyond n (omega arith), ap top_one (ap (parent_of cs) e ∙ p), ap top_one (parent-new c cs n e))
        | no e ↦ omega (arith, tops-fewer n (omega arith) p, ap top_one (parent-old c cs n e))
      ]

counted : (cs : List Connection) (n : ℕ) → Forest cs → Within n cs → tops cs n + length cs ≡ n
counted [] n f w = omega (arith, tops-none n)
counted (c ∷ cs) n f w = omega (arith, tops-fewer c cs n w.0 f.0.free, counted cs n f.1 w.2)

-- a class's root has no parent, and is a node of the table
pub root-free : (cs : List Connection) (m : ℕ) → Forest cs → parent_of cs (root cs m) ≡ top
unfolding root parent_of
root-free [] m f = refl
root-free (c ∷ cs) m f =
    elim (ℕ_discrete (root cs m) (root cs (cur c))) [
      | yes p ↦ rise (nxt c) (root-hung c cs m p) (root-free cs (nxt c) f.1) (λ q. f.0.apart (sym q))
      | no p ↦ rise m (root_kept c cs m p) (root-free cs m f.1) p
    ]
  where
    rise : (x : ℕ) → root (c ∷ cs) m ≡ root cs x → parent_of cs (root cs x) ≡ top → (root cs x ≡ root cs (cur c) → ⊥) →
        parent_of (c ∷ cs) (root (c ∷ cs) m) ≡ top
    rise x e h a =
        let t : root cs (cur c) ≡ cur c = root-top cs (cur c) f.1 f.0.free in
        ap (parent_of (c ∷ cs)) e ∙ parent-old c cs (root cs x) (λ q. a (q ∙ sym t)) ∙ h

root-small : (cs : List Connection) (n m : ℕ) → Within n cs → m < n → root cs m < n
unfolding root
root-small [] n m w h = h
root-small (c ∷ cs) n m w h =
    elim (ℕ_discrete (root cs m) (root cs (cur c))) [
      | yes p ↦ omega (arith, root-hung c cs m p, root-small cs n (nxt c) w.2 w.1)
      | no p ↦ omega (arith, root_kept c cs m p, root-small cs n m w.2 h)
    ]

tops-some : (cs : List Connection) (n m : ℕ) → m < n → parent_of cs m ≡ top → 0 < tops cs n
unfolding tops
tops-some cs zero m h p = absurd (omega arith)
tops-some cs (suc n) m h p =
    elim (ℕ_discrete m n) [
      | yes e ↦ omega (arith, ap top_one (ap (parent_of cs) (sym e) ∙ p))
      | no e ↦ omega (arith, tops-some cs n m (omega arith) p)
    ]

pub connections-few : (cs : List Connection) (n : ℕ) → 0 < n → Forest cs → Within n cs → length cs < n
connections-few cs n z f w =
    omega (arith, counted cs n f w, tops-some cs n (root cs 0) (root-small cs n 0 w z) (root-free cs 0 f))
