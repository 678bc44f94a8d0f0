-- The laws of connections: classes, depths and parents.
use Prim.Native.Nat.{ℕ, suc, ◌+◌}
use mathlib.Core.Path.{◌≡◌, refl, sym, ap, ◌∙◌}
use mathlib.Core.Bool.{true, false, cond}
use mathlib.Core.List.{List, [], ◌∷◌}
use mathlib.Core.Logic.{◌⊎◌, inl, inr, ⊎_elim}
use native.Mathlib.Omega.{arith}
use native.Mathlib.Decide.{ℕ_discrete}
use borrow.Author.Tests.{eq-eqb, ne_eqb}
use lib.Dec.{eqb}
use Rattle.model.specs.declared.Connection.{Connection}
use Rattle.model.specs.Forest.{cur, nxt, root, joined, top, below, parent_of}
use Rattle.paths.specs.Hangs.{depth, Forest}

pub joined-yes : (cs : List Connection) (l r : ℕ) → root cs l ≡ root cs r → joined cs l r ≡ true
unfolding joined
joined-yes cs l r p = eq-eqb _ _ p

pub joined-no : (cs : List Connection) (l r : ℕ) → (root cs l ≡ root cs r → ⊥) → joined cs l r ≡ false
unfolding joined
joined-no cs l r p = ne_eqb _ _ p

-- a class under one more connection
module _ (c : Connection) (cs : List Connection) (n : ℕ) where
  pub root-hung : root cs n ≡ root cs (cur c) → root (c ∷ cs) n ≡ root cs (nxt c)
  unfolding root
  root-hung p = rw (eq-eqb _ _ p)

  pub root_kept : (root cs n ≡ root cs (cur c) → ⊥) → root (c ∷ cs) n ≡ root cs n
  unfolding root
  root_kept p = rw (ne_eqb _ _ p)

  pub depth-hung : root cs n ≡ root cs (cur c) → depth (c ∷ cs) n ≡ depth cs n + suc (depth cs (nxt c))
  unfolding depth
  depth-hung p = rw (joined-yes cs n (cur c) p)

  pub depth-kept : (root cs n ≡ root cs (cur c) → ⊥) → depth (c ∷ cs) n ≡ depth cs n
  unfolding depth
  depth-kept p = rw (joined-no cs n (cur c) p)

  pub parent-new : n ≡ cur c → parent_of (c ∷ cs) n ≡ below c cs
  unfolding parent_of
  parent-new p = rw (eq-eqb _ _ p)

  pub parent-old : (n ≡ cur c → ⊥) → parent_of (c ∷ cs) n ≡ parent_of cs n
  unfolding parent_of
  parent-old p = rw (ne_eqb _ _ p)

-- older classes stay together, at the same difference of depths
pub root-old : (c : Connection) (cs : List Connection) (l r : ℕ) → root cs l ≡ root cs r → root (c ∷ cs) l ≡ root (c ∷ cs) r
unfolding root
root-old c cs l r p = ap (λ x. cond (eqb x (root cs (cur c))) (root cs (nxt c)) x) p

pub depth-old : (c : Connection) (cs : List Connection) (l r : ℕ) → root cs l ≡ root cs r →
    depth (c ∷ cs) l + depth cs r ≡ depth (c ∷ cs) r + depth cs l
depth-old c cs l r p =
    elim (ℕ_discrete (root cs l) (root cs (cur c))) [
      | yes q ↦ omega (arith, depth-hung c cs l q, depth-hung c cs r (sym p ∙ q))
      | no q ↦ omega (arith, depth-kept c cs l q, depth-kept c cs r (λ s. q (p ∙ s)))
    ]

pub no-parent : {c : Connection} {older : List Connection} → top ≡ below c older → ⊥
no-parent p = let z : ◌≡◌ {A = ℕ} 0 1 = cc in omega arith

pub record New (d : Connection) (cs : List Connection) (n : ℕ) (c : Connection) (older : List Connection) : Type 0 where
  pub here : n ≡ cur d
  pub conn : d ≡ c
  pub rest : cs ≡ older

pub record Old (d : Connection) (cs : List Connection) (n : ℕ) (c : Connection) (older : List Connection) : Type 0 where
  pub there : n ≡ cur d → ⊥
  pub from : parent_of cs n ≡ below c older

pub parent-case : (d : Connection) (cs : List Connection) (n : ℕ) {c : Connection} {older : List Connection} →
    parent_of (d ∷ cs) n ≡ below c older → New d cs n c older ⊎ Old d cs n c older
parent-case d cs n p =
    elim (ℕ_discrete n (cur d)) [
      | yes q ↦ let e = parent-new d cs n q in inl (record { here = q; conn = cc; rest = cc })
      | no q ↦ inr (record { there = q; from = sym (parent-old d cs n q) ∙ p })
    ]

top-case : (d : Connection) (cs : List Connection) (n : ℕ) → parent_of (d ∷ cs) n ≡ top → (n ≡ cur d → ⊥) × (parent_of cs n ≡ top)
top-case d cs n p =
    elim (ℕ_discrete n (cur d)) [
      | yes q ↦ absurd (no-parent (sym p ∙ parent-new d cs n q))
      | no q ↦ (q, sym (parent-old d cs n q) ∙ p)
    ]

-- a node with no parent is its class's root
pub root-top : (cs : List Connection) (n : ℕ) → Forest cs → parent_of cs n ≡ top → root cs n ≡ n
unfolding root
root-top [] n f p = refl
root-top (d ∷ cs) n f p =
    let t = top-case d cs n p in
    let a = root-top cs n f.1 t.1 in
    let b = root-top cs (cur d) f.1 f.0.free in
    root_kept d cs n (λ q. t.0 (sym a ∙ q ∙ b)) ∙ a

pub depth-top : (cs : List Connection) (n : ℕ) → Forest cs → parent_of cs n ≡ top → depth cs n ≡ 0
unfolding depth
depth-top [] n f p = refl
depth-top (d ∷ cs) n f p =
    let t = top-case d cs n p in
    let a = root-top cs n f.1 t.1 in
    let b = root-top cs (cur d) f.1 f.0.free in
    depth-kept d cs n (λ q. t.0 (sym a ∙ q ∙ b)) ∙ depth-top cs n f.1 t.1

-- a node is joined to its parent, which is one less deep
pub root_below : (cs : List Connection) (n : ℕ) {c : Connection} {older : List Connection} → Forest cs → parent_of cs n ≡ below c older →
    root cs n ≡ root cs (nxt c)
unfolding parent_of
root_below [] n f p = absurd (no-parent p)
root_below (d ∷ cs) n {c} f p =
    ⊎_elim
    (λ w. rw (← w.conn) (root-hung d cs n (ap (root cs) w.here) ∙ sym (root_kept d cs (nxt d) (λ q. f.0.apart (sym q)))))
    (λ w. root-old d cs n (nxt c) (root_below cs n f.1 w.from))
    (parent-case d cs n p)

pub depth_below : (cs : List Connection) (n : ℕ) {c : Connection} {older : List Connection} → Forest cs → parent_of cs n ≡ below c older →
    depth cs n ≡ suc (depth cs (nxt c))
unfolding parent_of
depth_below [] n f p = absurd (no-parent p)
depth_below (d ∷ cs) n {c} f p =
    ⊎_elim
    (λ w.
    let a = depth-hung d cs n (ap (root cs) w.here) in
    let b = depth-kept d cs (nxt d) (λ q. f.0.apart (sym q)) in
    rw (← w.conn) (omega (arith, a, b, ap (depth cs) w.here, depth-top cs (cur d) f.1 f.0.free)))
    (λ w. omega (arith, depth-old d cs n (nxt c) (root_below cs n f.1 w.from), depth_below cs n f.1 w.from))
    (parent-case d cs n p)
