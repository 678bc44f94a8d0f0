-- What joined means: the least equivalence that holds the connections, for any list of them; the three cases of one more
-- connection; and what adding a connection keeps.
use Prim.Native.Nat.{ℕ, ◌+◌}
use native.Mathlib.Nat.{add_assoc, add_comm}
use mathlib.Core.Path.{◌≡◌, refl, sym, ap, ◌∙◌}
use mathlib.Core.Bool.{Bool, true, false, ◌&&◌, ◌||◌, or-true}
use mathlib.Core.List.{List, [], ◌∷◌, ◌++◌, Memᴰ}
use mathlib.Core.Logic.{⊎_elim, ◌↔◌}
use native.Mathlib.Decide.{ℕ_discrete}
use borrow.Author.Tests.{eqb-true, eqb-false}
use Rattle.model.specs.declared.Connection.{Connection}
use Rattle.model.specs.Node.{Node}
use Rattle.model.specs.Forest.{cur, nxt, Linked, itself, back, through, by, root, joined, path, dist, cost_by}
use Rattle.paths.specs.Hangs.{Loose}
use Rattle.paths.proofs.Laws.{root-hung, root_kept, root-old, joined-yes, joined-no}
use Rattle.paths.proofs.Walks.{split, walk-old, walk-self, turned}

pub joined-root : (cs : List Connection) (l r : ℕ) → joined cs l r ≡ true → root cs l ≡ root cs r
unfolding joined
joined-root cs l r p = eqb-true _ _ p

pub apart-root : (cs : List Connection) (l r : ℕ) → joined cs l r ≡ false → root cs l ≡ root cs r → ⊥
unfolding joined
apart-root cs l r p = eqb-false _ _ p

-- a connection joins its ends
pub root_ends : (c : Connection) (cs : List Connection) → root (c ∷ cs) (cur c) ≡ root (c ∷ cs) (nxt c)
root_ends c cs =
    root-hung c cs (cur c) refl
    ∙ sym (elim (ℕ_discrete (root cs (nxt c)) (root cs (cur c))) [
      | yes q ↦ root-hung c cs (nxt c) q
      | no q ↦ root_kept c cs (nxt c) q
    ])

root_by : {c : Connection} {cs : List Connection} → Memᴰ c cs → root cs (cur c) ≡ root cs (nxt c)
root_by (Memᴰ.head {x = x} {xs = xs} e) = rw e (root_ends x xs)
root_by {c} (Memᴰ.tail {x = x} {xs = xs} m) = root-old x xs (cur c) (nxt c) (root_by m)

-- JOINED IS THE LEAST EQUIVALENCE THAT HOLDS THE CONNECTIONS
pub linked-root : {cs : List Connection} {l r : ℕ} → Linked cs l r → root cs l ≡ root cs r
linked-root itself = refl
linked-root (back k) = sym (linked-root k)
linked-root (through k m) = linked-root k ∙ linked-root m
linked-root (by m) = root_by m

pub linked-old : {c : Connection} {cs : List Connection} {l r : ℕ} → Linked cs l r → Linked (c ∷ cs) l r
linked-old itself = itself
linked-old (back k) = back (linked-old k)
linked-old (through k m) = through (linked-old k) (linked-old m)
linked-old (by m) = by (Memᴰ.tail m)

pub root-linked : (cs : List Connection) (l r : ℕ) → root cs l ≡ root cs r → Linked cs l r
unfolding root
root-linked [] l r p = rw p itself
root-linked (c ∷ cs) l r p =
    let new : Linked (c ∷ cs) (cur c) (nxt c) = by (Memᴰ.head refl) in
    ⊎_elim
    (λ q. linked-old (root-linked cs l r q))
    (⊎_elim
    (λ u.
    through (linked-old (root-linked cs l (cur c) u.left)) (through new (linked-old (root-linked cs (nxt c) r (sym u.right)))))
    (λ u.
    through (linked-old (root-linked cs l (nxt c) u.left))
    (through (back new) (linked-old (root-linked cs (cur c) r (sym u.right))))))
    (split c cs l r p)

pub joined-linked : (cs : List Connection) (l r : ℕ) → (joined cs l r ≡ true) ↔ Linked cs l r
joined-linked cs l r = (λ p. root-linked cs l r (joined-root cs l r p), λ k. joined-yes cs l r (linked-root k))

both-no : (a b : Bool) → (a ≡ true → b ≡ true → ⊥) → (a && b) ≡ false
both-no true true p = absurd (p refl refl)
both-no true false p = refl
both-no false b p = refl

-- the three cases of one more connection: older ones join the pair, or it is walked up, or down
pub joined-cons : (c : Connection) (cs : List Connection) (l r : ℕ) → joined (c ∷ cs) l r ≡
    (joined cs l r || ((joined cs l (cur c) && joined cs (nxt c) r) || (joined cs l (nxt c) && joined cs (cur c) r)))
joined-cons c cs l r =
    elim (ℕ_discrete (root (c ∷ cs) l) (root (c ∷ cs) r)) [
      | yes p ↦ ⊎_elim
          (λ q. rw (joined-yes (c ∷ cs) l r p, joined-yes cs l r q) refl)
          (⊎_elim
          (λ u.
          rw (joined-yes (c ∷ cs) l r p, joined-yes cs l (cur c) u.left, joined-yes cs (nxt c) r (sym u.right))
          (sym (or-true (joined cs l r))))
          (λ u.
          rw (joined-yes (c ∷ cs) l r p, joined-yes cs l (nxt c) u.left, joined-yes cs (cur c) r (sym u.right))
          (sym (ap (λ x. joined cs l r || x) (or-true (joined cs l (cur c) && joined cs (nxt c) r)) ∙ or-true (joined cs l r)))))
          (split c cs l r p)
      | no p ↦
          rw (
            joined-no (c ∷ cs) l r p,
            joined-no cs l r (λ q. p (root-old c cs l r q)),
            both-no (joined cs l (cur c)) (joined cs (nxt c) r)
                (λ x y. p (root-old c cs l (cur c) (joined-root _ _ _ x) ∙ root_ends c cs ∙ root-old c cs (nxt c) r (joined-root _ _ _ y))),
            both-no (joined cs l (nxt c)) (joined cs (cur c) r)
                (λ x y. p (root-old c cs l (nxt c) (joined-root _ _ _ x) ∙ sym (root_ends c cs) ∙ root-old c cs (cur c) r (joined-root _ _ _ y))),
          )
          refl
    ]

-- the distance is the same both ways
pub dist-sym : (ns : List Node) (cs : List Connection) (l r : ℕ) → Loose cs → root cs l ≡ root cs r → dist ns cs r l ≡ dist ns cs l r
unfolding dist
dist-sym ns cs l r f j =
    turned 0 ◌+◌ (λ _ d c u. cost_by ns d c.why (cur c) (nxt c)) add_assoc (λ x. x) refl (λ a b. add_comm a b) (λ _ d c u. refl)
    cs l r f j

-- adding a connection keeps every older pair's path and distance
pub path-old : (c : Connection) (cs : List Connection) (l r : ℕ) → root cs l ≡ root cs r → path (c ∷ cs) l r ≡ path cs l r
unfolding path
path-old c cs l r p = walk-old [] ◌++◌ (λ _ _ c u. record { conn = c; up = u } ∷ []) c cs l r p

pub dist-old : (ns : List Node) (c : Connection) (cs : List Connection) (l r : ℕ) → root cs l ≡ root cs r →
    dist ns (c ∷ cs) l r ≡ dist ns cs l r
unfolding dist
dist-old ns c cs l r p = walk-old 0 ◌+◌ (λ _ d c u. cost_by ns d c.why (cur c) (nxt c)) c cs l r p

-- "Equal nodes: distance 0, empty path."
pub path-self : (cs : List Connection) (n : ℕ) → path cs n n ≡ []
unfolding path
path-self cs n = walk-self [] ◌++◌ (λ _ _ c u. record { conn = c; up = u } ∷ []) cs n

pub dist-self : (ns : List Node) (cs : List Connection) (n : ℕ) → dist ns cs n n ≡ 0
unfolding dist
dist-self ns cs n = walk-self 0 ◌+◌ (λ _ d c u. cost_by ns d c.why (cur c) (nxt c)) cs n
