-- The Rust's common ancestor of two joined nodes is where the two climbs meet.
use Prim.Native.Nat.{ℕ, zero, suc, ◌+◌, ◌<◌}
use mathlib.Core.Path.{◌≡◌, refl, sym, ap, ◌∙◌}
use mathlib.Core.Bool.{Bool, true, false, ◌||◌}
use mathlib.Core.List.{List, [], ◌∷◌}
use mathlib.Core.Option.{Option, none, some}
use native.Mathlib.Omega.{arith}
use native.Mathlib.Decide.{ℕ_discrete}
use borrow.Author.Tests.{eq-eqb, ne_eqb}
use lib.ListN.{length}
use Rattle.model.specs.declared.Connection.{Connection}
use Rattle.model.specs.Node.{Node}
use Rattle.model.specs.Forest.{root}
use Rattle.paths.specs.Hangs.{next_of, depth, Forest, AcceptedConnections}
use Rattle.paths.proofs.Accept.{accepted-forest}
use Rattle.paths.proofs.Places.{high, low, place}
use Rattle.paths.proofs.Ways.{climb_by, Lowest, root-climb}
use Rattle.rust.specs.Panics.{◌>>◌, assert}
use Rattle.rust.specs.Explain.{Explain}
use Rattle.rust.specs.Paths.{contains, differ, common_ancestor}
use Rattle.rust.proofs.Vectors.{on}
use Rattle.rust.proofs.Built.{Holds}
use Rattle.rust.proofs.Inside.{parent_is, parent-next, climb-inside}
use Rattle.rust.proofs.Trails.{trail, Passed, passed, not-passed, climb-next, lowest-any}

-- a node that leads to itself is at the top
at_top : (cs : List Connection) (n : ℕ) → Forest cs → next_of cs n ≡ n → root cs n ≡ n
at_top cs n f p =
    elim (place cs n f) [
      | high a b ↦ a
      | low c o a b t ↦ let e : depth cs (next_of cs n) ≡ depth cs n = ap (depth cs) p in absurd (omega arith)
    ]

-- a round past its two tests, in which the assertion holds or not
module _ {ns : List Node} {cs : List Connection} {ex : Explain} (h : Holds ns cs ex) where
  abbrev moves : ℕ → ℕ → Bool
  moves a b = differ (next_of cs a) a || differ (next_of cs b) b

  round : (d : ℕ) (seen_left seen_right : List ℕ) (a b : ℕ) → a < length ns → b < length ns → contains seen_right a ≡ false → contains (a ∷ seen_left) b ≡ false →
      common_ancestor (suc d) ex seen_left seen_right a b
      ≡ ◌>>◌ (assert (moves a b)) (common_ancestor d ex (a ∷ seen_left) (b ∷ seen_right) (next_of cs a) (next_of cs b))
  unfolding common_ancestor
  round d seen_left seen_right a b m n p q =
      rw (p, q) (on _ (parent_is h a m) ∙ on _ (parent_is h b n)
      ∙ rw (parent-next cs a, parent-next cs b) refl)

module _
    {ns : List Node}
    {cs : List Connection}
    {ex : Explain}
    (acc : AcceptedConnections ns cs)
    (held : Holds ns cs ex)
    (l r i j : ℕ)
    (l-in : l < length ns)
    (r-in : r < length ns)
    (same : root cs l ≡ root cs r)
    (meet : climb_by cs i l ≡ climb_by cs j r)
    (lowest : Lowest cs l r i j) where
  abbrev f : Forest cs
  f = accepted-forest ns cs acc

  -- no node has been seen from both sides in the rounds before the k-th
  abbrev Fresh : ℕ → Type 0
  Fresh k = (a b : ℕ) → a < k → b < k → climb_by cs a l ≡ climb_by cs b r → ⊥

  left-seen : (k : ℕ) → Fresh k → Passed cs k r (climb_by cs k l) → climb_by cs k l ≡ climb_by cs i l
  left-seen k w p =
      let b = lowest-any cs l r i j f lowest k p.at (sym p.is) in
      elim (ℕ_discrete i k) [
        | yes e ↦ ap (λ (x : ℕ). climb_by cs x l) (sym e)
        | no e ↦ absurd (w i j (omega (arith, b.0)) (omega (arith, b.1, p.before)) meet)
      ]

  right-seen : (k : ℕ) → Fresh k → ((b : ℕ) → b < k → climb_by cs b r ≡ climb_by cs k l → ⊥) → Passed cs (suc k) l (climb_by cs k r) →
      climb_by cs k r ≡ climb_by cs i l
  right-seen k w u p =
      let b = lowest-any cs l r i j f lowest p.at k p.is in
      elim (ℕ_discrete j k) [
        | yes e ↦ ap (λ (x : ℕ). climb_by cs x r) (sym e) ∙ sym meet
        | no e ↦ elim (ℕ_discrete i k) [
          | yes z ↦ absurd (u j (omega (arith, b.1)) (sym meet ∙ ap (λ (x : ℕ). climb_by cs x l) z))
          | no z ↦ absurd (w i j (omega (arith, b.0, p.before)) (omega (arith, b.1)) meet)
        ]
      ]

  fresh-more : (k : ℕ) → Fresh k → ((b : ℕ) → b < k → climb_by cs b r ≡ climb_by cs k l → ⊥) →
      ((a : ℕ) → a < suc k → climb_by cs a l ≡ climb_by cs k r → ⊥) → Fresh (suc k)
  fresh-more k w u v a b p q e =
      elim (ℕ_discrete b k) [
        | yes z ↦ v a p (e ∙ ap (λ (x : ℕ). climb_by cs x r) z)
        | no z ↦ elim (ℕ_discrete a k) [
          | yes y ↦ u b (omega arith) (sym e ∙ ap (λ (x : ℕ). climb_by cs x l) y)
          | no y ↦ w a b (omega arith) (omega arith) e
        ]
      ]

  -- the Rust's assertion holds: while the two have not met, one of them can go on
  goes_on : (k : ℕ) → ((a : ℕ) → a < suc k → climb_by cs a l ≡ climb_by cs k r → ⊥) →
      next_of cs (climb_by cs k l) ≡ climb_by cs k l → next_of cs (climb_by cs k r) ≡ climb_by cs k r → ⊥
  goes_on k v p q =
      v k (omega arith) (sym (at_top cs (climb_by cs k l) f p) ∙ root-climb k cs l f ∙ same ∙ sym (root-climb k cs r f) ∙ at_top cs (climb_by cs k r) f q)

  -- a round of the loop, from what its tests say
  abbrev Round : ℕ → ℕ → Type 0
  Round d k = common_ancestor d ex (trail cs k l) (trail cs k r) (climb_by cs k l) (climb_by cs k r) ≡ some (climb_by cs i l)

  by_left : (d k : ℕ) → Fresh k → contains (trail cs k r) (climb_by cs k l) ≡ true → Round (suc d) k
  unfolding common_ancestor
  by_left d k w p = rw p (ap some (left-seen k w (passed k cs r (climb_by cs k l) p)))

  by_right : (d k : ℕ) → Fresh k → contains (trail cs k r) (climb_by cs k l) ≡ false → contains (trail cs (suc k) l) (climb_by cs k r) ≡ true →
      Round (suc d) k
  unfolding common_ancestor
  by_right d k w p q =
      rw (p, q) (ap some (right-seen k w (not-passed k cs r (climb_by cs k l) p) (passed (suc k) cs l (climb_by cs k r) q)))

  -- the assertion holds
  moving : (k : ℕ) → contains (trail cs (suc k) l) (climb_by cs k r) ≡ false → moves held (climb_by cs k l) (climb_by cs k r) ≡ true
  moving k q =
      elim (ℕ_discrete (next_of cs (climb_by cs k l)) (climb_by cs k l)) [
        | yes x ↦ elim (ℕ_discrete (next_of cs (climb_by cs k r)) (climb_by cs k r)) [
          | yes y ↦ absurd (goes_on k (not-passed (suc k) cs l (climb_by cs k r) q) x y)
          | no y ↦ rw (eq-eqb _ _ x, ne_eqb _ _ y) refl
        ]
        | no x ↦ rw (ne_eqb _ _ x) refl
      ]

  by-none : (d k : ℕ) → Fresh k → contains (trail cs k r) (climb_by cs k l) ≡ false → contains (trail cs (suc k) l) (climb_by cs k r) ≡ false →
      (Fresh (suc k) → Round d (suc k)) → Round (suc d) k
  by-none d k w p q next =
      round held d (trail cs k l) (trail cs k r) (climb_by cs k l) (climb_by cs k r) (climb-inside ns cs acc k l l-in) (climb-inside ns cs acc k r r-in) p q
      ∙ rw (moving k q, climb-next k cs l, climb-next k cs r)
      (next (fresh-more k w (not-passed k cs r (climb_by cs k l) p) (not-passed (suc k) cs l (climb_by cs k r) q)))

  from : (d k : ℕ) → Fresh k → i + j < k + d → Round d k
  from zero k w h = absurd (w i j (omega arith) (omega arith) meet)
  from (suc d) k w h =
      go (contains (trail cs k r) (climb_by cs k l)) refl (contains (trail cs (suc k) l) (climb_by cs k r)) refl (λ x. from d (suc k) x (omega arith))
    where
      go : (b : Bool) → contains (trail cs k r) (climb_by cs k l) ≡ b → (c : Bool) → contains (trail cs (suc k) l) (climb_by cs k r) ≡ c →
          (Fresh (suc k) → Round d (suc k)) → Round (suc d) k
      go true p c q next = by_left d k w p
      go false p true q next = by_right d k w p q
      go false p false q next = by-none d k w p q next

  pub ancestor : (rounds : ℕ) → i + j < rounds → common_ancestor rounds ex [] [] l r ≡ some (climb_by cs i l)
  unfolding climb_by
  ancestor rounds h = from rounds 0 (λ a b p q e. omega arith) (omega arith)

-- and of two nodes that are not joined it finds none: the Rust's assertion fails
module _ {ns : List Node} {cs : List Connection} {ex : Explain} (acc : AcceptedConnections ns cs) (held : Holds ns cs ex) (l r : ℕ)
    (l-in : l < length ns) (r-in : r < length ns) (apart : root cs l ≡ root cs r → ⊥) where
  never : (a b : ℕ) → climb_by cs a l ≡ climb_by cs b r → ⊥
  never a b e = let f = accepted-forest ns cs acc in apart (sym (root-climb a cs l f) ∙ ap (root cs) e ∙ root-climb b cs r f)

  no-from : (d k : ℕ) → common_ancestor d ex (trail cs k l) (trail cs k r) (climb_by cs k l) (climb_by cs k r) ≡ none
  unfolding common_ancestor
  no-from zero k = refl
  no-from (suc d) k =
      round held d (trail cs k l) (trail cs k r) (climb_by cs k l) (climb_by cs k r) (climb-inside ns cs acc k l l-in) (climb-inside ns cs acc k r r-in)
      (unseen-left (contains (trail cs k r) (climb_by cs k l)) refl)
      (unseen-right (contains (trail cs (suc k) l) (climb_by cs k r)) refl)
      ∙ go (moves held (climb_by cs k l) (climb_by cs k r)) (rw (climb-next k cs l, climb-next k cs r) (no-from d (suc k)))
    where
      unseen-left : (b : Bool) → contains (trail cs k r) (climb_by cs k l) ≡ b → contains (trail cs k r) (climb_by cs k l) ≡ false
      unseen-left true p = let q = passed k cs r (climb_by cs k l) p in absurd (never k q.at (sym q.is))
      unseen-left false p = p

      unseen-right : (b : Bool) → contains (trail cs (suc k) l) (climb_by cs k r) ≡ b → contains (trail cs (suc k) l) (climb_by cs k r) ≡ false
      unseen-right true p = let q = passed (suc k) cs l (climb_by cs k r) p in absurd (never q.at k q.is)
      unseen-right false p = p

      go : {A : Type 0} {x : Option A} (b : Bool) → x ≡ none → ◌>>◌ (assert b) x ≡ none
      go true p = p
      go false p = refl

  pub no-ancestor : (rounds : ℕ) → common_ancestor rounds ex [] [] l r ≡ none
  unfolding climb_by
  no-ancestor rounds = no-from rounds 0
