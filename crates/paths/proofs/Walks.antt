-- The laws of walks and of climbing: what joins two nodes, and by which way.
-- What a walk joins and how is proved for every unit, composition and step, so that path, distance and proof all have it.
use Prim.Native.Nat.{ℕ, ◌≤◌}
use mathlib.Core.Path.{◌≡◌, refl, sym, ap, ◌∙◌}
use mathlib.Core.Bool.{Bool, true, false, not}
use mathlib.Core.List.{List, [], ◌∷◌}
use mathlib.Core.Logic.{◌⊎◌, inl, inr, ⊎_elim}
use native.Mathlib.Omega.{arith}
use native.Mathlib.Decide.{ℕ_discrete}
use Rattle.model.specs.declared.Connection.{Connection}
use Rattle.model.specs.Forest.{cur, nxt, root, walk, Parent, top, below, parent_of}
use Rattle.paths.specs.Hangs.{depth, Forest, Loose}
use Rattle.paths.proofs.Laws.{joined-yes, joined-no, root-hung, root_kept, depth-hung, depth-kept, depth-old, no-parent, parent-case, root-top, depth-top, root_below, depth_below}

-- what joins two nodes: older connections alone, or the newest, walked up or down
pub record Up (c : Connection) (cs : List Connection) (l r : ℕ) : Type 0 where
  pub left : root cs l ≡ root cs (cur c)
  pub right : root cs r ≡ root cs (nxt c)

pub record Down (c : Connection) (cs : List Connection) (l r : ℕ) : Type 0 where
  pub left : root cs l ≡ root cs (nxt c)
  pub right : root cs r ≡ root cs (cur c)

pub split : (c : Connection) (cs : List Connection) (l r : ℕ) → root (c ∷ cs) l ≡ root (c ∷ cs) r →
    (root cs l ≡ root cs r) ⊎ (Up c cs l r ⊎ Down c cs l r)
split c cs l r p =
    elim (ℕ_discrete (root cs l) (root cs (cur c))) [
      | yes q ↦ elim (ℕ_discrete (root cs r) (root cs (cur c))) [
        | yes s ↦ inl (q ∙ sym s)
        | no s ↦ inr (inl (record { left = q; right = sym (root_kept c cs r s) ∙ sym p ∙ root-hung c cs l q }))
      ]
      | no q ↦ elim (ℕ_discrete (root cs r) (root cs (cur c))) [
        | yes s ↦ inr (inr (record { left = sym (root_kept c cs l q) ∙ p ∙ root-hung c cs r s; right = s }))
        | no s ↦ inl (sym (root_kept c cs l q) ∙ p ∙ root_kept c cs r s)
      ]
    ]

module _ {A : Type 0} (e : A) (◌·◌ : A → A → A) (step : List Connection → (ℕ → ℕ → A) → Connection → Bool → A) where
  infixr 40 ◌·◌
  abbrev W : List Connection → ℕ → ℕ → A
  W = walk e ◌·◌ step

  pub walk-old : (c : Connection) (cs : List Connection) (l r : ℕ) → root cs l ≡ root cs r → W (c ∷ cs) l r ≡ W cs l r
  unfolding walk
  walk-old c cs l r p = rw (joined-yes cs l r p, walk)

  pub walk_up : (c : Connection) (cs : List Connection) (l r : ℕ) → (root cs (cur c) ≡ root cs (nxt c) → ⊥) → Up c cs l r →
      W (c ∷ cs) l r ≡ W cs l (cur c) · (step cs (W cs) c true · W cs (nxt c) r)
  unfolding walk
  walk_up c cs l r h u = rw (joined-no cs l r (λ q. h (sym u.left ∙ q ∙ u.right)), walk) (rw (joined-yes cs l (cur c) u.left, walk))

  pub walk-down : (c : Connection) (cs : List Connection) (l r : ℕ) → (root cs (cur c) ≡ root cs (nxt c) → ⊥) → Down c cs l r →
      W (c ∷ cs) l r ≡ W cs l (nxt c) · (step cs (W cs) c false · W cs (cur c) r)
  unfolding walk
  walk-down c cs l r h d =
      rw (joined-no cs l r (λ q. h (sym d.right ∙ sym q ∙ d.left)), walk) (rw (joined-no cs l (cur c) (λ q. h (sym q ∙ d.left)), walk))

  pub walk-self : (cs : List Connection) (n : ℕ) → W cs n n ≡ e
  unfolding walk
  walk-self [] n = refl
  walk-self (c ∷ cs) n = walk-old c cs n n refl ∙ walk-self cs n

pub depth-zero : (cs : List Connection) (n : ℕ) → Forest cs → depth cs n ≡ 0 → root cs n ≡ n
depth-zero cs n f z = go (parent_of cs n) refl
  where
    go : (p : Parent) → parent_of cs n ≡ p → root cs n ≡ n
    go top q = root-top cs n f q
    go (below c o) q = absurd (omega (arith, depth_below cs n f q))

module _ {A : Type 0} (e : A) (◌·◌ : A → A → A) (step : List Connection → (ℕ → ℕ → A) → Connection → Bool → A)
    (assoc : (a b c : A) → ◌·◌ (◌·◌ a b) c ≡ ◌·◌ a (◌·◌ b c)) (unit-l : (a : A) → ◌·◌ e a ≡ a) (unit-r : (a : A) → ◌·◌ a e ≡ a) where
  infixr 40 ◌·◌
  abbrev X : List Connection → ℕ → ℕ → A
  X = walk e ◌·◌ step

  -- the deeper end may climb: from the left
  pub climb-left : (cs : List Connection) (l r : ℕ) {c : Connection} {older : List Connection} → Forest cs → parent_of cs l ≡ below c older →
      root cs l ≡ root cs r → depth cs r ≤ depth cs l → (l ≡ r → ⊥) → X cs l r ≡ step older (X older) c true · X cs (nxt c) r
  unfolding parent_of
  climb-left [] l r f p j h n = absurd (no-parent p)
  climb-left (d ∷ cs) l r {c} {older} f p j h n =
      ⊎_elim
      (λ w. rw (← w.conn, ← w.rest)
      (⊎_elim
      (λ q. absurd (n (sym (depth-zero cs l f.1 (ap (depth cs) w.here ∙ depth-top cs (cur d) f.1 f.0.free)) ∙ q
      ∙ depth-zero cs r f.1 (omega (arith, depth-old d cs l r q, ap (depth cs) w.here, depth-top cs (cur d) f.1 f.0.free)))))
      (⊎_elim
      (λ u. walk_up e ◌·◌ step d cs l r f.0.apart u
      ∙ ap (λ x. X cs x (cur d) · (step cs (X cs) d true · X cs (nxt d) r)) w.here
      ∙ ap (λ x. x · (step cs (X cs) d true · X cs (nxt d) r)) (walk-self e ◌·◌ step cs (cur d))
      ∙ unit-l _
      ∙ ap (λ x. step cs (X cs) d true · x) (sym (walk-old e ◌·◌ step d cs (nxt d) r (sym u.right))))
      (λ u. absurd (f.0.apart (ap (root cs) (sym w.here) ∙ u.left))))
      (split d cs l r j)))
      (λ w. let b = root_below cs l f.1 w.from in
      ⊎_elim
      (λ q. walk-old e ◌·◌ step d cs l r q
      ∙ climb-left cs l r f.1 w.from q (omega (arith, depth-old d cs l r q)) n
      ∙ ap (λ x. step older (X older) c true · x) (sym (walk-old e ◌·◌ step d cs (nxt c) r (sym b ∙ q))))
      (⊎_elim
      (λ u. walk_up e ◌·◌ step d cs l r f.0.apart u
      ∙ ap (λ x. x · (step cs (X cs) d true · X cs (nxt d) r))
      (climb-left cs l (cur d) f.1 w.from u.left (omega (arith, depth-top cs (cur d) f.1 f.0.free)) w.there)
      ∙ assoc _ _ _
      ∙ ap (λ x. step older (X older) c true · x)
      (sym (walk_up e ◌·◌ step d cs (nxt c) r f.0.apart (record { left = sym b ∙ u.left; right = u.right }))))
      (λ u. let k = depth-hung d cs r u.right in
      let m = depth-kept d cs l (λ q. f.0.apart (sym q ∙ u.left)) in
      walk-down e ◌·◌ step d cs l r f.0.apart u
      ∙ ap (λ x. x · (step cs (X cs) d false · X cs (cur d) r))
      (climb-left cs l (nxt d) f.1 w.from u.left (omega arith) (λ q. omega (arith, ap (depth cs) q)))
      ∙ assoc _ _ _
      ∙ ap (λ x. step older (X older) c true · x)
      (sym (walk-down e ◌·◌ step d cs (nxt c) r f.0.apart (record { left = sym b ∙ u.left; right = u.right })))))
      (split d cs l r j))
      (parent-case d cs l p)

  -- and from the right
  pub climb-right : (cs : List Connection) (l r : ℕ) {c : Connection} {older : List Connection} → Forest cs →
      parent_of cs r ≡ below c older →
      root cs l ≡ root cs r → depth cs l ≤ depth cs r → (l ≡ r → ⊥) → X cs l r ≡ X cs l (nxt c) · step older (X older) c false
  unfolding parent_of
  climb-right [] l r f p j h n = absurd (no-parent p)
  climb-right (d ∷ cs) l r {c} {older} f p j h n =
      ⊎_elim
      (λ w. rw (← w.conn, ← w.rest)
      (⊎_elim
      (λ q. absurd (n (sym (depth-zero cs l f.1 (omega (arith, depth-old d cs l r q, ap (depth cs) w.here, depth-top cs (cur d) f.1 f.0.free))) ∙ q
      ∙ depth-zero cs r f.1 (ap (depth cs) w.here ∙ depth-top cs (cur d) f.1 f.0.free))))
      (⊎_elim
      (λ u. absurd (f.0.apart (ap (root cs) (sym w.here) ∙ u.right)))
      (λ u. walk-down e ◌·◌ step d cs l r f.0.apart u
      ∙ ap (λ x. X cs l (nxt d) · (step cs (X cs) d false · X cs (cur d) x)) w.here
      ∙ ap (λ x. X cs l (nxt d) · (step cs (X cs) d false · x)) (walk-self e ◌·◌ step cs (cur d))
      ∙ ap (λ x. X cs l (nxt d) · x) (unit-r _)
      ∙ ap (λ x. x · step cs (X cs) d false) (sym (walk-old e ◌·◌ step d cs l (nxt d) u.left))))
      (split d cs l r j)))
      (λ w. let b = root_below cs r f.1 w.from in
      ⊎_elim
      (λ q. walk-old e ◌·◌ step d cs l r q
      ∙ climb-right cs l r f.1 w.from q (omega (arith, depth-old d cs l r q)) n
      ∙ ap (λ x. x · step older (X older) c false) (sym (walk-old e ◌·◌ step d cs l (nxt c) (q ∙ b))))
      (⊎_elim
      (λ u. let k = depth-hung d cs l u.left in
      let m = depth-kept d cs r (λ q. f.0.apart (sym q ∙ u.right)) in
      walk_up e ◌·◌ step d cs l r f.0.apart u
      ∙ ap (λ x. X cs l (cur d) · (step cs (X cs) d true · x))
      (climb-right cs (nxt d) r f.1 w.from (sym u.right) (omega arith) (λ q. omega (arith, ap (depth cs) q)))
      ∙ regroup
      ∙ ap (λ x. x · step older (X older) c false)
      (sym (walk_up e ◌·◌ step d cs l (nxt c) f.0.apart (record { left = u.left; right = sym b ∙ u.right }))))
      (λ u. walk-down e ◌·◌ step d cs l r f.0.apart u
      ∙ ap (λ x. X cs l (nxt d) · (step cs (X cs) d false · x))
      (climb-right cs (cur d) r f.1 w.from (sym u.right) (omega (arith, depth-top cs (cur d) f.1 f.0.free)) (λ q. w.there (sym q)))
      ∙ regroup
      ∙ ap (λ x. x · step older (X older) c false)
      (sym (walk-down e ◌·◌ step d cs l (nxt c) f.0.apart (record { left = u.left; right = sym b ∙ u.right })))))
      (split d cs l r j))
      (parent-case d cs r p)
    where
      regroup : {x y z w : A} → x · (y · (z · w)) ≡ (x · (y · z)) · w
      regroup = sym (simp assoc)

-- the same way back
module _ {A : Type 0} (e : A) (◌·◌ : A → A → A) (step : List Connection → (ℕ → ℕ → A) → Connection → Bool → A)
    (assoc : (a b c : A) → ◌·◌ (◌·◌ a b) c ≡ ◌·◌ a (◌·◌ b c))
    (back : A → A) (back-unit : back e ≡ e) (back-two : (a b : A) → back (◌·◌ a b) ≡ ◌·◌ (back b) (back a))
    (back_step : (o : List Connection) (f : ℕ → ℕ → A) (c : Connection) (u : Bool) → back (step o f c u) ≡ step o f c (not u)) where
  abbrev Y : List Connection → ℕ → ℕ → A
  Y = walk e ◌·◌ step

  pub turned : (cs : List Connection) (l r : ℕ) → Loose cs → root cs l ≡ root cs r → Y cs r l ≡ back (Y cs l r)
  unfolding walk
  turned [] l r f j = sym back-unit
  turned (d ∷ cs) l r f j =
      ⊎_elim
      (λ q. walk-old e ◌·◌ step d cs r l (sym q) ∙ turned cs l r f.1 q ∙ ap back (sym (walk-old e ◌·◌ step d cs l r q)))
      (⊎_elim
      (λ u.
      let v : Down d cs r l = record { left = u.right; right = u.left } in
      let p = turned cs l (cur d) f.1 u.left in
      let q = turned cs (nxt d) r f.1 (sym u.right) in
      simp (walk-down e ◌·◌ step d cs r l f.0 v, walk_up e ◌·◌ step d cs l r f.0 u, back-two, back_step, assoc, p, q))
      (λ u.
      let v : Up d cs r l = record { left = u.right; right = u.left } in
      let p = turned cs l (nxt d) f.1 u.left in
      let q = turned cs (cur d) r f.1 (sym u.right) in
      simp (walk_up e ◌·◌ step d cs r l f.0 v, walk-down e ◌·◌ step d cs l r f.0 u, back-two, back_step, assoc, p, q)))
      (split d cs l r j)

pub forest-loose : (cs : List Connection) → Forest cs → Loose cs
forest-loose [] f = tt
forest-loose (c ∷ cs) f = (f.0.apart, forest-loose cs f.1)
