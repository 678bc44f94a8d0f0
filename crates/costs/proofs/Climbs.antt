-- What climbs cost: one step up, and the two climbs of a path.
use Prim.Native.Nat.{ℕ, zero, suc, ◌+◌, ◌≤◌, ◌<◌}
use mathlib.Core.Path.{◌≡◌, refl, sym, ap, ap₂, ◌∙◌}
use mathlib.Core.Bool.{Bool, true, false}
use mathlib.Core.List.{List, [], ◌∷◌}
use mathlib.Core.Logic.{⊎_elim}
use native.Mathlib.Nat.{add_assoc, zero-add, add-zero}
use native.Mathlib.Omega.{arith}
use Rattle.forest.specs.declared.Row.{Row}
use Rattle.model.specs.declared.Connection.{Connection}
use Rattle.model.specs.declared.NodeNo.{NodeNo}
use Rattle.model.specs.Forest.{cur, root, joined, Parent, top, below, parent_of}
use Rattle.paths.specs.Hangs.{next_of, depth, Forest}
use Rattle.paths.specs.Meet.{top_of, meet_of}
use Rattle.std.specs.Prelude.{None, Some, is_some}
use Rattle.paths.proofs.Laws.{no-parent, parent-case, joined-yes}
use Rattle.paths.proofs.Walks.{climb-left, walk-self}
use Rattle.paths.proofs.Joined.{joined-root}
use Rattle.paths.proofs.Places.{high, low, place}
use Rattle.paths.proofs.Ways.{climb_by, root-climb, depth-climb, hop, ups, downs}
use Rattle.paths.proofs.Above.{walk-climb, halves}
use Rattle.forest.specs.Rows.{Climbs, cost_in, depth_in, next_in}
use Rattle.forest.proofs.Climbing.{next-in}
use Rattle.costs.specs.Costs.{Above, cost_cap, held, weigh}

parent-current : (cs : List Connection) (n : ℕ) {c : Connection} {o : List Connection} → parent_of cs n ≡ below c o → cur c ≡ n
unfolding parent_of
parent-current [] n p = absurd (no-parent p)
parent-current (d ∷ cs) n p =
    ⊎_elim (λ w. ap (λ (x : Connection). cur x) (sym w.conn) ∙ sym w.here) (λ w. parent-current cs n w.from) (parent-case d cs n p)

pub weigh-self : (rows : List Row) (cs : List Connection) (n : ℕ) → weigh rows cs n n ≡ 0
unfolding weigh
weigh-self rows cs n = walk-self 0 ◌+◌ (λ older _ c u. cost_in rows (cur c)) cs n

-- one step of a climb
pub record Rise (rows : List Row) (cs : List Connection) (n at to up : ℕ) : Type 0 where
  pub inside : up < n
  pub above : Above cs up to
  pub cost : weigh rows cs at to ≡ cost_in rows at + weigh rows cs up to
  pub falls : depth_in rows up < depth_in rows at

module _ {cs : List Connection} {n : ℕ} {rows : List Row} (k : Climbs cs n rows) (at to up : ℕ) (h : at < n) (e : at ≡ to → ⊥) (u : up ≡ next_in rows at) where
  abbrev f : Forest cs
  f = k.rooted.forest

  rise-by : (i : ℕ) → i ≤ depth cs at → climb_by cs i at ≡ to → Rise rows cs n at to up
  unfolding climb_by weigh
  rise-by zero d p = absurd (e p)
  rise-by (suc i) d p =
      let t = depth-climb (suc i) cs at f d in
      let v : up ≡ next_of cs at = u ∙ k.next at h in
      elim (place cs at f) [
        | high a b ↦ absurd (omega arith)
        | low c o a b s ↦
            let w = climb-left 0 ◌+◌ (λ older _ c u. cost_in rows (cur c)) add_assoc zero-add add-zero cs at to f a
            (sym (root-climb (suc i) cs at f) ∙ ap (root cs) p) (omega (arith, ap (depth cs) p)) e in
            rw v record {
              inside = next-in k.rooted at h;
              above = record { steps = i; enough = omega arith; leads = p };
              cost = w ∙ ap₂ (λ (x y : ℕ). cost_in rows x + weigh rows cs y to) (parent-current cs at a) (sym b);
              falls = omega (arith, k.deep at h, k.deep (next_of cs at) (next-in k.rooted at h));
            }
      ]

  pub rise : Above cs at to → Rise rows cs n at to up
  rise a = rise-by a.steps a.enough a.leads

-- a climb on its way, and what it has cost so far
pub record Paid (rows : List Row) (cs : List Connection) (n from to at sum : ℕ) : Type 0 where
  pub inside : at < n
  pub above : Above cs at to
  pub total : held (sum + weigh rows cs at to) ≡ held (weigh rows cs from to)

module _ {rows : List Row} {cs : List Connection} {n from to at sum : ℕ} (k : Climbs cs n rows) (w : Paid rows cs n from to at sum) where
  pub onward : (up : ℕ) → (at ≡ to → ⊥) → up ≡ next_in rows at → Rise rows cs n at to up
  onward up e u = rise k at to up w.inside e u w.above

  pub paid-more : (up t : ℕ) → (at ≡ to → ⊥) → up ≡ next_in rows at → t ≡ held (sum + cost_in rows at) → Paid rows cs n from to up t
  paid-more up t e u v =
      let s = onward up e u in
      record { inside = s.inside; above = s.above; total = omega (arith, s.cost, w.total) }

  pub paid-all : at ≡ to → sum ≤ cost_cap → sum ≡ held (weigh rows cs from to)
  paid-all e h = omega (arith, ap (weigh rows cs at) (sym e) ∙ weigh-self rows cs at, w.total)

-- the cost of a connection is the same both ways
module _ (rows : List Row) where
  abbrev price : List Connection → (ℕ → ℕ → ℕ) → Connection → Bool → ℕ
  price _ _ c _ = cost_in rows (cur c)

  hop-both : (cs : List Connection) (n : ℕ) → hop 0 ◌+◌ price cs n true ≡ hop 0 ◌+◌ price cs n false
  unfolding hop
  hop-both cs n = go (parent_of cs n) refl
    where
      go : (p : Parent) → parent_of cs n ≡ p → hop 0 ◌+◌ price cs n true ≡ hop 0 ◌+◌ price cs n false
      go top q = rw q
      go (below c o) q = rw q

  both_ways : (k : ℕ) (cs : List Connection) (n : ℕ) → downs 0 ◌+◌ price cs k n ≡ ups 0 ◌+◌ price cs k n
  unfolding ups downs
  both_ways zero cs n = refl
  both_ways (suc k) cs n = omega (arith, hop-both cs n, both_ways k cs (next_of cs n))

  -- A PATH COSTS WHAT ITS TWO CLIMBS COST
  pub record Two (cs : List Connection) (l r t : ℕ) : Type 0 where
    pub left : Above cs l t
    pub right : Above cs r t
    pub cost : weigh rows cs l r ≡ weigh rows cs l t + weigh rows cs r t

  two : (cs : List Connection) (l r : ℕ) → Forest cs → root cs l ≡ root cs r → Two cs l r (top_of cs l r)
  unfolding weigh
  two cs l r f j =
      let m = halves 0 ◌+◌ price add_assoc zero-add add-zero cs l r f j in
      let a = walk-climb 0 ◌+◌ price add_assoc zero-add add-zero m.i cs l f m.left-deep in
      let b = walk-climb 0 ◌+◌ price add_assoc zero-add add-zero m.j cs r f m.right-deep in
      record {
        left = record { steps = m.i; enough = m.left-deep; leads = m.left };
        right = record { steps = m.j; enough = m.right-deep; leads = m.right };
        cost = m.whole
            ∙ ap₂ ◌+◌ (sym a ∙ ap (weigh rows cs l) m.left)
            (both_ways m.j cs r ∙ sym b ∙ ap (weigh rows cs r) m.right);
      }

  pub two_at : {cs : List Connection} {n l r : ℕ} {t : NodeNo} → Climbs cs n rows → Some t ≡ meet_of cs l r → Two cs l r t.0
  unfolding meet_of
  two_at {cs} {n} {l} {r} {t} k e = go (joined cs l r) refl
    where
      go : (b : Bool) → joined cs l r ≡ b → Two cs l r t.0
      go true q =
          let p : Some t ≡ Some (record { 0 = top_of cs l r }) = e ∙ rw q in
          let s : t ≡ record { 0 = top_of cs l r } = cc in
          rw (ap (λ (x : NodeNo). x.0) s) (two cs l r k.rooted.forest (joined-root cs l r q))
      go false q = let z : Some t ≡ None = e ∙ rw q in let y : ◌≡◌ {A = ℕ} 0 1 = cc in absurd (omega arith)

-- joined nodes meet
pub joined-meet : (cs : List Connection) (l r : ℕ) → root cs l ≡ root cs r → is_some (meet_of cs l r) ≡ true
unfolding meet_of
joined-meet cs l r j = rw (joined-yes cs l r j) refl
