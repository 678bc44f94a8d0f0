-- Sums by age over climbs: one step up, and the two climbs of a path, each by the table for its way.
use Prim.Native.Nat.{ℕ, zero, suc, ◌+◌, ◌-◌, ◌≤◌, ◌<◌}
use mathlib.Core.Path.{◌≡◌, refl, sym, ap, ap₂, ◌∙◌}
use mathlib.Core.Bool.{Bool, true, false}
use mathlib.Core.List.{List, [], ◌∷◌}
use mathlib.Core.Logic.{⊎_elim}
use native.Mathlib.Nat.{add_assoc, zero-add, add-zero}
use native.Mathlib.Omega.{arith}
use lib.ListN.{get_or, length}
use Rattle.forest.specs.declared.Row.{Row}
use Rattle.model.specs.declared.Connection.{Connection}
use Rattle.model.specs.declared.NodeNo.{NodeNo}
use Rattle.model.specs.Forest.{Parent, below, joined, parent_of, root, top}
use Rattle.model.specs.Limits.{node_limit}
use Rattle.paths.specs.Hangs.{Forest, depth, next_of}
use Rattle.paths.specs.Meet.{meet_of, top_of}
use Rattle.std.specs.Prelude.{Some, None}
use Rattle.paths.proofs.Laws.{no-parent, parent-case}
use Rattle.paths.proofs.Walks.{climb-left, walk-self}
use Rattle.paths.proofs.Joined.{joined-root}
use Rattle.paths.proofs.Places.{high, low, place}
use Rattle.paths.proofs.Ways.{climb_by, depth-climb, downs, hop, root-climb, ups}
use Rattle.paths.proofs.Above.{halves, walk-climb}
use Rattle.forest.specs.Rows.{Climbs, age_in, age_of, cost_in, depth_in, next_in}
use Rattle.forest.proofs.Ages.{age-new, age-old}
use Rattle.costs.specs.Costs.{Above, weigh}
use Rattle.costs.proofs.Climbs.{rise, weigh-self}
use Rattle.trees.specs.Sizes.{held_nodes, node_cap}
use Rattle.needs.specs.declared.Need.{Need}
use Rattle.needs.specs.Needs.{Comes, path_nodes, pick, tally}
use Rattle.needs.proofs.Held.{Same}

-- the age of a parent connection is the number of connections older than it
age-below : (cs : List Connection) (n : ℕ) {c : Connection} {o : List Connection} → parent_of cs n ≡ below c o → age_of cs n ≡ suc (length o)
unfolding parent_of
age-below [] n p = absurd (no-parent p)
age-below (d ∷ cs) n p =
    ⊎_elim (λ w. age-new d cs n w.here ∙ ap (λ (o : List Connection). suc (length o)) w.rest)
    (λ w. age-old d cs n w.there ∙ age-below cs n w.from) (parent-case d cs n p)

older-fewer : (cs : List Connection) (n : ℕ) {c : Connection} {o : List Connection} → parent_of cs n ≡ below c o → length o < length cs
unfolding parent_of
older-fewer [] n p = absurd (no-parent p)
older-fewer (d ∷ cs) n p =
    ⊎_elim (λ w. omega (arith, ap (λ (o : List Connection). length o) w.rest)) (λ w. omega (arith, older-fewer cs n w.from))
    (parent-case d cs n p)

pub tally-self : (table : List ℕ) (cs : List Connection) (n : ℕ) → tally table cs n n ≡ 0
unfolding tally
tally-self table cs n = walk-self 0 ◌+◌ (λ older _ c u. get_or table (length older) 0) cs n

-- one step of a climb: what its connection's number adds
pub record Counted (rows : List Row) (table : List ℕ) (cs : List Connection) (at to up : ℕ) : Type 0 where
  pub aged : 0 < age_in rows at
  pub few : age_in rows at < node_limit
  pub nodes : tally table cs at to ≡ get_or table (age_in rows at - 1) 0 + tally table cs up to

module _ {cs : List Connection} {n : ℕ} {rows : List Row} (table : List ℕ) (k : Climbs cs n rows) (at to up : ℕ) (h : at < n) (e : at ≡ to → ⊥)
    (u : up ≡ next_in rows at) where
  abbrev f : Forest cs
  f = k.rooted.forest

  counted-by : (i : ℕ) → i ≤ depth cs at → climb_by cs i at ≡ to → Counted rows table cs at to up
  unfolding climb_by tally
  counted-by zero d p = absurd (e p)
  counted-by (suc i) d p =
      let t = depth-climb (suc i) cs at f d in
      let v : up ≡ next_of cs at = u ∙ k.next at h in
      elim (place cs at f) [
        | high a b ↦ absurd (omega arith)
        | low c o a b s ↦
            let w = climb-left 0 ◌+◌ (λ older _ c u. get_or table (length older) 0) add_assoc zero-add add-zero cs at to f a
            (sym (root-climb (suc i) cs at f) ∙ ap (root cs) p) (omega (arith, ap (depth cs) p)) e in
            let g : age_in rows at ≡ suc (length o) = k.age at h ∙ age-below cs at a in
            let r : length o ≡ age_in rows at - 1 = omega arith in
            record {
              aged = omega arith;
              few = omega (arith, older-fewer cs at a, k.rooted.short);
              nodes = w ∙ ap₂ (λ (x y : ℕ). get_or table x 0 + tally table cs y to) r (sym b ∙ sym v);
            }
      ]

  pub counted : Above cs at to → Counted rows table cs at to up
  counted a = counted-by a.steps a.enough a.leads

-- a climb on its way, with what it has cost and appended so far
pub record Gone (rows : List Row) (table : List ℕ) (cs : List Connection) (n from to at d m : ℕ) : Type 0 where
  pub inside : at < n
  pub above : Above cs at to
  pub cost : Same (d + weigh rows cs at to) (weigh rows cs from to)
  pub nodes : Same (m + tally table cs at to) (tally table cs from to)

module _ {rows : List Row} {table : List ℕ} {cs : List Connection} {n from to at d m : ℕ} (k : Climbs cs n rows)
    (w : Gone rows table cs n from to at d m) where
  pub gone-up : (up : ℕ) → (at ≡ to → ⊥) → up ≡ next_in rows at → Counted rows table cs at to up
  gone-up up e u = counted table k at to up w.inside e u w.above

  pub gone-falls : (up : ℕ) → (at ≡ to → ⊥) → up ≡ next_in rows at → depth_in rows up < depth_in rows at
  gone-falls up e u = (rise k at to up w.inside e u w.above).falls

  pub gone-more : (up : ℕ) {d' m' : ℕ} → (at ≡ to → ⊥) → up ≡ next_in rows at → d' ≡ held_nodes (d + cost_in rows at) →
      m' ≡ held_nodes (m + get_or table (age_in rows at - 1) 0) → Gone rows table cs n from to up d' m'
  gone-more up e u p q =
      let s = rise k at to up w.inside e u w.above in
      let r = gone-up up e u in
      record {
        inside = s.inside;
        above = s.above;
        cost = omega (arith, s.cost, w.cost);
        nodes = omega (arith, r.nodes, w.nodes);
      }

  pub gone-all : {need : Need} → at ≡ to → need.cost ≡ d → need.nodes ≡ m → d ≤ node_cap → m ≤ node_cap →
      Comes need (weigh rows cs from to) (tally table cs from to)
  gone-all e p q g h =
      record {
        cost = omega (arith, ap (weigh rows cs at) (sym e) ∙ weigh-self rows cs at, w.cost);
        nodes = omega (arith, ap (tally table cs at) (sym e) ∙ tally-self table cs at, w.nodes);
      }

-- A PATH APPENDS WHAT ITS TWO CLIMBS DO, each by the table for its way
module _ (above below' : List ℕ) where
  abbrev both : List Connection → (ℕ → ℕ → ℕ) → Connection → Bool → ℕ
  both older _ c u = get_or (pick u above below') (length older) 0

  abbrev only : List ℕ → List Connection → (ℕ → ℕ → ℕ) → Connection → Bool → ℕ
  only table older _ c u = get_or table (length older) 0

  hop-up : (cs : List Connection) (n : ℕ) → hop 0 ◌+◌ both cs n true ≡ hop 0 ◌+◌ (only above) cs n true
  unfolding hop
  hop-up cs n = go (parent_of cs n) refl
    where
      go : (p : Parent) → parent_of cs n ≡ p → hop 0 ◌+◌ both cs n true ≡ hop 0 ◌+◌ (only above) cs n true
      go top q = rw q
      go (below c o) q = rw q

  hop-down : (cs : List Connection) (n : ℕ) → hop 0 ◌+◌ both cs n false ≡ hop 0 ◌+◌ (only below') cs n true
  unfolding hop
  hop-down cs n = go (parent_of cs n) refl
    where
      go : (p : Parent) → parent_of cs n ≡ p → hop 0 ◌+◌ both cs n false ≡ hop 0 ◌+◌ (only below') cs n true
      go top q = rw q
      go (below c o) q = rw q

  climb-up : (k : ℕ) (cs : List Connection) (n : ℕ) → ups 0 ◌+◌ both cs k n ≡ ups 0 ◌+◌ (only above) cs k n
  unfolding ups
  climb-up zero cs n = refl
  climb-up (suc k) cs n = omega (arith, hop-up cs n, climb-up k cs (next_of cs n))

  climb-down : (k : ℕ) (cs : List Connection) (n : ℕ) → downs 0 ◌+◌ both cs k n ≡ ups 0 ◌+◌ (only below') cs k n
  unfolding ups downs
  climb-down zero cs n = refl
  climb-down (suc k) cs n = omega (arith, hop-down cs n, climb-down k cs (next_of cs n))

  at_top : (cs : List Connection) (l r : ℕ) → Forest cs → root cs l ≡ root cs r →
      path_nodes above below' cs l r ≡ tally above cs l (top_of cs l r) + tally below' cs r (top_of cs l r)
  unfolding path_nodes tally
  at_top cs l r f j =
      let m = halves 0 ◌+◌ both add_assoc zero-add add-zero cs l r f j in
      let a = walk-climb 0 ◌+◌ (only above) add_assoc zero-add add-zero m.i cs l f m.left-deep in
      let b = walk-climb 0 ◌+◌ (only below') add_assoc zero-add add-zero m.j cs r f m.right-deep in
      m.whole
      ∙ ap₂ ◌+◌ (climb-up m.i cs l ∙ sym a ∙ ap (tally above cs l) m.left)
      (climb-down m.j cs r ∙ sym b ∙ ap (tally below' cs r) m.right)

  pub two_ways : {cs : List Connection} {n : ℕ} (l r : ℕ) {rows : List Row} {t : NodeNo} → Climbs cs n rows → Some t ≡ meet_of cs l r →
      path_nodes above below' cs l r ≡ tally above cs l t.0 + tally below' cs r t.0
  unfolding meet_of
  two_ways {cs} {n} l r {rows} {t} k e = go (joined cs l r) refl
    where
      go : (b : Bool) → joined cs l r ≡ b → path_nodes above below' cs l r ≡ tally above cs l t.0 + tally below' cs r t.0
      go true q =
          let p : Some t ≡ Some (record { 0 = top_of cs l r }) = e ∙ rw q in
          let s : t ≡ record { 0 = top_of cs l r } = cc in
          rw (ap (λ (x : NodeNo). x.0) s) (at_top cs l r k.rooted.forest (joined-root cs l r q))
      go false q = let z : Some t ≡ None = e ∙ rw q in let y : ◌≡◌ {A = ℕ} 0 1 = cc in absurd (omega arith)
