-- One step of a climb by the rows: where it leads, and how deep that is.
use Prim.Native.Nat.{ℕ, zero, suc, ◌+◌, ◌-◌, ◌<◌, ◌≤◌}
use mathlib.Core.List.{List, [], ◌∷◌}
use mathlib.Core.Logic.{◌⊎◌, inr, ⊎_elim}
use mathlib.Core.Path.{◌∙◌, ◌≡◌, ap, refl, sym}
use native.Mathlib.Decide.{ℕ_discrete}
use native.Mathlib.Omega.{arith}
use lib.ListN.{set}
use Rattle.forest.specs.declared.Row.{Row}
use Rattle.model.specs.Forest.{below, cur, parent_of}
use Rattle.model.specs.Limits.{node_limit}
use Rattle.model.specs.declared.Connection.{Connection}
use Rattle.paths.proofs.Bound.{depth_le}
use Rattle.paths.proofs.Laws.{depth_below, depth-top, parent-new, parent-old}
use Rattle.paths.proofs.Meets.{meet_left, meet-nowhere, meet_right, within-parent}
use Rattle.paths.proofs.Places.{high, low, place}
use Rattle.paths.proofs.Ways.{next-high}
use Rattle.paths.specs.Hangs.{Forest, Within, depth, next_of}
use Rattle.paths.specs.Meet.{meet_of}
use Rattle.std.specs.Prelude.{None}
use Rattle.entries.specs.Connections.{connection_in, oldest}
use Rattle.forest.specs.Rows.{Climbs, Rooted, age_in, age_of, depth_in, next_in, row_in, with_depth}
use Rattle.forest.specs.Filling.{DepthsKnown, Settled, Sounded, Tied}
use Rattle.forest.proofs.Ages.{age-old, age-top}
use Rattle.forest.proofs.Filled.{depth-here, right-depth, still-known, tied-depth}

record Parented (cs : List Connection) (n : ℕ) : Type 0 where
  conn : Connection
  older : List Connection
  by : parent_of cs n ≡ below conn older

parented : (cs : List Connection) (n : ℕ) → (age_of cs n ≡ 0 → ⊥) → Parented cs n
unfolding age_of
parented [] n z = absurd (z refl)
parented (c ∷ cs) n z =
    elim (ℕ_discrete n (cur c)) [
      | yes q ↦ record { conn = c; older = cs; by = parent-new c cs n q }
      | no q ↦
          let p = parented cs n (λ e. z (age-old c cs n q ∙ e)) in
          record { conn = p.conn; older = p.older; by = parent-old c cs n q ∙ p.by }
    ]

module _ {n : ℕ} {cs : List Connection} (r : Rooted n cs) (m : ℕ) (h : m < n) where
  pub next-in : next_of cs m < n
  next-in =
      elim (place cs m r.forest) [
        | high a b ↦ omega (arith, next-high cs m r.forest a b)
        | low c o a b t ↦ omega (arith, within-parent n cs m r.within a)
      ]

  pub depth-few : depth cs m < node_limit
  depth-few = omega (arith, depth_le cs m r.forest, r.short)

  pub top-depth : age_of cs m ≡ 0 → depth cs m ≡ 0
  top-depth z = depth-top cs m r.forest (age-top cs m z)

  pub next-depth : (age_of cs m ≡ 0 → ⊥) → depth cs m ≡ suc (depth cs (next_of cs m))
  next-depth z =
      elim (place cs m r.forest) [
        | high a b ↦ absurd (omega (arith, depth_below cs m r.forest (parented cs m z).by))
        | low c o a b t ↦ t
      ]

-- the ends of each connection of a table are nodes
pub within-at : (n : ℕ) (conns : List ℕ) (k a : ℕ) → Within n (oldest k conns) → a < k → cur (connection_in conns a) < n
unfolding oldest
within-at n conns zero a w h = absurd (omega arith)
within-at n conns (suc k) a w h = elim (ℕ_discrete a k) [ yes e ↦ rw e w.0 | no e ↦ within-at n conns k a w.2 (omega arith) ]

-- the climb that looks for a known depth
pub record Sought (cs : List Connection) (n m at steps : ℕ) : Type 0 where
  pub inside : at < n
  pub total : steps + depth cs at ≡ depth cs m

-- the climb that writes depths
pub record Settling (cs : List Connection) (n : ℕ) (old before rows : List Row) (m at d : ℕ) : Type 0 where
  pub sounded : Sounded cs n old rows
  pub inside : at < n
  pub here : depth_in rows at ≡ 0 → d ≡ suc (depth cs at)
  pub found : (at ≡ m) ⊎ (0 < depth_in rows m)
  pub kept : (a : ℕ) → 0 < depth_in before a → 0 < depth_in rows a

module _ {cs : List Connection} {n : ℕ} {old before rows : List Row} {m at d : ℕ} (s : Settling cs n old before rows m at d) where
  pub settle-next : (new : List Row) (up : ℕ) → depth_in rows at ≡ 0 → new ≡ set rows at (with_depth d (row_in rows at)) → up ≡ next_in new at →
      Settling cs n old before new m up (d - 1)
  settle-next new up z e u =
      let t = s.sounded.tied in
      let r = s.sounded.rooted in
      let k = s.here z in
      let deeper : Tied cs n old new = rw e (tied-depth t r.few at d s.inside) in
      let v : up ≡ next_of cs at = u ∙ deeper.next at s.inside in
      let known : (a : ℕ) → 0 < depth_in rows a → 0 < depth_in new a = λ a q.
      rw e (still-known t r.few at d s.inside a (omega arith) q) in
      let at-known : depth_in new at ≡ d = rw e (depth-here t r.few at d s.inside) in
      record {
        sounded = record {
          rooted = r;
          tied = deeper;
          right = rw e (right-depth t r.few at d s.inside k s.sounded.right);
        };
        inside = omega (arith, next-in r at s.inside);
        here = λ q. elim (place cs at r.forest) [
          | high a b ↦
              let w : depth_in new at ≡ 0 = ap (depth_in new) (sym (v ∙ next-high cs at r.forest a b)) ∙ q in
              absurd (omega arith)
          | low c o a b t ↦ omega (arith, ap (depth cs) v)
        ];
        found = inr (⊎_elim (λ q. rw (← q) (omega arith)) (known m) s.found);
        kept = λ a q. known a (s.kept a q);
      }

  pub settle-done : (depth_in rows at ≡ 0 → ⊥) → Settled cs n old before rows m
  settle-done z =
      record {
        sounded = s.sounded;
        here = ⊎_elim (λ q. rw (← q) (omega arith)) (λ q. q) s.found;
        kept = s.kept;
      }

-- one node after the other
pub resounded : {cs : List Connection} {n : ℕ} {old rows : List Row} → Sounded cs n old rows → Sounded cs n rows rows
resounded s =
    let t = s.tied in
    record {
      rooted = s.rooted;
      tied = record { size = t.size; next = t.next; age = t.age; free = t.free; rest = λ i h. refl };
      right = s.right;
    }

pub known_more : {cs : List Connection} {n : ℕ} {old before rows : List Row} {i : ℕ} → DepthsKnown i before → Settled cs n old before rows i →
    DepthsKnown (i + 1) rows
known_more {i = i} k s = λ a h. elim (ℕ_discrete a i) [ yes q ↦ rw q s.here | no q ↦ s.kept a (k a (omega arith)) ]

-- two climbs that have not met
pub record Nearing (cs : List Connection) (n l₀ r₀ l r : ℕ) : Type 0 where
  pub left_in : l < n
  pub right-in : r < n
  pub same : meet_of cs l r ≡ meet_of cs l₀ r₀

module _ {cs : List Connection} {n : ℕ} {rows : List Row} {l₀ r₀ l r : ℕ} (k : Climbs cs n rows) (w : Nearing cs n l₀ r₀ l r) (e : l ≡ r → ⊥) where
  abbrev f : Forest cs
  f = k.rooted.forest

  left-depth : depth_in rows l ≡ suc (depth cs l)
  left-depth = k.deep l w.left_in

  right-depth' : depth_in rows r ≡ suc (depth cs r)
  right-depth' = k.deep r w.right-in

  pub meets-right : depth_in rows l < depth_in rows r → (up : ℕ) → up ≡ next_in rows r → Nearing cs n l₀ r₀ l up
  meets-right h up u =
      let d : depth cs l < depth cs r = omega (arith, left-depth, right-depth') in
      let v : up ≡ next_of cs r = u ∙ k.next r w.right-in in
      rw v record {
        left_in = w.left_in;
        right-in = next-in k.rooted r w.right-in;
        same = sym (meet_right cs l r f e (omega arith) (omega arith)) ∙ w.same;
      }

  pub right-falls : depth_in rows l < depth_in rows r → (up : ℕ) → up ≡ next_in rows r → depth_in rows up < depth_in rows r
  right-falls h up u =
      let v : up ≡ next_of cs r = u ∙ k.next r w.right-in in
      let i = next-in k.rooted r w.right-in in
      elim (place cs r f) [
        | high a b ↦ absurd (omega (arith, left-depth, right-depth'))
        | low c o a b t ↦ rw v (omega (arith, right-depth', k.deep (next_of cs r) i))
      ]

  pub meets-left : depth_in rows r ≤ depth_in rows l → (age_in rows l ≡ 0 → ⊥) → (up : ℕ) → up ≡ next_in rows l → Nearing cs n l₀ r₀ up r
  meets-left h z up u =
      let d : depth cs r ≤ depth cs l = omega (arith, left-depth, right-depth') in
      let v : up ≡ next_of cs l = u ∙ k.next l w.left_in in
      let t = next-depth k.rooted l w.left_in (λ q. z (k.age l w.left_in ∙ q)) in
      rw v record {
        left_in = next-in k.rooted l w.left_in;
        right-in = w.right-in;
        same = sym (meet_left cs l r f e (omega arith) (omega arith)) ∙ w.same;
      }

  pub left-falls : (age_in rows l ≡ 0 → ⊥) → (up : ℕ) → up ≡ next_in rows l → depth_in rows up < depth_in rows l
  left-falls z up u =
      let v : up ≡ next_of cs l = u ∙ k.next l w.left_in in
      let i = next-in k.rooted l w.left_in in
      let t = next-depth k.rooted l w.left_in (λ q. z (k.age l w.left_in ∙ q)) in
      rw v (omega (arith, left-depth, k.deep (next_of cs l) i))

  pub meets-nowhere : depth_in rows r ≤ depth_in rows l → age_in rows l ≡ 0 → None ≡ meet_of cs l₀ r₀
  meets-nowhere h z =
      let t = top-depth k.rooted l w.left_in (sym (k.age l w.left_in) ∙ z) in
      sym (meet-nowhere cs l r f e t (omega (arith, left-depth, right-depth'))) ∙ w.same
