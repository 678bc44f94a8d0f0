-- Older connections among all of them: a congruence asks for older paths, and there is one table to climb by.
-- An older parent connection is still the node's, and nodes that older connections join are walked between by those alone.
use Prim.Native.Nat.{ℕ, zero, suc, ◌+◌, ◌≤◌, ◌<◌}
use mathlib.Core.Path.{◌≡◌, refl, sym, ap, ◌∙◌}
use mathlib.Core.Bool.{Bool}
use mathlib.Core.List.{List}
use native.Mathlib.Omega.{arith}
use native.Mathlib.Decide.{ℕ_discrete}
use Rattle.model.specs.declared.Connection.{Connection}
use Rattle.model.specs.Forest.{cur, root, walk, below, parent_of, top}
use Rattle.paths.specs.Hangs.{next_of, depth, Forest}
use Rattle.entries.specs.Connections.{connection_in, oldest}
use Rattle.paths.proofs.Laws.{parent-new, parent-old, no-parent, depth-old, root-old}
use Rattle.paths.proofs.Walks.{walk-old}
use Rattle.paths.proofs.Places.{Place, high, low, place, next-below}
use Rattle.paths.proofs.Ways.{climb_by}

-- the older connections are a forest, and a node that has a parent among them keeps it
pub forest-older : (k m : ℕ) (ws : List ℕ) → k ≤ m → Forest (oldest m ws) → Forest (oldest k ws)
unfolding oldest
forest-older k zero ws h f = let e : k ≡ 0 = omega arith in rw e f
forest-older k (suc m) ws h f =
    elim (ℕ_discrete k (suc m)) [ yes e ↦ rw e f | no e ↦ forest-older k m ws (omega arith) f.1 ]

pub stays : (k m : ℕ) (ws : List ℕ) (n : ℕ) {c : Connection} {o : List Connection} → k ≤ m → Forest (oldest m ws) →
    parent_of (oldest k ws) n ≡ below c o → parent_of (oldest m ws) n ≡ below c o
unfolding oldest
stays k zero ws n h f p = let e : k ≡ 0 = omega arith in rw e at p
stays k (suc m) ws n h f p =
    elim (ℕ_discrete k (suc m)) [
      | yes e ↦ rw e at p
      | no e ↦ let i = stays k m ws n (omega arith) f.1 p in
          parent-old (connection_in ws m) (oldest m ws) n (λ q. no-parent (sym f.0.free ∙ ap (parent_of (oldest m ws)) (sym q) ∙ i)) ∙ i
    ]

-- nodes that older connections join stay joined, at the same difference of depths
pub record Kept (k m : ℕ) (ws : List ℕ) (l r : ℕ) : Type 0 where
  pub joins : root (oldest m ws) l ≡ root (oldest m ws) r
  pub deeper : depth (oldest m ws) l + depth (oldest k ws) r ≡ depth (oldest m ws) r + depth (oldest k ws) l

pub kept : (k m : ℕ) (ws : List ℕ) (l r : ℕ) → k ≤ m → root (oldest k ws) l ≡ root (oldest k ws) r → Kept k m ws l r
unfolding oldest
kept k zero ws l r h p = let e : k ≡ 0 = omega arith in rw e record { joins = rw e at p; deeper = omega arith }
kept k (suc m) ws l r h p =
    elim (ℕ_discrete k (suc m)) [
      | yes e ↦ rw e record { joins = rw e at p; deeper = omega arith }
      | no e ↦ let i = kept k m ws l r (omega arith) p in
          record {
            joins = root-old (connection_in ws m) (oldest m ws) l r i.joins;
            deeper = omega (arith, i.deeper, depth-old (connection_in ws m) (oldest m ws) l r i.joins);
          }
    ]

-- no connection starts where an older one does
pub starts_apart : (count a b : ℕ) (ws : List ℕ) → Forest (oldest count ws) → a < count → b < a →
    cur (connection_in ws b) ≡ cur (connection_in ws a) → ⊥
unfolding oldest
starts_apart count a b ws f p q e =
    has-parent a b ws q (ap (parent_of (oldest a ws)) e ∙ (forest-older (suc a) count ws (omega arith) f).0.free)
  where
    has-parent : (a b : ℕ) (ws : List ℕ) → b < a → parent_of (oldest a ws) (cur (connection_in ws b)) ≡ top → ⊥
    has-parent zero b ws q = absurd (omega arith)
    has-parent (suc a) b ws q =
        let c = connection_in ws a in
        let n = cur (connection_in ws b) in
        elim (ℕ_discrete n (cur c)) [
          | yes e ↦ λ t. no-parent (sym t ∙ parent-new c (oldest a ws) n e)
          | no e ↦ λ t.
              has-parent a b ws (elim (ℕ_discrete b a) [ yes y ↦ absurd (e (ap (λ (x : ℕ). cur (connection_in ws x)) y)) | no y ↦ omega arith ])
              (sym (parent-old c (oldest a ws) n e) ∙ t)
        ]

-- the walk between nodes that older connections join is theirs
pub walk-older : {A : Type 0} (e : A) (◌·◌ : A → A → A) (step : List Connection → (ℕ → ℕ → A) → Connection → Bool → A) (k m : ℕ) (ws : List ℕ)
    (l r : ℕ) → k ≤ m → root (oldest k ws) l ≡ root (oldest k ws) r → walk e ◌·◌ step (oldest m ws) l r ≡ walk e ◌·◌ step (oldest k ws) l r
unfolding oldest
walk-older e ◌·◌ step k zero ws l r h j = let z : k ≡ 0 = omega arith in rw z refl
walk-older e ◌·◌ step k (suc m) ws l r h j =
    elim (ℕ_discrete k (suc m)) [
      | yes z ↦ rw z refl
      | no z ↦
          walk-old e ◌·◌ step (connection_in ws m) (oldest m ws) l r (kept k m ws l r (omega arith) j).joins
          ∙ walk-older e ◌·◌ step k m ws l r (omega arith) j
    ]

-- a climb by older connections is a climb by all of them
pub climb-kept : (i k m : ℕ) (ws : List ℕ) (n : ℕ) → k ≤ m → Forest (oldest m ws) → i ≤ depth (oldest k ws) n →
    climb_by (oldest m ws) i n ≡ climb_by (oldest k ws) i n
unfolding climb_by
climb-kept zero k m ws n h f b = refl
climb-kept (suc i) k m ws n h f b = go (place (oldest k ws) n (forest-older k m ws h f)) (λ x q. climb-kept i k m ws x h f q)
  where
    go : Place (oldest k ws) n → ((x : ℕ) → i ≤ depth (oldest k ws) x → climb_by (oldest m ws) i x ≡ climb_by (oldest k ws) i x) →
        climb_by (oldest m ws) (suc i) n ≡ climb_by (oldest k ws) (suc i) n
    go (high p q) rec = absurd (omega arith)
    go (low c o p q t) rec =
        let e : next_of (oldest m ws) n ≡ next_of (oldest k ws) n = next-below (oldest m ws) n (stays k m ws n h f p) ∙ sym q in
        ap (climb_by (oldest m ws) i) e ∙ rec (next_of (oldest k ws) n) (omega arith)
