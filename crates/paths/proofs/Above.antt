-- A climb from a node to one above it is the walk between the two, and the walk between joined nodes is two climbs to where they meet.
use Prim.Native.Nat.{ℕ, zero, suc, ◌+◌, ◌≤◌}
use mathlib.Core.Path.{◌≡◌, sym, ap, ap₂, ◌∙◌}
use mathlib.Core.Bool.{Bool, true}
use mathlib.Core.List.{List}
use native.Mathlib.Omega.{arith}
use Rattle.model.specs.declared.Connection.{Connection}
use Rattle.model.specs.Forest.{nxt, root, walk}
use Rattle.paths.specs.Hangs.{next_of, depth, Forest}
use Rattle.paths.specs.Meet.{top_of}
use Rattle.paths.proofs.Walks.{climb-left, walk-self}
use Rattle.paths.proofs.Places.{high, low, place}
use Rattle.paths.proofs.Ways.{climb_by, root-climb, depth-climb, hop, hop-low, ups, downs, meets}
use Rattle.paths.proofs.Climbed.{climbed}

module _ {A : Type 0} (e : A) (◌·◌ : A → A → A) (step : List Connection → (ℕ → ℕ → A) → Connection → Bool → A)
    (assoc : (a b c : A) → ◌·◌ (◌·◌ a b) c ≡ ◌·◌ a (◌·◌ b c)) (unit-l : (a : A) → ◌·◌ e a ≡ a) (unit-r : (a : A) → ◌·◌ a e ≡ a) where
  pub walk-climb : (k : ℕ) (cs : List Connection) (n : ℕ) → Forest cs → k ≤ depth cs n →
      walk e ◌·◌ step cs n (climb_by cs k n) ≡ ups e ◌·◌ step cs k n
  unfolding climb_by ups
  walk-climb zero cs n f h = walk-self e ◌·◌ step cs n
  walk-climb (suc k) cs n f h =
      let m = climb_by cs k (next_of cs n) in
      let d : depth cs n ≡ suc k + depth cs m = depth-climb (suc k) cs n f h in
      elim (place cs n f) [
        | high a b ↦ absurd (omega arith)
        | low c o a b t ↦
            climb-left e ◌·◌ step assoc unit-l unit-r cs n m f a (sym (root-climb (suc k) cs n f)) (omega arith)
            (λ q. omega (arith, ap (depth cs) q))
            ∙ ap (λ (x : A). ◌·◌ x (walk e ◌·◌ step cs (nxt c) m)) (sym (hop-low e ◌·◌ step cs n true a))
            ∙ ap (λ (x : ℕ). ◌·◌ (hop e ◌·◌ step cs n true) (walk e ◌·◌ step cs x m)) (sym b)
            ∙ ap (◌·◌ (hop e ◌·◌ step cs n true)) (walk-climb k cs (next_of cs n) f (omega arith))
      ]

  -- up from the left to where the climbs meet, and down to the right
  pub record Halves (cs : List Connection) (l r : ℕ) : Type 0 where
    pub i : ℕ
    pub j : ℕ
    pub left-deep : i ≤ depth cs l
    pub right-deep : j ≤ depth cs r
    pub left : climb_by cs i l ≡ top_of cs l r
    pub right : climb_by cs j r ≡ top_of cs l r
    pub whole : walk e ◌·◌ step cs l r ≡ ◌·◌ (ups e ◌·◌ step cs i l) (downs e ◌·◌ step cs j r)

  pub halves : (cs : List Connection) (l r : ℕ) → Forest cs → root cs l ≡ root cs r → Halves cs l r
  halves cs l r f s =
      let c = climbed cs l r f s in
      let m = meets e ◌·◌ step assoc unit-l unit-r cs l r f s in
      let a = c.lowest m.i m.j (omega (arith, m.left)) (omega (arith, m.right)) m.meet in
      let b = m.lowest c.i c.j c.left-deep c.right-deep (c.left ∙ sym c.right) in
      let p : m.i ≡ c.i = omega arith in
      let q : m.j ≡ c.j = omega arith in
      record {
        i = c.i;
        j = c.j;
        left-deep = c.left-deep;
        right-deep = c.right-deep;
        left = c.left;
        right = c.right;
        whole = m.whole ∙ ap₂ (λ (x y : ℕ). ◌·◌ (ups e ◌·◌ step cs x l) (downs e ◌·◌ step cs y r)) p q;
      }
