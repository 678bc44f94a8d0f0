-- Both ends climb by parent connections until they meet: the way between two joined nodes goes up from the left and down
-- to the right, and the two climbs meet at its top.
use Prim.Native.Nat.{ℕ, zero, suc, ◌+◌, ◌≤◌, ◌<◌}
use mathlib.Core.Path.{◌≡◌, refl, sym, ap, ◌∙◌}
use mathlib.Core.Bool.{Bool, true, false}
use mathlib.Core.List.{List}
use native.Mathlib.Omega.{arith}
use native.Mathlib.Decide.{ℕ_discrete, dec_le}
use Rattle.model.specs.declared.Connection.{Connection}
use Rattle.model.specs.Forest.{nxt, root, walk, Parent, top, below, parent_of}
use Rattle.paths.specs.Hangs.{next_of, depth, Forest}
use Rattle.paths.proofs.Laws.{root_below, depth_below}
use Rattle.paths.proofs.Walks.{climb-left, climb-right, walk-self, depth-zero}
use Rattle.paths.proofs.Places.{high, low, place}

-- the node k connections above
unfoldable pub climb_by : List Connection → ℕ → ℕ → ℕ
climb_by cs zero n = n
climb_by cs (suc k) n = climb_by cs k (next_of cs n)

pub next-high : (cs : List Connection) (n : ℕ) → Forest cs → root cs n ≡ n → depth cs n ≡ 0 → next_of cs n ≡ n
unfolding next_of
next-high cs n f a b = go (parent_of cs n) refl
  where
    go : (p : Parent) → parent_of cs n ≡ p → next_of cs n ≡ n
    go top q = rw q
    go (below c o) q = absurd (omega (arith, depth_below cs n f q))

-- a climb stays among joined nodes: two climbs that meet are of joined nodes
pub root-climb : (k : ℕ) (cs : List Connection) (n : ℕ) → Forest cs → root cs (climb_by cs k n) ≡ root cs n
unfolding climb_by
root-climb zero cs n f = refl
root-climb (suc k) cs n f = root-climb k cs (next_of cs n) f ∙ (elim (place cs n f) [
  | high a b ↦ ap (root cs) (next-high cs n f a b)
  | low c o a b t ↦ ap (root cs) b ∙ sym (root_below cs n f a)
])

-- a climb of k connections leads k less deep
pub depth-climb : (k : ℕ) (cs : List Connection) (n : ℕ) → Forest cs → k ≤ depth cs n → depth cs n ≡ k + depth cs (climb_by cs k n)
unfolding climb_by
depth-climb zero cs n f h = omega arith
depth-climb (suc k) cs n f h =
    elim (place cs n f) [
      | high a b ↦ absurd (omega arith)
      | low c o a b t ↦ omega (arith, depth-climb k cs (next_of cs n) f (omega arith))
    ]

-- no two climbs meet lower than the climbs of i and j connections
abbrev pub Lowest : List Connection → ℕ → ℕ → ℕ → ℕ → Type 0
Lowest cs l r i j = (a b : ℕ) → a ≤ depth cs l → b ≤ depth cs r → climb_by cs a l ≡ climb_by cs b r → (i ≤ a) × (j ≤ b)

lowest-left : (cs : List Connection) (l r i j : ℕ) → Forest cs → depth cs r ≤ depth cs l → (l ≡ r → ⊥) →
    depth cs l ≡ suc (depth cs (next_of cs l)) → Lowest cs (next_of cs l) r i j → Lowest cs l r (suc i) j
unfolding climb_by
lowest-left cs l r i j f h n d m zero b p q e =
    let k = depth-climb b cs r f q in
    let s : depth cs l ≡ depth cs (climb_by cs b r) = ap (depth cs) e in
    let y : b ≡ 0 = omega arith in
    absurd (n (e ∙ ap (λ (x : ℕ). climb_by cs x r) y))
lowest-left cs l r i j f h n d m (suc a) b p q e = let k = m a b (omega arith) q e in (omega arith, k.1)

lowest-right : (cs : List Connection) (l r i j : ℕ) → Forest cs → depth cs l < depth cs r →
    depth cs r ≡ suc (depth cs (next_of cs r)) → Lowest cs l (next_of cs r) i j → Lowest cs l r i (suc j)
unfolding climb_by
lowest-right cs l r i j f h d m a zero p q e =
    let k = depth-climb a cs l f p in
    let s : depth cs (climb_by cs a l) ≡ depth cs r = ap (depth cs) e in
    absurd (omega arith)
lowest-right cs l r i j f h d m a (suc b) p q e = let k = m a b p (omega arith) e in (k.0, omega arith)

module _ {A : Type 0} (e : A) (◌·◌ : A → A → A) (step : List Connection → (ℕ → ℕ → A) → Connection → Bool → A) where
  abbrev hop_by : Parent → Bool → A
  hop_by top u = e
  hop_by (below c o) u = step o (walk e ◌·◌ step o) c u

  -- the step from a node to its parent, or back
  unfoldable pub hop : List Connection → ℕ → Bool → A
  hop cs n u = hop_by (parent_of cs n) u

  unfoldable pub ups : List Connection → ℕ → ℕ → A
  ups cs zero n = e
  ups cs (suc k) n = ◌·◌ (hop cs n true) (ups cs k (next_of cs n))

  unfoldable pub downs : List Connection → ℕ → ℕ → A
  downs cs zero n = e
  downs cs (suc k) n = ◌·◌ (downs cs k (next_of cs n)) (hop cs n false)

  pub record Meets (cs : List Connection) (l r : ℕ) : Type 0 where
    pub i : ℕ
    pub j : ℕ
    pub meet : climb_by cs i l ≡ climb_by cs j r
    pub left : depth cs l ≡ i + depth cs (climb_by cs i l)
    pub right : depth cs r ≡ j + depth cs (climb_by cs j r)
    pub whole : walk e ◌·◌ step cs l r ≡ ◌·◌ (ups cs i l) (downs cs j r)
    pub lowest : Lowest cs l r i j

  pub hop-low : (cs : List Connection) (n : ℕ) (u : Bool) {c : Connection} {o : List Connection} → parent_of cs n ≡ below c o →
      hop cs n u ≡ step o (walk e ◌·◌ step o) c u
  unfolding hop
  hop-low cs n u p = rw p

  module _ (assoc : (a b c : A) → ◌·◌ (◌·◌ a b) c ≡ ◌·◌ a (◌·◌ b c)) (unit-l : (a : A) → ◌·◌ e a ≡ a) (unit-r : (a : A) → ◌·◌ a e ≡ a) where
    meets-here : (cs : List Connection) (l r : ℕ) → l ≡ r → Meets cs l r
    unfolding climb_by ups downs
    meets-here cs l r q =
        record {
          i = 0;
          j = 0;
          meet = q;
          left = omega arith;
          right = omega arith;
          whole = ap (walk e ◌·◌ step cs l) (sym q) ∙ walk-self e ◌·◌ step cs l ∙ sym (unit-l e);
          lowest = λ a b p s m. (omega arith, omega arith);
        }

    meets-by : (d : ℕ) (cs : List Connection) (l r : ℕ) → Forest cs → root cs l ≡ root cs r → depth cs l + depth cs r ≤ d → Meets cs l r
    unfolding climb_by ups downs
    meets-by zero cs l r f j h =
        meets-here cs l r (sym (depth-zero cs l f (omega arith)) ∙ j ∙ depth-zero cs r f (omega arith))
    meets-by (suc d) cs l r f j h =
        elim (ℕ_discrete l r) [
          | yes q ↦ meets-here cs l r q
          | no q ↦ elim (dec_le (depth cs r) (depth cs l)) [
            | yes z ↦ elim (place cs l f) [
              | high a b ↦ absurd (q (sym a ∙ j ∙ depth-zero cs r f (omega arith)))
              | low c o a b t ↦
                  let m = meets-by d cs (next_of cs l) r f (ap (root cs) b ∙ sym (root_below cs l f a) ∙ j) (omega arith) in
                  record {
                    i = suc m.i;
                    j = m.j;
                    meet = m.meet;
                    left = omega (arith, m.left);
                    right = m.right;
                    whole = climb-left e ◌·◌ step assoc unit-l unit-r cs l r f a j z q
                        ∙ ap (λ (x : A). ◌·◌ x (walk e ◌·◌ step cs (nxt c) r)) (sym (hop-low cs l true a))
                        ∙ ap (λ (x : ℕ). ◌·◌ (hop cs l true) (walk e ◌·◌ step cs x r)) (sym b)
                        ∙ ap (◌·◌ (hop cs l true)) m.whole
                        ∙ sym (assoc _ _ _);
                    lowest = lowest-left cs l r m.i m.j f z q t m.lowest;
                  }
            ]
            | no z ↦ elim (place cs r f) [
              | high a b ↦ absurd (omega arith)
              | low c o a b t ↦
                  let m = meets-by d cs l (next_of cs r) f (j ∙ root_below cs r f a ∙ ap (root cs) (sym b)) (omega arith) in
                  record {
                    i = m.i;
                    j = suc m.j;
                    meet = m.meet;
                    left = m.left;
                    right = omega (arith, m.right);
                    whole = climb-right e ◌·◌ step assoc unit-l unit-r cs l r f a j (omega arith) q
                        ∙ ap (◌·◌ (walk e ◌·◌ step cs l (nxt c))) (sym (hop-low cs r false a))
                        ∙ ap (λ (x : ℕ). ◌·◌ (walk e ◌·◌ step cs l x) (hop cs r false)) (sym b)
                        ∙ ap (λ (x : A). ◌·◌ x (hop cs r false)) m.whole
                        ∙ assoc _ _ _;
                    lowest = lowest-right cs l r m.i m.j f (omega arith) t m.lowest;
                  }
            ]
          ]
        ]

    pub meets : (cs : List Connection) (l r : ℕ) → Forest cs → root cs l ≡ root cs r → Meets cs l r
    meets cs l r f j = meets-by (depth cs l + depth cs r) cs l r f j (omega arith)

    -- one step more at the top of the climb up, one step less of the climb down: what two loops write
    pub ups-more : (k : ℕ) (cs : List Connection) (n : ℕ) → ups cs (suc k) n ≡ ◌·◌ (ups cs k n) (hop cs (climb_by cs k n) true)
    unfolding climb_by ups
    ups-more zero cs n = unit-r _ ∙ sym (unit-l _)
    ups-more (suc k) cs n = ap (◌·◌ (hop cs n true)) (ups-more k cs (next_of cs n)) ∙ sym (assoc _ _ _)

    pub downs-more : (k : ℕ) (cs : List Connection) (n : ℕ) → downs cs (suc k) n ≡ ◌·◌ (hop cs (climb_by cs k n) false) (downs cs k n)
    unfolding climb_by downs
    downs-more zero cs n = unit-l _ ∙ sym (unit-r _)
    downs-more (suc k) cs n = ap (λ (x : A). ◌·◌ x (hop cs n false)) (downs-more k cs (next_of cs n)) ∙ assoc _ _ _
