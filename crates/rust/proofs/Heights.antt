-- What the Rust's memo of distances holds: for each node how far its climb has come, and what that costs.
use Prim.Native.Nat.{ℕ, zero, suc, ◌+◌, ◌-◌, ◌≤◌, ◌<◌}
use mathlib.Core.Path.{◌≡◌, refl, ap, ap₂, ◌∙◌}
use mathlib.Core.Bool.{Bool, true, false, cond}
use mathlib.Core.List.{List}
use mathlib.Core.Option.{some}
use native.Mathlib.Omega.{arith}
use native.Mathlib.Decide.{ℕ_discrete, dec_le}
use borrow.Author.Tests.{eq-eqb, ne_eqb}
use lib.Dec.{eqb}
use lib.ListN.{length, get_elem?, length-set}
use Rattle.model.specs.declared.Connection.{Connection}
use Rattle.model.specs.Node.{Node}
use Rattle.model.specs.Forest.{cur, nxt, cost_by, Parent, top, below, parent_of}
use Rattle.paths.specs.Hangs.{next_of, depth}
use Rattle.paths.proofs.Ways.{climb_by, hop, ups, downs}
use Rattle.rust.specs.Distances.{Climbed, set_climbed}
use Rattle.rust.proofs.Vectors.{set_same, set_other}

-- a climb in two parts
pub climb-add : (i m : ℕ) (cs : List Connection) (n : ℕ) → climb_by cs (i + m) n ≡ climb_by cs m (climb_by cs i n)
unfolding climb_by
climb-add zero m cs n = let e : 0 + m ≡ m = omega arith in ap (λ (k : ℕ). climb_by cs k n) e
climb-add (suc i) m cs n = let e : suc i + m ≡ suc (i + m) = omega arith in ap (λ (k : ℕ). climb_by cs k n) e ∙ climb-add i m cs (next_of cs n)

module _ (ns : List Node) where
  -- document 01's cost of a connection, and of a climb
  abbrev pub priced : List Connection → (ℕ → ℕ → ℕ) → Connection → Bool → ℕ
  priced _ d c u = cost_by ns d c.why (cur c) (nxt c)

  abbrev pub cost_up : List Connection → ℕ → ℕ → ℕ
  cost_up cs i n = ups 0 ◌+◌ priced cs i n

  pub cost-add : (i m : ℕ) (cs : List Connection) (n : ℕ) → cost_up cs (i + m) n ≡ cost_up cs i n + cost_up cs m (climb_by cs i n)
  unfolding ups climb_by
  cost-add zero m cs n = let e : 0 + m ≡ m = omega arith in omega (arith, ap (λ (k : ℕ). cost_up cs k n) e)
  cost-add (suc i) m cs n =
      let e : suc i + m ≡ suc (i + m) = omega arith in omega (arith, ap (λ (k : ℕ). cost_up cs k n) e, cost-add i m cs (next_of cs n))

  pub cost-down : (j : ℕ) (cs : List Connection) (n : ℕ) → downs 0 ◌+◌ priced cs j n ≡ cost_up cs j n
  unfolding ups downs hop
  cost-down zero cs n = refl
  cost-down (suc j) cs n = omega (arith, cost-down j cs (next_of cs n), same-hop (parent_of cs n) refl)
    where
      same-hop : (p : Parent) → parent_of cs n ≡ p → hop 0 ◌+◌ priced cs n false ≡ hop 0 ◌+◌ priced cs n true
      same-hop top q = rw q refl
      same-hop (below c o) q = rw q refl

-- the node that a climb has come to, and the height that it has once it is joined to that node's own
abbrev pub onto : List Connection → (ℕ → ℕ) → ℕ → ℕ
onto cs h n = climb_by cs (h n) n

abbrev pub far : List Connection → (ℕ → ℕ) → ℕ → ℕ
far cs h n = h n + h (onto cs h n)

-- a node's height changed
unfoldable pub over : (ℕ → ℕ) → ℕ → ℕ → ℕ → ℕ
over h i k n = cond (eqb n i) k (h n)

pub over-same : (h : ℕ → ℕ) (i k n : ℕ) → n ≡ i → over h i k n ≡ k
unfolding over
over-same h i k n p = rw (eq-eqb n i p) refl

pub over-other : (h : ℕ → ℕ) (i k n : ℕ) → (n ≡ i → ⊥) → over h i k n ≡ h n
unfolding over
over-other h i k n p = rw (ne_eqb n i p) refl

module _ (ns : List Node) (cs : List Connection) where
  abbrev pub entry : (ℕ → ℕ) → ℕ → Climbed
  entry h n = record { node = onto cs h n; cost = cost_up ns cs (h n) n }

  -- each node of the table has climbed as its height says, and every node that it has climbed past has begun its own climb
  pub record Memo (memo : List Climbed) (h : ℕ → ℕ) : Type 0 where
    pub size : length memo ≡ length ns
    pub at : (n : ℕ) → n < length ns → get_elem? memo n ≡ some (entry h n)
    pub low : (n : ℕ) → h n ≤ depth cs n
    pub begun : (n j : ℕ) → j < h n → 0 < h (climb_by cs j n)

  -- a climb goes on to height k
  module _ (memo : List Climbed) (h : ℕ → ℕ) (m : Memo memo h) (i k : ℕ) (inside : i < length ns) (fits : k ≤ depth cs i) (some-way : 0 < k)
      (ways : (j : ℕ) → j < k → (climb_by cs j i ≡ i → ⊥) → 0 < h (climb_by cs j i)) where
    positive : (n : ℕ) → ((n ≡ i → ⊥) → 0 < h n) → 0 < over h i k n
    positive n p =
        elim (ℕ_discrete n i) [
          | yes q ↦ rw (over-same h i k n q) some-way
          | no q ↦ rw (over-other h i k n q) (p q)
        ]

    raised_at : (node cost : ℕ) → node ≡ climb_by cs k i → cost ≡ cost_up ns cs k i → (n : ℕ) → n < length ns →
        get_elem? (set_climbed memo i node cost) n ≡ some (entry (over h i k) n)
    raised_at node cost p q n u =
        elim (ℕ_discrete n i) [
          | yes e ↦ rw (over-same h i k n e, e) (set_same memo i (record { node = node; cost = cost }) (omega (arith, m.size))
              ∙ ap₂ (λ (x y : ℕ). some (record { node = x; cost = y })) p q)
          | no e ↦ rw (over-other h i k n e) (set_other memo i n (record { node = node; cost = cost }) e ∙ m.at n u)
        ]

    raised-begun : (n j : ℕ) → j < over h i k n → 0 < over h i k (climb_by cs j n)
    raised-begun n j u =
        positive (climb_by cs j n) (λ e. elim (ℕ_discrete n i) [
          | yes q ↦ rw q (ways j (rw (over-same h i k n q) at u) (rw q at e))
          | no q ↦ m.begun n j (rw (over-other h i k n q) at u)
        ])

    pub raised : (node cost : ℕ) → node ≡ climb_by cs k i → cost ≡ cost_up ns cs k i → Memo (set_climbed memo i node cost) (over h i k)
    raised node cost p q =
        record {
          size = length-set memo i (record { node = node; cost = cost }) ∙ m.size;
          at = raised_at node cost p q;
          low = λ n. elim (ℕ_discrete n i) [
            | yes e ↦ rw (over-same h i k n e, e) fits
            | no e ↦ rw (over-other h i k n e) (m.low n)
          ];
          begun = raised-begun;
        }

  -- a climb that is done has come to a node whose own has not begun: then heights add up
  abbrev pub Full : (ℕ → ℕ) → ℕ → Type 0
  Full h n = h (onto cs h n) ≡ 0

  pub adds-up : (memo : List Climbed) (h : ℕ → ℕ) → Memo memo h → (n i : ℕ) → Full h n → Full h (climb_by cs i n) → ((j : ℕ) → j < i → 0 < h (climb_by cs j n)) →
      h n ≡ i + h (climb_by cs i n)
  adds-up memo h m n i p q before =
      let x = climb_by cs i n in
      elim (ℕ_discrete (h n) (i + h x)) [
        | yes e ↦ e
        | no e ↦ elim (dec_le (h n) (i + h x)) [
          | yes u ↦ elim (dec_le i (h n)) [
            | yes v ↦
                let d = h n - i in
                let c : h n ≡ i + d = omega arith in
                let s : climb_by cs (h n) n ≡ climb_by cs d x = ap (λ (k : ℕ). climb_by cs k n) c ∙ climb-add i d cs n in
                absurd (omega (arith, m.begun x d (omega arith), ap h s))
            | no v ↦ absurd (omega (arith, before (h n) (omega arith)))
          ]
          | no u ↦ absurd (omega (arith, m.begun n (i + h x) (omega arith), ap h (climb-add i (h x) cs n)))
        ]
      ]
