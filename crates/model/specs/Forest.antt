-- Connections with their age: which nodes they join, the path between two nodes, and the distance.
-- A list of connections has the newest first, so that the age of each is the length of what stands behind it: a
-- definition by recursion on the list hands each connection the older ones, and nothing else.
use Rattle.std.specs.Prelude.{ℕ, ◌+◌, Bool, cond, eqb}
use Rattle.std.proofs.Math.Bool.{true, false}
use mathlib.Core.List.{List, [], ◌∷◌, ◌++◌, Memᴰ}
use Rattle.model.specs.declared.Connection.{Connection}
use Rattle.model.specs.declared.Justification.{Justification}
use Rattle.model.specs.declared.Justification.TheVariants.{Rule as by_rule, Congruence}
use Rattle.model.specs.Node.{Node, kids_of}

-- the numbers of a connection's two nodes
abbrev pub cur : Connection → ℕ
cur c = c.current.0

abbrev pub nxt : Connection → ℕ
nxt c = c.next.0

-- Joined. Declaratively: the least equivalence that holds the connections.
pub data Linked (cs : List Connection) : ℕ → ℕ → Type 0 where
  itself : {n : ℕ} → Linked cs n n
  back : {l r : ℕ} → Linked cs l r → Linked cs r l
  through : {l m r : ℕ} → Linked cs l m → Linked cs m r → Linked cs l r
  by : {c : Connection} → Memᴰ c cs → Linked cs (cur c) (nxt c)

-- Computed: each connection in turn hangs current's class below next's, and two nodes are joined when they come to the same root.
unfoldable pub find : List (ℕ × ℕ) → ℕ → ℕ
find [] n = n
find (p ∷ ps) n = let m = find ps n in cond (eqb m p.0) p.1 m

unfoldable pub hung : List Connection → List (ℕ × ℕ)
unfolding find
hung [] = []
hung (c ∷ cs) = let ps = hung cs in (find ps (cur c), find ps (nxt c)) ∷ ps

unfoldable pub root : List Connection → ℕ → ℕ
unfolding find hung
root cs n = find (hung cs) n

unfoldable pub joined : List Connection → ℕ → ℕ → Bool
unfolding root
joined cs l r = eqb (root cs l) (root cs r)

-- The way between two nodes, put together from what each connection on it gives. `step older rec c up` is what c gives,
-- walked up (from current to next) or down; `rec` is the same walk over the older connections alone. If older
-- connections join the pair, the newest plays no part; else the way goes through it, from the end that the left node is joined to.
module _ {A : Type 0} (e : A) (◌·◌ : A → A → A) (step : List Connection → (ℕ → ℕ → A) → Connection → Bool → A) where
  unfoldable pub walk : List Connection → ℕ → ℕ → A
  unfolding joined
  walk [] l r = e
  walk (c ∷ cs) l r =
      elim (joined cs l r) [
        | true ↦ walk cs l r
        | false ↦ elim (joined cs l (cur c)) [
          | true ↦ ◌·◌ (walk cs l (cur c)) (◌·◌ (step cs (walk cs) c true) (walk cs (nxt c) r))
          | false ↦ ◌·◌ (walk cs l (nxt c)) (◌·◌ (step cs (walk cs) c false) (walk cs (cur c) r))
        ]
      ]

-- "the path goes up from the left and down to the right"
pub record Hop : Type 0 where
  pub conn : Connection
  pub up : Bool

unfoldable pub path : List Connection → ℕ → ℕ → List Hop
unfolding walk
path = walk [] ◌++◌ (λ _ _ c u. record { conn = c; up = u } ∷ [])

-- "1 for a rule, for a congruence the sum of its children's distances": the pairing may stop at the shorter list, since
-- judging has refused a congruence of unequal counts (7)
unfoldable pub sum_pairs : (ℕ → ℕ → ℕ) → List ℕ → List ℕ → ℕ
sum_pairs f [] ys = 0
sum_pairs f (x ∷ xs) [] = 0
sum_pairs f (x ∷ xs) (y ∷ ys) = f x y + sum_pairs f xs ys

unfoldable pub cost_by : List Node → (ℕ → ℕ → ℕ) → Justification → ℕ → ℕ → ℕ
unfolding sum_pairs
cost_by ns d (by_rule n f) l r = 1
cost_by ns d Congruence l r = sum_pairs d (kids_of ns l) (kids_of ns r)

-- "The distance is the sum over the path", in ℕ, with no cap
unfoldable pub dist : List Node → List Connection → ℕ → ℕ → ℕ
unfolding walk cost_by
dist ns = walk 0 ◌+◌ (λ _ d c u. cost_by ns d c.why (cur c) (nxt c))

-- "Every node has at most one parent connection": a node's, with the connections older than it
pub data Parent : Type 0 where
  top : Parent
  below : Connection → List Connection → Parent

unfoldable pub parent_of : List Connection → ℕ → Parent
parent_of [] n = top
parent_of (c ∷ cs) n = cond (eqb n (cur c)) (below c cs) (parent_of cs n)

abbrev pub is_top : Parent → Bool
is_top top = true
is_top (below c older) = false
