-- The Rust on values: how src/explain.rs finds the distance of two nodes. Each definition has the name of its function there.
-- `nesting` bounds how deep congruences lie in each other, `rounds` how long a loop is. `DistanceMemo`'s table of common ancestors is empty here:
-- the Rust then asks `common_ancestor`. Its table of tree depths is a function.
use Rattle.std.specs.Prelude.{ℕ, zero, suc, ◌+◌, ◌-◌, ◌*◌, Bool, true, cond, List, [], ◌∷◌, eqb, leb, set}
use Rattle.std.proofs.Math.Option.{Option, none, some}
use Rattle.std.proofs.Math.ListN.{get_elem?}
use Rattle.model.specs.Node.{Node}
use Rattle.rust.specs.Panics.{◌>>=◌, ◌>>◌, counted, assert}
use Rattle.rust.specs.Explain.{Justification, rule, congruence, Explain}
use Rattle.rust.specs.Paths.{parent_connection, differ, common_ancestor}

-- an entry of `parent_distance`: a node above (or the node itself), and what the climb to it costs
pub record Climbed : Type 0 where
  pub node : ℕ
  pub cost : ℕ

-- an answer, with the memo as it is then
pub record Found : Type 0 where
  pub memo : List Climbed
  pub cost : ℕ

-- how the distance of two nodes is asked for
abbrev pub Between : Type 0
Between = List Climbed → ℕ → ℕ → Option Found

-- where `calculate_shortest_explanations` starts: each of the first nodes is where its climb has come to, at no cost
abbrev pub unclimbed : ℕ → List Climbed
unclimbed n = counted (λ i. record { node = i; cost = 0 }) n

-- fn add_tree_depths
unfoldable pub tree_depth : ℕ → Explain → ℕ → Option ℕ
tree_depth zero e node = none
tree_depth (suc rounds) e node = do
  c ← parent_connection e node
  cond (eqb c.next node) (some 0) do
    depth ← tree_depth rounds e c.next
    some (depth + 1)

-- fn congruence_distance: `zip` of the children, the costs added up
unfoldable pub child_distances : Between → List Climbed → List ℕ → List ℕ → ℕ → Option Found
child_distances between memo [] rights cost = some (record { memo = memo; cost = cost })
child_distances between memo (left ∷ lefts) [] cost = some (record { memo = memo; cost = cost })
child_distances between memo (left ∷ lefts) (right ∷ rights) cost = do
  f ← between memo left right
  child_distances between f.memo lefts rights (cost + f.cost)

abbrev pub congruence_distance : Between → List Node → List Climbed → ℕ → ℕ → Option Found
congruence_distance between ns memo current next = do
  c ← get_elem? ns current
  n ← get_elem? ns next
  child_distances between memo c.kids n.kids 0

-- fn connection_distance
abbrev pub connection_distance : Between → List Node → List Climbed → Justification → ℕ → ℕ → Option Found
connection_distance between ns memo (rule n) current next = some (record { memo = memo; cost = 1 })
connection_distance between ns memo congruence current next = congruence_distance between ns memo current next

-- `distance_memo.parent_distance[node] = ..`
abbrev pub set_climbed : List Climbed → ℕ → ℕ → ℕ → List Climbed
set_climbed memo enode node cost = set memo enode (record { node = node; cost = cost })

-- whether `calculate_parent_distance` stops at a node whose own climb has not begun: always where no ancestor is asked for (`usize::MAX`), else past it
abbrev pub past : (ℕ → Option ℕ) → ℕ → Option ℕ → Option Bool
past depths node none = some true
past depths node (some ancestor) = do
  a ← depths node
  b ← depths ancestor
  some (leb a b)

-- fn calculate_parent_distance
unfoldable pub calculate_parent_distance : Between → (ℕ → Option ℕ) → List Node → Explain → ℕ → List Climbed → ℕ → Option ℕ → Option Found
unfolding child_distances
calculate_parent_distance between depths ns e zero memo enode ancestor = none
calculate_parent_distance between depths ns e (suc rounds) memo enode ancestor = do
  here ← get_elem? memo enode
  c ← parent_connection e here.node
  cond (eqb c.next here.node) (some (record { memo = memo; cost = here.cost })) do
    above ← get_elem? memo here.node
    cond (differ above.node here.node)
        (calculate_parent_distance between depths ns e rounds (set_climbed memo enode above.node (here.cost + above.cost)) enode ancestor) do
          stop ← past depths here.node ancestor
          cond stop (some (record { memo = memo; cost = here.cost })) do
            f ← connection_distance between ns memo c.justification c.current c.next
            calculate_parent_distance between depths ns e rounds (set_climbed f.memo here.node c.next f.cost) enode ancestor

-- fn distance_between: `b + c - (a << 1)`, which panics below 0
unfoldable pub distance_between : ℕ → ℕ → List Node → Explain → List Climbed → ℕ → ℕ → Option Found
unfolding common_ancestor tree_depth calculate_parent_distance
distance_between zero rounds ns e memo left right = none
distance_between (suc nesting) rounds ns e memo left right =
    let climb = calculate_parent_distance (distance_between nesting rounds ns e) (tree_depth rounds e) ns e rounds in
    cond (eqb left right) (some (record { memo = memo; cost = 0 })) do
      ancestor ← common_ancestor rounds e [] [] left right
      f ← climb memo left (some ancestor)
      g ← climb f.memo right (some ancestor)
      a ← climb g.memo ancestor none
      b ← climb a.memo left none
      c ← climb b.memo right none
      top ← get_elem? c.memo ancestor
      x ← get_elem? c.memo left
      y ← get_elem? c.memo right
      assert (eqb top.node x.node)
      assert (eqb top.node y.node)
      assert (leb (a.cost * 2) (b.cost + c.cost))
      some (record { memo = c.memo; cost = b.cost + c.cost - a.cost * 2 })
