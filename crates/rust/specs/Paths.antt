-- The Rust on values: how src/explain.rs finds the path between two nodes. Each definition has the name of its function there.
use Rattle.std.specs.Prelude.{ℕ, zero, suc, Bool, true, false, not, cond, ◌&&◌, ◌||◌, List, [], ◌∷◌, ◌++◌, reverse, eqb, leb, length}
use Rattle.std.proofs.Math.Option.{Option, none, some}
use Rattle.std.proofs.Math.ListN.{get_elem?}
use Rattle.rust.specs.Panics.{◌>>=◌, ◌>>◌, assert}
use Rattle.rust.specs.Explain.{Justification, rule, congruence, Connection, Explain, memoed}

-- `self.explainfind[node].parent_connection`
abbrev pub parent_connection : Explain → ℕ → Option Connection
parent_connection e node = do
  x ← get_elem? e.explainfind node
  some x.parent

-- `a != b`
abbrev pub differ : ℕ → ℕ → Bool
differ a b = not (eqb a b)

-- a `HashSet` of nodes
unfoldable pub contains : List ℕ → ℕ → Bool
contains [] n = false
contains (m ∷ ms) n = cond (eqb m n) true (contains ms n)

-- fn common_ancestor
unfoldable pub common_ancestor : ℕ → Explain → List ℕ → List ℕ → ℕ → ℕ → Option ℕ
unfolding contains
common_ancestor zero e seen_left seen_right left right = none
common_ancestor (suc rounds) e seen_left seen_right left right =
    cond (contains seen_right left) (some left)
    (cond (contains (left ∷ seen_left) right) (some right) do
      l ← parent_connection e left
      r ← parent_connection e right
      assert (differ l.next left || differ r.next right)
      common_ancestor rounds e (left ∷ seen_left) (right ∷ seen_right) l.next r.next)

-- fn get_connections: its loop, and the test before it
unfoldable pub connections_from : ℕ → Explain → ℕ → ℕ → Option (List Connection)
connections_from zero e node ancestor = none
connections_from (suc rounds) e node ancestor = do
  c ← parent_connection e node
  cond (eqb c.next ancestor) (some (c ∷ [])) do
    assert (differ c.next node)
    nodes ← connections_from rounds e c.next ancestor
    some (c ∷ nodes)

unfoldable pub get_connections : ℕ → Explain → ℕ → ℕ → Option (List Connection)
unfolding connections_from
get_connections rounds e node ancestor = cond (eqb node ancestor) (some []) (connections_from rounds e node ancestor)

-- a path: the left connections, and the right ones, both from their node up
pub record Path : Type 0 where
  pub lefts : List Connection
  pub rights : List Connection

-- fn get_path_unoptimized
unfoldable pub get_path_unoptimized : ℕ → Explain → ℕ → ℕ → Option Path
unfolding common_ancestor get_connections
get_path_unoptimized rounds e left right = do
  ancestor ← common_ancestor rounds e [] [] left right
  lefts ← get_connections rounds e left ancestor
  rights ← get_connections rounds e right ancestor
  some (record { lefts = lefts; rights = rights })

-- fn get_neighbor: the first rule that leads there, else a congruence
abbrev pub is_rule : Justification → Bool
is_rule (rule n) = true
is_rule congruence = false

unfoldable pub neighbor_to : List Connection → ℕ → ℕ → Connection
neighbor_to [] current next = record { next = next; current = current; justification = congruence; forward = true }
neighbor_to (c ∷ cs) current next = cond (eqb c.next next && is_rule c.justification) c (neighbor_to cs current next)

abbrev pub get_neighbor : Explain → ℕ → ℕ → Option Connection
get_neighbor e current next = do
  x ← get_elem? e.explainfind current
  some (neighbor_to x.neighbors current next)

-- fn get_path: as far as the memo leads, and from there without it
unfoldable pub get_path : ℕ → Explain → List Connection → ℕ → ℕ → Option Path
unfolding memoed neighbor_to get_path_unoptimized
get_path zero e lefts left right = none
get_path (suc rounds) e lefts left right =
    cond (eqb left right) (some (record { lefts = lefts; rights = [] })) (elim (memoed e.memo left right) [
      | none ↦ do
        rest ← get_path_unoptimized (suc rounds) e left right
        some (record { lefts = lefts ++ rest.lefts; rights = rest.rights })
      | some next ↦ do
        c ← get_neighbor e left next
        get_path rounds e (lefts ++ (c ∷ [])) next right
    ])

-- fn explain_enodes, its loop: a connection past the left ones is turned
abbrev pub turned : Connection → Connection
turned c = record { next = c.current; current = c.next; justification = c.justification; forward = not c.forward }

unfoldable pub turned_from : ℕ → ℕ → List Connection → List Connection
turned_from lefts i [] = []
turned_from lefts i (c ∷ cs) = cond (leb lefts i) (turned c) c ∷ turned_from lefts (suc i) cs

abbrev pub walked : Path → List Connection
walked p = turned_from (length p.lefts) 0 (p.lefts ++ reverse p.rights)
