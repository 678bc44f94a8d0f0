-- The Rust on values: the forest of src/explain.rs (egg 0.11.0). Each definition has the name of its type or function there.
-- From the model come the tables alone: nodes, and connections with their justification. A `Vec` is a list, a `HashMap` a list of its entries, the
-- newest first.
use Rattle.std.specs.Prelude.{ℕ, zero, suc, Bool, true, false, not, cond, ◌&&◌, List, [], ◌∷◌, ◌++◌, eqb, length, set}
use Rattle.std.proofs.Math.Option.{Option, none, some}
use Rattle.std.proofs.Math.ListN.{get_elem?}
use Rattle.model.specs.declared.Connection.{Connection as TableConnection}
use Rattle.model.specs.declared.Direction.{Direction}
use Rattle.model.specs.declared.Direction.TheVariants.{Forward, Backward}
use Rattle.model.specs.declared.Justification.{Justification as TableJustification}
use Rattle.model.specs.declared.Justification.TheVariants.{Rule as table_rule, Congruence as table_congruence}
use Rattle.model.specs.Node.{Node}
use Rattle.rust.specs.Panics.{◌>>=◌, counted}

-- enum Justification
pub data Justification : Type 0 where
  rule : ℕ → Justification
  congruence : Justification

-- struct Connection; `forward` is its `is_rewrite_forward`
pub record Connection : Type 0 where
  pub next : ℕ
  pub current : ℕ
  pub justification : Justification
  pub forward : Bool

-- struct ExplainNode
pub record ExplainNode : Type 0 where
  pub neighbors : List Connection
  pub parent : Connection

-- an entry of `shortest_explanation_memo`: for a pair of nodes the neighbor to go to. Its cost is read by shortening alone
pub record Memoed : Type 0 where
  pub left : ℕ
  pub right : ℕ
  pub next : ℕ

-- struct Explain, with `optimize_explanation_lengths` off
pub record Explain : Type 0 where
  pub explainfind : List ExplainNode
  pub memo : List Memoed

-- fn add: a node that is its own class
abbrev pub alone : ℕ → ExplainNode
alone n = record { neighbors = []; parent = record { next = n; current = n; justification = congruence; forward = false } }

-- `self.explainfind[node].parent_connection = c` and `self.explainfind[node].neighbors.push(c)`
abbrev pub set_parent : List ExplainNode → ℕ → Connection → Option (List ExplainNode)
set_parent finds node c = do
  x ← get_elem? finds node
  some (set finds node (record { neighbors = x.neighbors; parent = c }))

abbrev pub push_neighbor : List ExplainNode → ℕ → Connection → Option (List ExplainNode)
push_neighbor finds node c = do
  x ← get_elem? finds node
  some (set finds node (record { neighbors = x.neighbors ++ (c ∷ []); parent = x.parent }))

-- fn make_leader: turns the parent connections above a node round
unfoldable pub make_leader : ℕ → List ExplainNode → ℕ → Option (List ExplainNode)
make_leader zero finds node = none
make_leader (suc rounds) finds node = do
  x ← get_elem? finds node
  cond (eqb x.parent.next node) (some finds) do
    led ← make_leader rounds finds x.parent.next
    y ← get_elem? led node
    set_parent led x.parent.next
        (record { next = node; current = x.parent.next; justification = y.parent.justification; forward = not y.parent.forward })

-- `shortest_explanation_memo.get(&(left, right))`, the neighbor alone
unfoldable pub memoed : List Memoed → ℕ → ℕ → Option ℕ
memoed [] left right = none
memoed (m ∷ ms) left right = cond (eqb m.left left && eqb m.right right) (some m.next) (memoed ms left right)

-- what `union` inserts there: for a rule, each of the two nodes is the other's neighbor
abbrev pub remember : Justification → ℕ → ℕ → List Memoed → List Memoed
remember (rule n) node1 node2 ms = record { left = node2; right = node1; next = node1 } ∷ record { left = node1; right = node2; next = node2 } ∷ ms
remember congruence node1 node2 ms = ms

-- fn union. There `is_rewrite_forward` is `true`; here it is what the table says: in the Rust a parent connection that is not forward comes from
-- `make_leader` turning it round. (That function finds nothing to turn where node1 has no parent.)
unfoldable pub union : ℕ → Explain → ℕ → ℕ → Justification → Bool → Option Explain
unfolding make_leader
union rounds e node1 node2 why forward =
    let pconnection : Connection = record { next = node2; current = node1; justification = why; forward = forward } in
    let other : Connection = record { next = node1; current = node2; justification = why; forward = not forward } in
    do
      led ← make_leader rounds e.explainfind node1
      one ← push_neighbor led node1 pconnection
      both ← push_neighbor one node2 other
      hung ← set_parent both node1 pconnection
      some (record { explainfind = hung; memo = remember why node1 node2 e.memo })

-- the table's justification as the Rust has it: a rule by its name, its direction beside it; a congruence is a forward one, as `union` says
abbrev pub justified : TableJustification → Justification
justified (table_rule n d) = rule n.0
justified table_congruence = congruence

abbrev pub is_forward : Direction → Bool
is_forward Forward = true
is_forward Backward = false

abbrev pub goes_forward : TableJustification → Bool
goes_forward (table_rule n d) = is_forward d
goes_forward table_congruence = true

-- the forest of a table: its nodes added, then its connections from the oldest on (lists have the newest first)
unfoldable pub explain_of : ℕ → List Node → List TableConnection → Option Explain
unfolding counted union
explain_of rounds ns [] = some (record { explainfind = counted alone (length ns); memo = [] })
explain_of rounds ns (c ∷ cs) = do
  e ← explain_of rounds ns cs
  union rounds e c.current.0 c.next.0 (justified c.why) (goes_forward c.why)
