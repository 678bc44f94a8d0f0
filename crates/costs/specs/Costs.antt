-- Distances by the costs that stand in the rows, held at a cap.
-- Sums past the limit "may be held at a cap; the decision is exact": the cap is the first number past it.
use Rattle.forest.specs.declared.Row.{Row}
use Rattle.std.specs.Prelude.{ℕ, zero, suc, ◌+◌, ◌/◌, ◌≤◌, ◌<◌, min, ◌≡◌, List, length, set}
use Rattle.model.specs.declared.Connection.{Connection}
use Rattle.model.specs.declared.Justification.TheVariants.{Congruence}
use Rattle.model.specs.Limits.{distance_limit}
use Rattle.model.specs.Node.{Node}
use Rattle.model.specs.Tables.{node_words}
use Rattle.model.specs.Forest.{cur, nxt, root, walk, cost_by, dist}
use Rattle.paths.specs.Hangs.{depth}
use Rattle.paths.proofs.Ways.{climb_by}
use Rattle.entries.specs.Connections.{connection_in, oldest}
use Rattle.entries.specs.Nodes.{KnownIn, child_in, count_in}
use Rattle.forest.specs.Rows.{Climbs, cost_in, connections_of, row_in, with_cost}

abbrev pub cost_cap : ℕ
cost_cap = suc distance_limit

abbrev pub held : ℕ → ℕ
held n = min cost_cap n

-- how many nodes a table that holds nothing else has
abbrev pub nodes_in : List ℕ → ℕ
nodes_in ws = length ws / node_words

-- what a connection costs, by the older ones
unfoldable pub cost_at : List Node → List ℕ → ℕ → ℕ
unfolding cost_by dist
cost_at ns ws a =
    let c = connection_in ws a in
    cost_by ns (dist ns (oldest a ws)) c.why (cur c) (nxt c)

-- rows with the costs of the first k connections, each held at the cap, in the row of its current node
unfoldable pub priced : List Node → List ℕ → ℕ → List Row → List Row
unfolding cost_at
priced ns ws zero rows = rows
priced ns ws (suc k) rows =
    let before = priced ns ws k rows in
    let n = cur (connection_in ws k) in
    set before n (with_cost (held (cost_at ns ws k)) (row_in before n))

-- the costs of connections below a bound stand there, held
pub record Filled (ns : List Node) (ws : List ℕ) (rows : List Row) (bound : ℕ) : Type 0 where
  pub each : (b : ℕ) → b < bound → cost_in rows (cur (connection_in ws b)) ≡ held (cost_at ns ws b)

-- the sum of the rows' costs over a path
unfoldable pub weigh : List Row → List Connection → ℕ → ℕ → ℕ
unfolding walk
weigh rows = walk 0 ◌+◌ (λ older _ c u. cost_in rows (cur c))

-- rows of n nodes that stand for connections, with costs that are held
pub record Charged (cs : List Connection) (n : ℕ) (rows : List Row) : Type 0 where
  pub climbs : Climbs cs n rows
  pub small : (a : ℕ) → a < n → cost_in rows a ≤ cost_cap

-- a climb leads from a node to another
pub record Above (cs : List Connection) (n m : ℕ) : Type 0 where
  pub steps : ℕ
  pub enough : steps ≤ depth cs n
  pub leads : climb_by cs steps n ≡ m

-- a node and one above it, whichever connections the rows stand for
pub record Upward (rows : List Row) (n m : ℕ) : Type 0 where
  pub conns : List Connection
  pub nodes : ℕ
  pub charged : Charged conns nodes rows
  pub inside : n < nodes
  pub above : Above conns n m

-- two nodes that are joined
pub record Joins (rows : List Row) (l r : ℕ) : Type 0 where
  pub conns : List Connection
  pub nodes : ℕ
  pub charged : Charged conns nodes rows
  pub left_in : l < nodes
  pub right-in : r < nodes
  pub same : root conns l ≡ root conns r

-- two nodes with as many children, joined pair by pair
pub record Alike (nodes : List ℕ) (rows : List Row) (a b : ℕ) : Type 0 where
  pub conns : List Connection
  pub charged : Charged conns (nodes_in nodes) rows
  pub left-known : KnownIn nodes a
  pub right-known : KnownIn nodes b
  pub even : count_in nodes a ≡ count_in nodes b
  pub left_in : (i : ℕ) → i < count_in nodes a → child_in nodes a i < nodes_in nodes
  pub right-in : (i : ℕ) → i < count_in nodes a → child_in nodes b i < nodes_in nodes
  pub joins : (i : ℕ) → i < count_in nodes a → root conns (child_in nodes a i) ≡ root conns (child_in nodes b i)

-- a connection between nodes of a table; a congruence has its support
pub record Payable (nodes : List ℕ) (rows : List Row) (c : Connection) : Type 0 where
  pub current-in : cur c < nodes_in nodes
  pub next-in : nxt c < nodes_in nodes
  pub alike : c.why ≡ Congruence → Alike nodes rows (cur c) (nxt c)

-- two nodes of tables handed in whole, joined by the connections
pub record Between (nodes conns : List ℕ) (l r : ℕ) : Type 0 where
  pub left_in : l < nodes_in nodes
  pub right-in : r < nodes_in nodes
  pub same : root (connections_of conns) l ≡ root (connections_of conns) r
