-- How many nodes a connection appends, walked from current to next and back; tables of that by age, and sums by them.
-- A number past the first that no proof can have is held there.
use Rattle.forest.specs.declared.Row.{Row}
use Rattle.std.specs.Prelude.{ℕ, ◌+◌, ◌*◌, ◌/◌, ◌≤◌, ◌<◌, Bool, true, false, List, [], ◌∷◌, ◌≡◌, get_or, length}
use Rattle.model.specs.declared.Connection.{Connection}
use Rattle.model.specs.declared.Justification.{Justification}
use Rattle.model.specs.declared.Justification.TheVariants.{Rule as by_rule, Congruence}
use Rattle.model.specs.Limits.{distance_limit, flat_words}
use Rattle.model.specs.Node.{Node}
use Rattle.model.specs.Tables.{connection_words}
use Rattle.model.specs.Forest.{walk}
use Rattle.model.specs.Flat.{sum, size_of, later_size, later_size_step}
use Rattle.entries.specs.Connections.{Supported, connection_in, oldest}
use Rattle.entries.specs.Nodes.{NodesStand, NodesWhole, children_in, nodes_of}
use Rattle.forest.specs.Rows.{connections_of}
use Rattle.costs.specs.Costs.{Alike, Charged, Filled, cost_at, nodes_in}
use Rattle.trees.specs.Sizes.{Sized, held_nodes, node_cap}
use Rattle.needs.specs.declared.Need.{Need}

-- how many nodes a connection appends by the older ones, walked up or down
unfoldable pub need_at : List Node → List ℕ → ℕ → Bool → ℕ
unfolding later_size
need_at ns ws k up = let older = oldest k ws in later_size_step ns older (later_size ns older) (connection_in ws k) up

-- of two tables by age, the one for the way in which a connection is walked
abbrev pub pick : Bool → List ℕ → List ℕ → List ℕ
pick true ups downs = ups
pick false ups downs = downs

-- what connections below a bound append stands there, held, wherever a connection costs no more than the limit: then so does every
-- path that it asks for
pub record Needs (ns : List Node) (ws ups downs : List ℕ) (bound : ℕ) : Type 0 where
  pub each : (k : ℕ) (up : Bool) → k < bound → cost_at ns ws k ≤ distance_limit → get_or (pick up ups downs) k 0 ≡ held_nodes (need_at ns ws k up)

-- the sum of a table's numbers over a climb
unfoldable pub tally : List ℕ → List Connection → ℕ → ℕ → ℕ
unfolding walk
tally table = walk 0 ◌+◌ (λ older _ c u. get_or table (length older) 0)

-- the same over a path, by the table for each way
unfoldable pub path_nodes : List ℕ → List ℕ → List Connection → ℕ → ℕ → ℕ
unfolding walk
path_nodes ups downs = walk 0 ◌+◌ (λ older _ c u. get_or (pick u ups downs) (length older) 0)

-- what a climb or a path costs and appends, both held
pub record Comes (need : Need) (d n : ℕ) : Type 0 where
  pub cost : need.cost ≡ held_nodes d
  pub nodes : need.nodes ≡ held_nodes n

-- how many nodes a congruence appends, as the model's `runs_size` counts them, by any sizes, costs and needs
unfoldable pub runs_by : (ℕ → ℕ) → (ℕ → ℕ → ℕ) → (ℕ → ℕ → ℕ) → ℕ → List ℕ → List ℕ → ℕ
unfolding sum
runs_by size cost need before [] ys = 0
runs_by size cost need before (x ∷ xs) [] = 0
runs_by size cost need before (x ∷ xs) (y ∷ ys) =
    need x y + cost x y * (before + sum size xs) + runs_by size cost need (before + size y) xs ys

-- and a connection, between nodes of a table
unfoldable pub appended_by : (ℕ → ℕ) → (ℕ → ℕ → ℕ) → (ℕ → ℕ → ℕ) → List ℕ → Justification → ℕ → ℕ → ℕ
unfolding runs_by
appended_by size cost need nodes (by_rule n d) a b = size b
appended_by size cost need nodes Congruence a b = runs_by size cost need 1 (children_in nodes a) (children_in nodes b)

-- what a connection of this cost appends: nothing where it costs nothing; past the limit nothing is said
pub record Appends (cost need r : ℕ) : Type 0 where
  pub small : r ≤ node_cap
  pub free : cost ≡ 0 → r ≡ 0
  pub exact : 0 < cost → cost ≤ distance_limit → r ≡ held_nodes need

-- two nodes of a table with sizes that a connection leads between; a congruence has its support
pub record Led (nodes : List ℕ) (rows : List Row) (sizes : List ℕ) (why : Justification) (a b : ℕ) : Type 0 where
  pub few : NodesStand nodes (nodes_in nodes)
  pub sized : Sized (nodes_of nodes) sizes (nodes_in nodes)
  pub left_in : a < nodes_in nodes
  pub right-in : b < nodes_in nodes
  pub alike : why ≡ Congruence → Alike nodes rows a b

-- accepted tables, the rows with their costs and the sizes: all that needs are counted from
pub record Counts (nodes conns : List ℕ) (rows : List Row) (sizes : List ℕ) : Type 0 where
  pub whole : NodesWhole nodes
  pub support : Supported nodes (nodes_in nodes) conns (length conns / connection_words)
  pub charged : Charged (connections_of conns) (nodes_in nodes) rows
  pub filled : Filled (nodes_of nodes) conns rows (length conns / connection_words)
  pub sized : Sized (nodes_of nodes) sizes (nodes_in nodes)

-- the words of a proof, by numbers of nodes that are held: those that it needs, wherever they are within the limit
abbrev pub held_words : List Node → List Connection → ℕ → ℕ → ℕ
held_words ns cs l r = flat_words * (held_nodes (size_of ns l) + held_nodes (later_size ns cs l r))
