-- The table to climb by: a row for each node, all that a climb reads of it, and the connections that the rows stand for.
use Rattle.std.specs.Prelude.{ℕ, zero, suc, ◌/◌, ◌<◌, ◌≤◌, cond, List, [], ◌++◌, ◌∷◌, ◌≡◌, eqb, get_or, length}
use Rattle.model.specs.Forest.{cur}
use Rattle.model.specs.Limits.{node_limit}
use Rattle.model.specs.Tables.{connection_words}
use Rattle.model.specs.declared.Connection.{Connection}
use Rattle.paths.specs.Hangs.{Forest, Within, depth, next_of}
use Rattle.entries.specs.Connections.{oldest}
use Rattle.forest.specs.declared.Row.{Row}

-- a row of a table that is not filled, and what is read beyond a table
abbrev pub no_row : Row
no_row = record { next = record { 0 = 0 }; age = 0; cost = 0; depth = 0 }

abbrev pub row_in : List Row → ℕ → Row
row_in rows n = get_or rows n no_row

-- where a node's parent connection leads, the node itself where it has none
abbrev pub next_in : List Row → ℕ → ℕ
next_in rows n = (row_in rows n).next.0

-- the age of that connection, and 1; 0 where there is none
abbrev pub age_in : List Row → ℕ → ℕ
age_in rows n = (row_in rows n).age

-- what it costs
abbrev pub cost_in : List Row → ℕ → ℕ
cost_in rows n = (row_in rows n).cost

-- how many connections a climb from the node takes, and 1
abbrev pub depth_in : List Row → ℕ → ℕ
depth_in rows n = (row_in rows n).depth

-- the row of a node without a parent, its depth not known, and rows that differ in a part
abbrev pub top_row : ℕ → Row
top_row n = record { next = record { 0 = n }; age = 0; cost = 0; depth = 0 }

abbrev pub with_parent : ℕ → ℕ → Row → Row
with_parent n a r = record { next = record { 0 = n }; age = a; cost = r.cost; depth = r.depth }

abbrev pub with_cost : ℕ → Row → Row
with_cost c r = record { next = r.next; age = r.age; cost = c; depth = r.depth }

abbrev pub with_depth : ℕ → Row → Row
with_depth d r = record { next = r.next; age = r.age; cost = r.cost; depth = d }

-- the connections of a table that holds nothing else
abbrev pub connections_of : List ℕ → List Connection
connections_of conns = oldest (length conns / connection_words) conns

-- the age of a node's parent connection, and 1; 0 where it has none
unfoldable pub age_of : List Connection → ℕ → ℕ
age_of [] n = 0
age_of (c ∷ cs) n = cond (eqb n (cur c)) (suc (length cs)) (age_of cs n)

-- connections that can be climbed, over n nodes
pub record Rooted (n : ℕ) (cs : List Connection) : Type 0 where
  pub few : n ≤ node_limit
  pub short : length cs < node_limit
  pub within : Within n cs
  pub forest : Forest cs

-- the rows of n nodes stand for connections
pub record Climbs (cs : List Connection) (n : ℕ) (rows : List Row) : Type 0 where
  pub rooted : Rooted n cs
  pub size : length rows ≡ node_limit
  pub next : (a : ℕ) → a < n → next_in rows a ≡ next_of cs a
  pub age : (a : ℕ) → a < n → age_in rows a ≡ age_of cs a
  pub deep : (a : ℕ) → a < n → depth_in rows a ≡ suc (depth cs a)

-- two nodes of a table that can be climbed, whichever connections it stands for
pub record EndsIn (rows : List Row) (l r : ℕ) : Type 0 where
  pub conns : List Connection
  pub nodes : ℕ
  pub climbs : Climbs conns nodes rows
  pub left_in : l < nodes
  pub right-in : r < nodes

-- the rows of the first k nodes, with no cost yet
abbrev pub row_of : List Connection → ℕ → Row
row_of cs a = record { next = record { 0 = next_of cs a }; age = age_of cs a; cost = 0; depth = suc (depth cs a) }

unfoldable pub rows_of : List Connection → ℕ → List Row
rows_of cs zero = []
rows_of cs (suc k) = rows_of cs k ++ (row_of cs k ∷ [])
