-- The rows while they are filled: every node without a parent, then a parent for each connection, then the depths.
use Rattle.std.specs.Prelude.{ℕ, suc, ◌<◌, ◌≤◌, List, ◌≡◌, length}
use Rattle.model.specs.declared.Connection.{Connection}
use Rattle.paths.specs.Hangs.{depth, next_of}
use Rattle.model.specs.Limits.{node_limit}
use Rattle.forest.specs.Rows.{Rooted, age_in, age_of, cost_in, depth_in, next_in, row_in}
use Rattle.forest.specs.declared.Row.{Row}

-- the rows of n nodes but for their depths, with no cost; what stands behind them is as it was
pub record Tied (cs : List Connection) (n : ℕ) (old rows : List Row) : Type 0 where
  pub size : length rows ≡ node_limit
  pub next : (a : ℕ) → a < n → next_in rows a ≡ next_of cs a
  pub age : (a : ℕ) → a < n → age_in rows a ≡ age_of cs a
  pub free : (a : ℕ) → a < n → cost_in rows a ≡ 0
  pub rest : (a : ℕ) → n ≤ a → row_in rows a ≡ row_in old a

-- no depth is there
abbrev pub DepthsUnknown : ℕ → List Row → Type 0
DepthsUnknown n rows = (a : ℕ) → a < n → depth_in rows a ≡ 0

-- the first k depths are there
abbrev pub DepthsKnown : ℕ → List Row → Type 0
DepthsKnown k rows = (a : ℕ) → a < k → 0 < depth_in rows a

-- the rows of connections, and a depth that is there is right
pub record Sounded (cs : List Connection) (n : ℕ) (old rows : List Row) : Type 0 where
  pub rooted : Rooted n cs
  pub tied : Tied cs n old rows
  pub right : (a : ℕ) → a < n → 0 < depth_in rows a → depth_in rows a ≡ suc (depth cs a)

-- a node of such rows, whichever connections they stand for
pub record Sounding (rows : List Row) (m : ℕ) : Type 0 where
  pub conns : List Connection
  pub nodes : ℕ
  pub sounded : Sounded conns nodes rows rows
  pub inside : m < nodes

-- its depth is there, and those that were there still are
pub record Settled (cs : List Connection) (n : ℕ) (old before rows : List Row) (m : ℕ) : Type 0 where
  pub sounded : Sounded cs n old rows
  pub here : 0 < depth_in rows m
  pub kept : (a : ℕ) → 0 < depth_in before a → 0 < depth_in rows a

-- rows of n nodes whose depths are to be written, whichever connections they stand for
pub record Unsettled (n : ℕ) (rows : List Row) : Type 0 where
  pub conns : List Connection
  pub sounded : Sounded conns n rows rows
