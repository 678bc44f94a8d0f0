-- The distance of a pair over the words of accepted tables.
-- Assumes nothing.
use Rattle.std.specs.Prelude.{ℕ, ◌/◌, ◌≤◌, List, ◌≡◌, length, Ok, Err}
use Rattle.forest.specs.declared.Row.{Row}
use Rattle.model.specs.Limits.{distance_limit}
use Rattle.model.specs.Forest.{dist}
use Rattle.model.specs.Query.{Tables, Measured, measure}
use Rattle.model.specs.Tables.{connection_words}
use Rattle.entries.specs.Nodes.{nodes_of}
use Rattle.forest.specs.Rows.{connections_of}
use Rattle.costs.specs.Costs.{nodes_in, Charged, Filled, Between}

-- what is measured, over the words of accepted tables
abbrev pub Measures : List ℕ → List ℕ → ℕ → ℕ → Measured → Type 0
Measures nws cws l r m =
    (t : Tables) → t.nodes ≡ nodes_of nws → t.conns ≡ connections_of cws → m ≡ measure t l r

-- What is there then for whoever writes the proof: two joined nodes, within the limit of each other, and rows to climb by, with
-- their costs. Nothing where it is refused.
pub record Ways (nws cws : List ℕ) (l r : ℕ) (rows : List Row) : Type 0 where
  pub between : Between nws cws l r
  pub near : dist (nodes_of nws) (connections_of cws) l r ≤ distance_limit
  pub charged : Charged (connections_of cws) (nodes_in nws) rows
  pub filled : Filled (nodes_of nws) cws rows (length cws / connection_words)

abbrev pub Routed : List ℕ → List ℕ → ℕ → ℕ → Measured → List Row → Type 0
Routed nws cws l r (Ok d) rows = Ways nws cws l r rows
Routed nws cws l r (Err e) rows = Unit {0}
