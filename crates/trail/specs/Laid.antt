-- The trail: a stack of the ages of connections that are still to be walked. What laying a path on it asks for and leaves.
use Rattle.forest.specs.declared.Row.{Row}
use Rattle.std.specs.Prelude.{ℕ, ◌+◌, ◌-◌, ◌≤◌, ◌<◌, List, ◌++◌, reverse, ◌≡◌, length}
use Rattle.model.specs.declared.Connection.{Connection}
use Rattle.model.specs.Forest.{root}
use Rattle.model.specs.Limits.{term_limit}
use Rattle.paths.specs.Meet.{top_of}
use Rattle.forest.specs.Rows.{Climbs, age_in, cost_in}
use Rattle.costs.specs.Costs.{Above}
use Rattle.laws.specs.Area.{splice}
use Rattle.trail.specs.Legs.{ages, costly}

-- the age of a node's parent connection, if that costs anything
abbrev pub ages_at : List Row → ℕ → List ℕ
ages_at rows n = costly (cost_in rows n) (age_in rows n - 1)

-- a node and one above it, whichever connections the rows stand for, and what of the climb is costly
pub record Rising (rows : List Row) (from to room : ℕ) : Type 0 where
  pub conns : List Connection
  pub nodes : ℕ
  pub climbs : Climbs conns nodes rows
  pub inside : from < nodes
  pub above : Above conns from to
  pub few : length (ages rows conns from to) ≤ room

-- two joined nodes, and room on the trail for their path
pub record Layable (rows : List Row) (used l r : ℕ) : Type 0 where
  pub conns : List Connection
  pub nodes : ℕ
  pub climbs : Climbs conns nodes rows
  pub left_in : l < nodes
  pub right-in : r < nodes
  pub same : root conns l ≡ root conns r
  pub few : used + length (ages rows conns r (top_of conns l r)) + length (ages rows conns l (top_of conns l r)) ≤ term_limit

-- What laying a path leaves: from `used` on, the costly connections of the climb from the right, and behind them, last to first, those of
-- the climb from the left. So the first to be walked lies highest; those at `turn` and above go up.
pub record LaidOut (rows : List Row) (cs : List Connection) (trail : List ℕ) (used l r : ℕ) (after : List ℕ) (turn top : ℕ) : Type 0 where
  pub trail_is : after ≡ splice trail used (ages rows cs r (top_of cs l r) ++ reverse (ages rows cs l (top_of cs l r)))
  pub turn_is : turn ≡ used + length (ages rows cs r (top_of cs l r))
  pub top-is : top ≡ turn + length (ages rows cs l (top_of cs l r))
