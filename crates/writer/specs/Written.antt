-- What stands at a spot of the area, and what the writers leave there.
use Rattle.std.specs.Prelude.{ℕ, ◌+◌, ◌-◌, ◌/◌, ◌≤◌, ◌<◌, List, ◌≡◌, length, take}
use Rattle.model.specs.Limits.{distance_limit, term_limit, word_limit}
use Rattle.model.specs.Tables.{connection_words}
use Rattle.model.specs.Term.{Terms, count}
use Rattle.model.specs.Forest.{root}
use Rattle.entries.specs.Connections.{TwinsIn, oldest}
use Rattle.costs.specs.Costs.{nodes_in}
use Rattle.laws.specs.Area.{splice, part}
use Rattle.trees.specs.Area.{bare, around, WholeNodes}
use Rattle.trees.specs.declared.Spot.{Spot}

-- the words before and behind a subterm of n words, without their marks
abbrev pub pre_of : List ℕ → Spot → ℕ → List ℕ
pre_of area s n = bare (part area (s.end - s.post - n - s.place) s.place)

abbrev pub post_of : List ℕ → Spot → List ℕ
post_of area s = bare (part area (s.end - s.post) s.post)

-- before `end` stands a term in which, marks aside, the words w stand at the spot
pub record Stood (area : List ℕ) (s : Spot) (w : List ℕ) : Type 0 where
  pub whole : WholeNodes s.place × WholeNodes (length w) × WholeNodes s.post
  pub room : s.place + length w + s.post ≤ s.end
  pub fits : s.end ≤ length area
  pub here : bare (part area (s.end - s.post - length w) (length w)) ≡ w

-- a row of terms is written behind `end`, each between the words pre and post, and ends at r; all else stays
pub record Ran (pre post area : List ℕ) (end : ℕ) (f : Terms) (after : List ℕ) (r : ℕ) : Type 0 where
  pub area-is : after ≡ splice area end (around pre post f)
  pub end_is : r ≡ end + length (around pre post f)

-- THE WRITERS PROMISE ONE THING, with other rows f: the terms of f are appended, each with its words for those of w at the spot
abbrev pub Wrote : List ℕ → Spot → List ℕ → Terms → List ℕ → ℕ → Type 0
Wrote area s w f after r = Ran (pre_of area s (length w)) (post_of area s) area s.end f after r

-- and ask for one thing: the words w stand at the spot, the row fits into the area, and its terms into the limit, with those that lie on the trail
pub record WriterAsks (trail area : List ℕ) (s : Spot) (w : List ℕ) (f : Terms) (used : ℕ) : Type 0 where
  pub long : length trail ≡ term_limit
  pub stood : Stood area s w
  pub small : length area ≤ word_limit
  pub room : s.end + length (around (pre_of area s (length w)) (post_of area s) f) ≤ length area
  pub few : used + count f ≤ distance_limit

-- what lay on the trail lies there still
pub record Kept (used : ℕ) (before after : List ℕ) : Type 0 where
  pub same : take used after ≡ take used before
  pub long : length after ≡ length before

-- two nodes that the oldest connections, up to a bound, join
pub record Reached (nodes conns : List ℕ) (bound l r : ℕ) : Type 0 where
  pub few : bound ≤ length conns / connection_words
  pub left_in : l < nodes_in nodes
  pub right-in : r < nodes_in nodes
  pub same : root (oldest bound conns) l ≡ root (oldest bound conns) r

-- two nodes whose children the connections older than an age join pair by pair
pub record Matched (nodes conns : List ℕ) (age a b : ℕ) : Type 0 where
  pub few : age ≤ length conns / connection_words
  pub left_in : a < nodes_in nodes
  pub right-in : b < nodes_in nodes
  pub twins : TwinsIn nodes conns age a b
