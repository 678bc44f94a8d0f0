-- How many nodes a node's tree has, held at a cap, and the table of them.
-- Trees of g(x, x) double with each node, so that a size is held at the first that no proof can have.
use Rattle.std.specs.Prelude.{ℕ, zero, suc, ◌+◌, ◌/◌, ◌^◌, ◌<◌, min, ◌≡◌, List, get_or, set}
use Rattle.model.specs.Limits.{flat_words, word_limit}
use Rattle.model.specs.Node.{Node}
use Rattle.model.specs.Flat.{size_of}

-- the first number of nodes whose words are past the limit
abbrev pub node_cap : ℕ
node_cap = word_limit / flat_words + 1

abbrev pub held_nodes : ℕ → ℕ
held_nodes n = min node_cap n

-- what every number of a table of 32 bits each is below
abbrev pub table_bound : ℕ
table_bound = 2 ^ 32

-- a table with the sizes of the first n nodes' trees written into it, each held
unfoldable pub filled_sizes : List Node → ℕ → List ℕ → List ℕ
unfolding size_of
filled_sizes ns zero old = old
filled_sizes ns (suc n) old = set (filled_sizes ns n old) n (held_nodes (size_of ns n))

-- the sizes of the first n nodes' trees are there
pub record Sized (ns : List Node) (sizes : List ℕ) (n : ℕ) : Type 0 where
  pub each : (a : ℕ) → a < n → get_or sizes a 0 ≡ held_nodes (size_of ns a)
