-- A table of connections, as words: the age of each is its place. What stands in a table is read without a test here: judging has tested it.
use Rattle.std.specs.Prelude.{ℕ, zero, suc, ◌*◌, ◌+◌, ◌<◌, Bool, ◌&&◌, List, [], ◌∷◌, ◌≡◌, get_or}
use Rattle.model.specs.Connect.{add_connection, pairs_joined}
use Rattle.model.specs.Forest.{joined, root}
use Rattle.model.specs.Judged.{Judged}
use Rattle.model.specs.Node.{Node}
use Rattle.model.specs.Tables.{connection_entry, entries, node_words, connection_words, next_at, why_at, by_rule_at, forward_at}
use Rattle.model.specs.Term.{same_op}
use Rattle.model.specs.declared.Connection.{Connection}
use Rattle.model.specs.declared.Direction.{Direction}
use Rattle.model.specs.declared.Direction.TheVariants.{Backward, Forward}
use Rattle.model.specs.declared.Justification.{Justification}
use Rattle.model.specs.declared.Justification.TheVariants.{Congruence, Rule as by_rule}
use Rattle.paths.specs.Hangs.{AcceptedConnections}
use Rattle.entries.specs.Nodes.{KnownIn, NodesStand, child_in, children_in, count_in, first_nodes}

-- the connection that stands at a place of the table; its age is that place
abbrev pub direction_in : ℕ → Direction
direction_in zero = Backward
direction_in (suc f) = Forward

abbrev pub why_in : ℕ → ℕ → ℕ → Justification
why_in zero r f = Congruence
why_in (suc k) r f = by_rule (record { 0 = r }) (direction_in f)

unfoldable pub connection_in : List ℕ → ℕ → Connection
connection_in ws i =
    record {
      current = record { 0 = get_or ws (i * connection_words) 0 };
      next = record { 0 = get_or ws (i * connection_words + next_at) 0 };
      why = why_in (get_or ws (i * connection_words + why_at) 0) (get_or ws (i * connection_words + by_rule_at) 0) (get_or ws (i * connection_words + forward_at) 0);
    }

-- the k oldest connections of a table, newest first
unfoldable pub oldest : ℕ → List ℕ → List Connection
unfolding connection_in
oldest zero ws = []
oldest (suc k) ws = connection_in ws k ∷ oldest k ws

-- the same connections, accepted over n nodes: all that distances and proofs want
pub record Supported (nodes : List ℕ) (n : ℕ) (conns : List ℕ) (count : ℕ) : Type 0 where
  pub table : NodesStand nodes n
  pub accepted : AcceptedConnections (first_nodes n nodes) (oldest count conns)

-- what the first k entries of a table of connections, over nodes ns, come to
abbrev pub connections_to : List Node → List ℕ → ℕ → Judged (List Connection)
connections_to ns ws k = entries (add_connection ns) (connection_entry ws) [] k

-- whether two nodes of a table support a congruence
abbrev pub support_in : List ℕ → List Connection → ℕ → ℕ → Bool
support_in ws cs a b =
    same_op (get_or ws (a * node_words) 0) (get_or ws (b * node_words) 0) && pairs_joined (joined cs) (children_in ws a) (children_in ws b)

-- two nodes whose children the oldest connections, up to a bound, join pair by pair
pub record TwinsIn (nodes conns : List ℕ) (bound a b : ℕ) : Type 0 where
  pub left-known : KnownIn nodes a
  pub right-known : KnownIn nodes b
  pub even : count_in nodes a ≡ count_in nodes b
  pub joins : (i : ℕ) → i < count_in nodes a → root (oldest bound conns) (child_in nodes a i) ≡ root (oldest bound conns) (child_in nodes b i)
