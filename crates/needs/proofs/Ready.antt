-- What a query has when it asks for its words: rows with their costs, and sizes as `trees::fill_sizes` leaves them.
use Prim.Native.Nat.{ℕ, ◌/◌}
use mathlib.Core.List.{List}
use mathlib.Core.Path.{◌≡◌}
use native.Mathlib.Omega.{arith}
use lib.ListN.{length}
use Rattle.forest.specs.declared.Row.{Row}
use Rattle.model.specs.Limits.{node_limit}
use Rattle.model.specs.Tables.{connection_words}
use Rattle.entries.specs.Connections.{Supported}
use Rattle.entries.specs.Nodes.{NodesWhole, nodes_of}
use Rattle.forest.specs.Rows.{connections_of}
use Rattle.costs.specs.Costs.{Charged, Filled, nodes_in}
use Rattle.trees.specs.Sizes.{filled_sizes}
use Rattle.trees.proofs.Filled.{filled-sized}
use Rattle.needs.specs.Needs.{Counts}

pub counts : {nodes conns : List ℕ} {rows : List Row} {sizes : List ℕ} (old : List ℕ) → NodesWhole nodes →
    Supported nodes (nodes_in nodes) conns (length conns / connection_words) → Charged (connections_of conns) (nodes_in nodes) rows →
    Filled (nodes_of nodes) conns rows (length conns / connection_words) → length old ≡ node_limit →
    sizes ≡ filled_sizes (nodes_of nodes) (nodes_in nodes) old → Counts nodes conns rows sizes
counts {nodes} {conns} old n s k f h q =
    rw q record {
      whole = n;
      support = s;
      charged = k;
      filled = f;
      sized = filled-sized (nodes_of nodes) (nodes_in nodes) old (omega (arith, n.stand.few));
    }
