-- `forest::fill_rows` meets its contract: the connections passed stand in the rows; then the depths, and the table is the one defined.
use mathlib.Core.List.{List, []}
use Rattle.forest.specs.declared.Row.{Row}
use Rattle.entries.specs.Connections.{oldest}
use Rattle.forest.specs.Filling.{Tied, DepthsUnknown}
use Rattle.forest.proofs.fill_rows.Given as goal

abbrev pub invariant-loop-age : goal.invariant-loop-age
invariant-loop-age l =
    ((old : List Row) → Tied [] l.n old l.initial.rows → DepthsUnknown l.n l.initial.rows → Tied (oldest l.age l.conns) l.n old l.rows × DepthsUnknown l.n l.rows)
