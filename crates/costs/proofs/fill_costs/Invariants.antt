-- `costs::fill_costs` meets its contract: the costs of the connections passed are written, each from those before it.
use mathlib.Core.Path.{◌≡◌}
use Rattle.entries.specs.Nodes.{nodes_of}
use Rattle.costs.specs.Costs.{priced}
use Rattle.costs.proofs.fill_costs.Given as goal

abbrev pub invariant-loop-age : goal.invariant-loop-age
invariant-loop-age l = l.rows ≡ priced (nodes_of l.tables.nodes.now) l.tables.conns.now l.age l.initial.rows
