-- `costs::children_cost` meets its contract: what the pairs of children passed have cost, and what those left cost, make the whole sum,
-- held at the cap.
use Prim.Native.Nat.{◌+◌, ◌*◌}
use mathlib.Core.List.{List}
use mathlib.Core.Path.{◌≡◌}
use Rattle.model.specs.declared.Connection.{Connection}
use Rattle.model.specs.Tables.{node_words, children_at}
use Rattle.entries.specs.Nodes.{count_in}
use Rattle.forest.specs.Rows.{Climbs}
use Rattle.costs.specs.Costs.{nodes_in, weigh}
use Rattle.costs.proofs.Sums.{Sums}
use Rattle.costs.proofs.children_cost.Given as goal

abbrev pub invariant-loop-i : goal.invariant-loop-i
invariant-loop-i l =
    (l.n ≡ count_in l.nodes l.a.0)
    × ((cs : List Connection) → Climbs cs (nodes_in l.nodes) l.rows →
    Sums (weigh l.rows cs) l.nodes (l.a.0 * node_words + children_at) (l.b.0 * node_words + children_at) (count_in l.nodes l.a.0) l.i l.sum)
