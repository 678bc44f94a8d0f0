-- `needs::runs_need` meets its contract: what the pairs of children passed append, and what those left append, make the whole sum, held at
-- the cap.
use Prim.Native.Nat.{◌+◌, ◌*◌}
use mathlib.Core.List.{List}
use mathlib.Core.Path.{◌≡◌}
use lib.ListN.{get_or}
use Rattle.model.specs.declared.Connection.{Connection}
use Rattle.model.specs.Tables.{children_at, node_words}
use Rattle.entries.specs.Nodes.{count_in}
use Rattle.forest.specs.Rows.{Climbs}
use Rattle.costs.specs.Costs.{nodes_in, weigh}
use Rattle.needs.specs.Needs.{path_nodes}
use Rattle.needs.proofs.Runs.{Runs}
use Rattle.needs.proofs.runs_need.Given as goal

abbrev pub invariant-loop-i : goal.invariant-loop-i
invariant-loop-i l =
    (l.n ≡ count_in l.lent.nodes.words.now l.a.0)
    × ((cs : List Connection) → Climbs cs (nodes_in l.lent.nodes.words.now) l.lent.rows.now →
    Runs (λ k. get_or l.lent.sizes.now k 0) (weigh l.lent.rows.now cs) (path_nodes l.appended.ups l.appended.downs cs) l.lent.nodes.words.now (l.a.0 * node_words + children_at) (l.b.0 * node_words + children_at)
    (count_in l.lent.nodes.words.now l.a.0) l.i l.before l.sum)
