-- `nodes::judge_nodes` meets its contract: the nodes passed were accepted, and the first entry that is not decides.
use mathlib.Core.Path.{◌≡◌}
use Rattle.model.specs.Judged.{good}
use Rattle.entries.specs.Nodes.{nodes_to, first_nodes}
use Rattle.nodes.proofs.judge_nodes.Given as goal

abbrev pub invariant-loop-n : goal.invariant-loop-n
invariant-loop-n l = nodes_to l.nodes l.n ≡ good (first_nodes l.n l.nodes)
