use native.Mathlib.Omega.{arith}
use mathlib.Core.Path.{sym, ap, ◌∙◌}
use native.Mathlib.Numerals.{add-one}
use Rattle.laws.proofs.Handed.{handed_on}
use Rattle.model.specs.Judged.{judgement_of}
use Rattle.entries.proofs.Nodes.{nodes, nodes-none, node-bad, node-more, node_done}
use Rattle.nodes.proofs.judge_nodes.Goals as goal

pub loop-n-init : goal.loop-n-init
loop-n-init c = nodes-none _

pub judge_node-requires : goal.judge_node-requires
judge_node-requires c = (nodes _ _ _ c.loop-n.invariant).stand.few

pub loop-n-preserved : goal.loop-n-preserved
loop-n-preserved c = rw add-one (node-more _ _ c.loop-n.invariant (sym c.in_ok-judge_node.was ∙ c.judge_node.ensures))

pub returns : goal.returns
returns c = ap judgement_of (sym (node_done _ _ c.loop-n.invariant (omega (arith, c.div_ceil-n-end.ensures))))

pub returns-in_err-judge_node : goal.returns-in_err-judge_node
returns-in_err-judge_node c =
    handed_on c.from_residual.result _ c.from_residual.ensures.1
    ∙ ap judgement_of (sym (node-bad _ _ _ c.loop-n.invariant (omega (arith, c.div_ceil-n-end.ensures)) c.in_err-judge_node.ensures))
