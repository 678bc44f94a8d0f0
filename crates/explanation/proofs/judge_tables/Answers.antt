-- `explanation::judge_tables` meets its contract: the first bad table decides.
-- Assumes nothing.
use mathlib.Core.Path.{sym, ap, ◌∙◌}
use Rattle.model.specs.Judged.{judgement_of}
use Rattle.entries.specs.Nodes.{NodesWhole}
use Rattle.entries.proofs.Nodes.{nodes-whole}
use Rattle.laws.proofs.Handed.{handed_on}
use Rattle.explanation.proofs.Whole.{bad-nodes, bad-rules, connections-decide}
use Rattle.explanation.proofs.judge_tables.Goals.{In_ok-judge_nodes}
use Rattle.explanation.proofs.judge_tables.Goals as goal

-- the nodes were accepted
nodes : (c : In_ok-judge_nodes) → NodesWhole c.args.nodes.now
nodes c = nodes-whole _ (sym c.in_ok-judge_nodes.was ∙ c.judge_nodes.ensures)

pub returns-in_err-judge_nodes : goal.returns-in_err-judge_nodes
returns-in_err-judge_nodes c =
    handed_on c.from_residual.result _ c.from_residual.ensures.1 ∙ sym (ap judgement_of (bad-nodes _ _ _ _ c.in_err-judge_nodes.ensures))

pub returns-in_err-judge_rules : goal.returns-in_err-judge_rules
returns-in_err-judge_rules c =
    handed_on c.from_residual-in_err-judge_rules.result _ c.from_residual-in_err-judge_rules.ensures.1
    ∙ sym (ap judgement_of (bad-rules _ _ _ (nodes (goal.at.returns-in_err-judge_rules c).In_ok-judge_nodes) _ c.in_err-judge_rules.ensures))

pub invariant_of-judge_connections : goal.invariant_of-judge_connections
invariant_of-judge_connections c = record { whole = nodes (goal.at.invariant_of-judge_connections c).In_ok-judge_nodes }

pub returns : goal.returns
returns c =
    c.judge_connections.ensures
    ∙ connections-decide _ _ _ (nodes (goal.at.returns c).In_ok-judge_nodes) (sym c.in_ok-judge_rules.was ∙ c.judge_rules.ensures)
