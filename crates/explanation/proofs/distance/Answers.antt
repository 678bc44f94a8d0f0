-- `explanation::distance` meets its contract: bad tables give their refusal, good ones what is measured.
-- Assumes nothing.
use mathlib.Core.Path.{sym, ap, ◌∙◌}
use Rattle.model.specs.Judged.{Judged}
use Rattle.model.specs.Query.{Tables}
use Rattle.model.specs.Tables.{judge_tables, measure_by}
use Rattle.laws.proofs.Handed.{handed_on}
use Rattle.laws.proofs.Judging.{Good, taken-good}
use Rattle.explanation.proofs.Whole.{whole, unmeasured}
use Rattle.explanation.proofs.distance.Goals.{In_ok-judge_tables}
use Rattle.explanation.proofs.distance.Goals as goal

accepted : (c : In_ok-judge_tables) → Good (judge_tables c.args.nodes.now c.args.rules.now c.args.connections.now)
accepted c = taken-good _ (sym c.in_ok-judge_tables.was ∙ c.judge_tables.ensures)

pub returns-in_err-judge_tables : goal.returns-in_err-judge_tables
returns-in_err-judge_tables c =
    let a = c.args in
    handed_on c.from_residual.result _ c.from_residual.ensures.1
    ∙ unmeasured (judge_tables a.nodes.now a.rules.now a.connections.now) a.left.0 a.right.0 _ c.in_err-judge_tables.ensures

pub invariant_of-tables : goal.invariant_of-tables
invariant_of-tables c =
    let g = accepted (goal.at.invariant_of-tables c).In_ok-judge_tables in record { supported = (whole _ _ _ g.what g.is).support }

pub returns : goal.returns
returns c =
    let g = accepted (goal.at.returns c).In_ok-judge_tables in
    let w = whole _ _ _ g.what g.is in
    c.measure.ensures.measures g.what w.nodes w.conns
    ∙ sym (ap (λ (j : Judged Tables). measure_by j c.args.left.0 c.args.right.0) g.is)
