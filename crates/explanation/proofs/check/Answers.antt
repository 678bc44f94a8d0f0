-- `explanation::check` meets its contract: bad tables give their refusal, good ones the checker's verdict.
-- Assumes nothing.
use mathlib.Core.Path.{sym, ap, ◌∙◌}
use Rattle.model.specs.Judged.{Judged}
use Rattle.model.specs.Query.{Tables}
use Rattle.model.specs.Tables.{judge_tables, verdict_by}
use Rattle.laws.proofs.Judging.{Good, taken-good}
use Rattle.explanation.proofs.Whole.{parts, refused}
use Rattle.explanation.proofs.check.Goals.{In_default}
use Rattle.explanation.proofs.check.Goals as goal

accepted : (c : In_default) → Good (judge_tables c.args.nodes.now c.args.rules.now c.args.connections.now)
accepted c = taken-good _ (sym c.in_default.is ∙ c.judge_tables.ensures)

pub returns-in-Err : goal.returns-in-Err
returns-in-Err c =
    let a = c.args in
    refused (judge_tables a.nodes.now a.rules.now a.connections.now) a.words.now _ c.in-Err.ensures

pub check-requires : goal.check-requires
check-requires c =
    let g = accepted (goal.at.check-requires c).In_default in
    record { rules = g.what.rules; are = (parts _ _ _ g.what g.is).rules }

pub returns : goal.returns
returns c =
    let g = accepted (goal.at.returns c).In_default in
    c.check.ensures g.what.rules (parts _ _ _ g.what g.is).rules
    ∙ sym (ap (λ (j : Judged Tables). verdict_by j c.args.words.now) g.is)
