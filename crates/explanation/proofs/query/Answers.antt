-- `explanation::query` meets its contract: bad tables give their number, and the area is all zero; good ones the answer.
-- Assumes nothing.
use mathlib.Core.Path.{refl, sym, ap, ◌∙◌}
use lib.ListN.{length}
use Rattle.model.specs.Judged.{Judged}
use Rattle.model.specs.Query.{Tables}
use Rattle.model.specs.Tables.{judge_tables, answer_by, area_of}
use Rattle.laws.proofs.Judging.{Good, taken-good}
use Rattle.explanation.proofs.Whole.{whole}
use Rattle.explanation.proofs.Queries.{cleared, unanswered, unlent}
use Rattle.explanation.proofs.query.Goals.{In_default}
use Rattle.explanation.proofs.query.Goals as goal

accepted : (c : In_default) → Good (judge_tables c.args.nodes.now c.args.rules.now c.args.connections.now)
accepted c = taken-good _ (sym c.in_default.is ∙ c.judge_tables.ensures)

pub returns-in-Err : goal.returns-in-Err
returns-in-Err c =
    let a = c.args in
    let t = judge_tables a.nodes.now a.rules.now a.connections.now in
    let e = c.in-Err.ensures in
    let n = length a.area.now in record {
      value = unanswered t n a.left.0 a.right.0 _ e;
      area_after = c.clear_from.ensures ∙ cleared a.area.now n refl ∙ unlent t n a.left.0 a.right.0 _ e;
    }

pub respond-requires : goal.respond-requires
respond-requires c = let g = accepted (goal.at.respond-requires c).In_default in let w = whole _ _ _ g.what g.is in (w.table, w.support)

pub returns : goal.returns
returns c =
    let a = c.args in
    let g = accepted (goal.at.returns c).In_default in
    let w = whole _ _ _ g.what g.is in
    let x = c.respond.ensures g.what w.nodes w.conns in record {
      value = x.0 ∙ sym (ap (λ (j : Judged Tables). answer_by j (length a.area.now) a.left.0 a.right.0) g.is);
      area_after = x.1 ∙ sym (ap (λ (j : Judged Tables). area_of j (length a.area.now) a.left.0 a.right.0) g.is);
    }
