-- `explanation::answer` meets its contract: what is not measured is refused as it was, and the rest is written or does not fit.
-- Assumes nothing.
use mathlib.Core.Path.{sym, subst, ◌∙◌}
use Rattle.model.specs.Query.{Measured}
use Rattle.explanation.specs.Measure.{Measures, Routed}
use Rattle.explanation.proofs.Queries.{not-measured}
use Rattle.explanation.proofs.answer.Goals as goal

pub returns-in-Err : goal.returns-in-Err
returns-in-Err c =
    λ t ns cs. (not-measured t _ _ _ _ (sym c.in-Err.is ∙ c.measure.ensures.measures t ns cs), tt)

pub write_answer-requires : goal.write_answer-requires
write_answer-requires c =
    let a = c.args in record {
      nodes_whole = c.requires;
      measures = (
        subst (λ (x : Measured). Measures a.tables.nodes.now a.tables.conns.now a.left.0 a.right.0 x) c.in-Ok.is c.measure.ensures.measures,
        subst (λ (x : Measured). Routed a.tables.nodes.now a.tables.conns.now a.left.0 a.right.0 x c.measure.new.rows) c.in-Ok.is c.measure.ensures.routed,
      );
    }
