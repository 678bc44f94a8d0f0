-- `explanation::respond` meets its contract: the area is zero behind what was written, and after a refusal all of it.
-- Assumes nothing.
use borrow.Author.Rules.{rules}
use native.Mathlib.Omega.{arith}
use mathlib.Core.List.{[]}
use mathlib.Core.Path.{◌≡◌, refl, sym, subst, ◌∙◌}
use lib.ListN.{length}
use Rattle.model.specs.Query.{Tables, Answer}
use Rattle.entries.specs.Nodes.{nodes_of}
use Rattle.forest.specs.Rows.{connections_of}
use Rattle.explanation.specs.Query.{InFront}
use Rattle.explanation.proofs.Queries.{cleared, written-fits, area-written, area-refused}
use Rattle.explanation.proofs.respond.Goals.{After-answer-answer}
use Rattle.explanation.proofs.respond.Goals as goal

-- the area is as long as it was
long : (c : After-answer-answer) → length c.answer-answer.new.area ≡ length c.args.area.now
long c = search rules

pub clear_from-requires : goal.clear_from-requires
clear_from-requires c =
    let some-tables : Tables = record { nodes = nodes_of c.args.nodes.now; rules = []; conns = connections_of c.args.connections.now } in
    omega (
      arith,
      long (goal.at.clear_from-requires c).After-answer-answer,
      written-fits some-tables _ _ _ _ (sym c.in-Ok.is ∙ (c.answer-answer.ensures some-tables refl refl).0),
    )

pub returns-in-Ok : goal.returns-in-Ok
returns-in-Ok c t ns cs =
    let a = c.args in
    let x = c.answer-answer.ensures t ns cs in
    let e = sym c.in-Ok.is ∙ x.0 in (
      e,
      area-written t (length a.area.now) a.left.0 a.right.0 _ c.answer-answer.new.area _ e
          (subst (λ (y : Answer). InFront y t a.left.0 a.right.0 c.answer-answer.new.area) c.in-Ok.is x.1)
          (long (goal.at.returns-in-Ok c).After-answer-answer) c.clear_from.ensures,
    )

pub returns-in-Err : goal.returns-in-Err
returns-in-Err c t ns cs =
    let a = c.args in
    let x = c.answer-answer.ensures t ns cs in (
      x.0,
      c.clear_from-in-Err.ensures
          ∙ cleared c.answer-answer.new.area _ (long (goal.at.returns-in-Err c).After-answer-answer)
          ∙ area-refused t (length a.area.now) a.left.0 a.right.0 _ (sym c.in-Err.is ∙ x.0),
    )
