-- `forest::joined` meets its contract: two nodes are joined where their climbs meet.
use mathlib.Core.Path.{ap, ◌∙◌}
use Rattle.std.specs.Prelude.{is_some}
use Rattle.paths.proofs.Meets.{meet-joined}
use Rattle.forest.proofs.joined.Goals as goal

pub returns : goal.returns
returns c = λ cs n k p q. c.is_some.ensures ∙ ap is_some (c.meet.ensures cs n k p q) ∙ meet-joined cs _ _
