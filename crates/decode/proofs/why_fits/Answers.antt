-- `decode::why_fits` meets its contract, by the cases of the kind.
use mathlib.Core.Path.{◌∙◌}
use borrow.Author.Tests.{ne_eqb}
use Rattle.decode.proofs.Connections.{why-congruence, why-rule, no-rule}
use Rattle.decode.proofs.why_fits.Goals as goal

pub returns-then-rule-eq0 : goal.returns-then-rule-eq0
returns-then-rule-eq0 c = why-congruence _ _ _ c.in-0.is c.if-rule-eq0.true

pub returns-else-rule-eq0 : goal.returns-else-rule-eq0
returns-else-rule-eq0 c = ne_eqb _ _ c.if-rule-eq0.false ∙ no-rule _ _ _ c.in-0.is c.if-rule-eq0.false

pub returns-in-1 : goal.returns-in-1
returns-in-1 c = why-rule _ _ _ c.in-1.is
