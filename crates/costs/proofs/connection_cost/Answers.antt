-- `costs::connection_cost` meets its contract: a rule is 1, and a congruence its children's distances.
use mathlib.Core.Path.{ap, ◌∙◌}
use Rattle.costs.specs.Costs.{held}
use Rattle.costs.proofs.Payable.{by-children, by-rule}
use Rattle.costs.proofs.connection_cost.Goals as goal

pub returns-in-Rule : goal.returns-in-Rule
returns-in-Rule c = λ cs k. by-rule _ _ _ _ _ c.in-Rule.is

pub returns-in-Congruence : goal.returns-in-Congruence
returns-in-Congruence c = λ cs k.
    c.children_cost.ensures cs k ∙ ap held (by-children _ _ _ _ _ c.requires.current-in c.requires.next-in c.in-Congruence.is)
