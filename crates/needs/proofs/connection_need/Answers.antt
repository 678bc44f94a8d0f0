-- `needs::connection_need` meets its contract: a rule appends the tree of the node that it leads to, a congruence its children's runs.
use native.Mathlib.Omega.{arith}
use Rattle.needs.proofs.Runs.{by-rule, by_runs}
use Rattle.needs.proofs.connection_need.Goals as goal

pub returns-in-Rule : goal.returns-in-Rule
returns-in-Rule c = λ cs k.
    by-rule _ _ _ _ _ _ _ _ _ c.if-cost-eq0.false c.in-Rule.is c.size_of.ensures.0
    (omega (arith, c.size_of.ensures.0, c.requires.sized.each _ c.requires.right-in))

pub returns-in-Congruence : goal.returns-in-Congruence
returns-in-Congruence c = λ cs k. by_runs _ _ _ _ _ _ _ _ _ c.if-cost-eq0.false c.in-Congruence.is (c.runs_need.ensures cs k)
