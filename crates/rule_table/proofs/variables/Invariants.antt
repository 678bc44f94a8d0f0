-- `rule_table::variables` meets its contract. The loop's invariant is `Marking`: those marked, and those of the slots to come.
-- Assumes nothing.
use Rattle.rule_table.proofs.Passes.{Marking}
use Rattle.rule_table.proofs.variables.Given as goal

abbrev pub invariant-loop-k : goal.invariant-loop-k
invariant-loop-k l = Marking l.words l.at l.items l.on l.k
