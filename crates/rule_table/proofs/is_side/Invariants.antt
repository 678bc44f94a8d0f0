-- `rule_table::is_side` meets its contract. The loop's invariant is `Walk`: the walk from here goes on as the whole goes.
-- Assumes nothing.
use Rattle.rule_table.proofs.Sides.{Walk}
use Rattle.rule_table.proofs.is_side.Given as goal

abbrev pub invariant-loop-k : goal.invariant-loop-k
invariant-loop-k l = Walk l.words l.at l.items l.k l.pending
