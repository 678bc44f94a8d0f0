-- `rule_table::all_known` meets its contract. The loop's invariant is `Checking`: the slots to come decide as all of them do.
-- Assumes nothing.
use Rattle.rule_table.proofs.Passes.{Checking}
use Rattle.rule_table.proofs.all_known.Given as goal

abbrev pub invariant-loop-k : goal.invariant-loop-k
invariant-loop-k l = Checking l.words l.at l.items l.on l.k
