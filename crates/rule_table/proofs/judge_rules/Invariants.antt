-- `rule_table::judge_rules` meets its contract. The loop's invariant is `Judging`: the entries passed were accepted.
-- Assumes nothing.
use Prim.Native.Nat.{◌-◌}
use lib.ListN.{length}
use Rattle.rule_table.proofs.Whole.{Judging}
use Rattle.rule_table.proofs.judge_rules.Given as goal

abbrev pub invariant-loop-pos : goal.invariant-loop-pos
invariant-loop-pos l = Judging l.rules l.pos

abbrev pub decreases-loop-pos : goal.decreases-loop-pos
decreases-loop-pos l = length l.rules - l.pos
