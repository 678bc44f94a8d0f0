-- `rule_table::find_rule` meets its contract. The loop's invariant: the entries not yet seen decide as all of them do.
-- Assumes nothing.
use mathlib.Core.Path.{◌≡◌}
use Rattle.rule_table.specs.Entries.{listed_below, where_listed}
use Rattle.rule_table.proofs.find_rule.Given as goal

abbrev pub invariant-loop-i : goal.invariant-loop-i
invariant-loop-i l = listed_below l.rules l.i l.number.0 ≡ where_listed l.rules l.number.0
