-- `tables::judge_behind` meets its contract: the entry is judged behind what stands before it.
use native.Mathlib.Omega.{arith}
use mathlib.Core.Path.{sym}
use lib.Seq.{length-take-le}
use Rattle.laws.specs.Area.{part}
use Rattle.tables.proofs.judge_behind.Goals as goal

pub slice_bounds-judge_rule-end : goal.slice_bounds-judge_rule-end
slice_bounds-judge_rule-end c = sym (length-take-le _ _ (omega arith))

pub returns : goal.returns
unfolding part
returns c = c.judge_rule.ensures
