use native.Mathlib.Omega.{arith}
use Prim.Native.Nat.{◌+◌}
use mathlib.Core.Path.{◌∙◌}
use Rattle.model.specs.Tables.{rule_words}
use Rattle.laws.proofs.Handed.{handed_on}
use Rattle.rule_table.proofs.Whole.{Judging, judging-start, judging-accepted, judging-done, judging-next, judging-faulty}
use Rattle.rule_table.proofs.judge_rules.Goals as goal
use Rattle.rule_table.proofs.judge_rules.Goals.{In_ok-judge_rule}

next : (c : In_ok-judge_rule) → Judging c.args.rules.now (c.loop-pos.pos + rule_words)
next c = judging-next _ _ c.loop-pos.invariant _ (omega (arith, c.min-end.ensures)) c.loop-pos-test.true c.in_ok-judge_rule.ensures

pub loop-pos-init : goal.loop-pos-init
loop-pos-init c = judging-start _

pub judge_rule-requires : goal.judge_rule-requires
judge_rule-requires c = judging-accepted _ _ c.loop-pos.invariant

pub returns-in_err-judge_rule : goal.returns-in_err-judge_rule
returns-in_err-judge_rule c =
    handed_on c.from_residual.result _ c.from_residual.ensures.1
    ∙ (judging-faulty _ _ c.loop-pos.invariant _ (omega (arith, c.min-end.ensures)) c.loop-pos-test.true _ c.in_err-judge_rule.ensures)

pub loop-pos-preserved : goal.loop-pos-preserved
loop-pos-preserved c = next (goal.at.loop-pos-preserved c).In_ok-judge_rule

pub returns-in_ok-judge_rule : goal.returns-in_ok-judge_rule
returns-in_ok-judge_rule c = judging-done _ _ (next (goal.at.returns-in_ok-judge_rule c).In_ok-judge_rule) (omega arith)

pub returns : goal.returns
returns c = judging-done _ _ c.loop-pos.invariant (omega arith)
