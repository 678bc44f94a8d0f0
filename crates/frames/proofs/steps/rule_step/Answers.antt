-- `frames::steps::rule_step` meets its contract: by the judgement on the rule.
use Prim.Native.Nat.{suc}
use mathlib.Core.Path.{refl, subst}
use Rattle.model.specs.Judged.{Judgement}
use Rattle.model.specs.Rule.{add_rule}
use Rattle.model.specs.Frame.{rule_frame}
use Rattle.model.specs.Run.{rule_turn}
use Rattle.laws.proofs.Handed.{handed_on}
use Rattle.rule_table.specs.Entries.{rules_in}
use Rattle.tables.specs.Grown.{Grown}
use Rattle.frames.proofs.Ordered.{refused}
use Rattle.frames.proofs.Rules.{rule-taken}
use Rattle.frames.proofs.steps.rule_step.Goals as goal

pub returns-in_err-take_rule : goal.returns-in_err-take_rule
returns-in_err-take_rule c s h none =
    refused (rule_turn s) (λ q. refl) _ _ _ _ c.in_err-take_rule.was (c.take_rule.ensures.rules_grown s.tables.rules h.rules).says
    (handed_on c.from_residual.result _ c.from_residual.ensures.1)

pub returns : goal.returns
returns c s h none =
    let a = c.args in
    rule-taken a.counts a.store.now _ s h none (rule_frame a.bytes.now)
    (subst (λ (r : Judgement). Grown (add_rule s.tables.rules (rule_frame a.bytes.now)) r (rules_in c.take_rule.new.rules (suc a.counts.rules)))
    c.in_ok-take_rule.was (c.take_rule.ensures.rules_grown s.tables.rules h.rules))
