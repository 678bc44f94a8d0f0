-- `checker::Offered::mark_fault` meets its contract: 16, then 17, of a term with one mark.
-- Assumes nothing.
use native.Mathlib.Omega.{arith}
use Prim.Native.Nat.{ℕ, ◌+◌, ◌*◌}
use mathlib.Core.Bool.{Bool, true, false, not}
use mathlib.Core.List.{List}
use mathlib.Core.Option.{Option as Maybe}
use mathlib.Core.Path.{◌≡◌, sym, ap, subst, ◌∙◌}
use Rattle.std.specs.Prelude.{Some, Ok, Err}
use Rattle.model.specs.declared.Refusal.TheVariants.{RuleUnlisted, NoStep}
use Rattle.model.specs.Judged.{good}
use Rattle.model.specs.Limits.{flat_words}
use Rattle.model.specs.Term.{one}
use Rattle.model.specs.Rule.{Rule, listed, is_listed}
use Rattle.model.specs.Step.{step, unlisted}
use Rattle.model.specs.Tables.{rule_table}
use Rattle.terms.specs.Place.{node_of}
use Rattle.rule_table.specs.Entries.{where_listed}
use Rattle.rule_table.proofs.Table.{table-found, table-nowhere}
use Rattle.checker.proofs.Later.{fault-unlisted, fault-step, fault-none}
use Rattle.checker.proofs.Split.{AtMark, at_mark, mark-unlisted, fault-known}
use Rattle.checker.proofs.Offered.mark_fault.Goals as goal
use Rattle.checker.proofs.Offered.mark_fault.Goals.{Start, In-Some, After-step_by}

mark : (c : Start) → AtMark c.args.self.words.now c.args.at c.args.mark.nodes c.requires.later
mark c = let w = c.requires in at_mark c.args.self.words.now c.args.at c.args.mark.end c.args.mark.nodes c.args.mark.end w.later w.mark

named : (c : Start) (rs : List Rule) (o : Maybe Rule) → listed rs (node_of c.args.self.words.now (c.args.at + flat_words * c.args.mark.nodes)).rule.0 ≡ o
    → unlisted rs (one c.requires.later) ≡ not (is_listed o)
named c rs o e =
    mark-unlisted rs c.args.self.words.now c.args.at c.args.mark.nodes c.requires.later (mark c)
    ∙ ap (λ (x : Maybe Rule). not (is_listed x)) (subst (λ (n : ℕ). listed rs n ≡ o) (mark c).words.rule e)

place : (c : In-Some) → where_listed c.args.self.rules.now (node_of c.args.self.words.now (c.args.at + flat_words * c.args.mark.nodes)).rule.0 ≡ Some c.in-Some.i
place c =
    rw c.node_at-n.ensures at (sym c.find_rule-found.ensures ∙ c.in-Some.is)

there : (c : In-Some) (rs : List Rule) → rule_table c.args.self.rules.now ≡ good rs → unlisted rs (one c.requires.later) ≡ false
there c rs are = named (goal.at.In-Some c).Start rs _ (table-found _ rs _ _ are (place c)).listed

stepped : (c : After-step_by) (b : Bool) → c.step_by.result ≡ b → (rs : List Rule) → rule_table c.args.self.rules.now ≡ good rs
    → step rs (one c.requires.earlier) (one c.requires.later) ≡ b
stepped c b e rs are = let w = c.requires in sym (c.step_by.ensures rs are _ _ w.earlier w.later w.is_e w.is_l) ∙ e

pub overflow_mul-mark : goal.overflow_mul-mark
overflow_mul-mark c = omega (arith, (mark (goal.at.overflow_mul-mark c).Start).words.room, c.well_formed.1.0)

pub overflow_add-at : goal.overflow_add-at
overflow_add-at c = omega (arith, (mark (goal.at.overflow_add-at c).Start).words.room, c.well_formed.1.0)

pub node_at-n-requires : goal.node_at-n-requires
node_at-n-requires c = (mark (goal.at.node_at-n-requires c).Start).words.room

pub returns-in_default : goal.returns-in_default
returns-in_default c =
    let a = c.args in
    let w = c.requires in
    fault-known a.self.rules.now a.self.words.now a.before a.at a.mark.nodes a.mark.end w (Err RuleUnlisted)
    (λ rs are.
    fault-unlisted rs _ _ w.mark.alone
    (named (goal.at.returns-in_default c).Start rs _ (table-nowhere _ rs _ are (rw c.node_at-n.ensures at (sym c.find_rule-found.ensures ∙ c.in_default.is)))))

pub returns-then-not-step_by : goal.returns-then-not-step_by
returns-then-not-step_by c =
    let above = goal.at.returns-then-not-step_by c in
    let a = c.args in
    let w = c.requires in
    fault-known a.self.rules.now a.self.words.now a.before a.at a.mark.nodes a.mark.end w (Err NoStep)
    (λ rs are. fault-step rs _ _ w.mark.alone (there above.In-Some rs are) (stepped above.After-step_by false c.if-not-step_by.true rs are))

pub returns : goal.returns
returns c =
    let above = goal.at.returns c in
    let a = c.args in
    let w = c.requires in
    fault-known a.self.rules.now a.self.words.now a.before a.at a.mark.nodes a.mark.end w (Ok tt)
    (λ rs are. fault-none rs _ _ w.mark.alone (there above.In-Some rs are) (stepped above.After-step_by true c.if-not-step_by.false rs are))
