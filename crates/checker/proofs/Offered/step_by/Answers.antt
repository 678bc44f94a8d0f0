-- `checker::Offered::step_by` meets its contract: the nodes before the mark, what stands there, and the nodes behind it.
-- Assumes nothing.
use native.Mathlib.Omega.{arith}
use Prim.Native.Nat.{ℕ, ◌+◌, ◌-◌, ◌*◌, ◌/◌, ◌≤◌}
use mathlib.Core.Bool.{Bool, true, false, ◌&&◌}
use mathlib.Core.List.{List}
use mathlib.Core.Option.{some}
use mathlib.Core.Path.{◌≡◌, refl, sym, ap, subst, ◌∙◌}
use lib.ListN.{length}
use Rattle.model.specs.Judged.{good}
use Rattle.model.specs.Limits.{flat_words}
use Rattle.model.specs.Term.{size}
use Rattle.model.specs.Rule.{Rule, listed}
use Rattle.model.specs.Tables.{rule_table}
use Rattle.terms.specs.Place.{node_of, same_nodes, Well}
use Rattle.rule_table.proofs.Entries.{Found}
use Rattle.rule_table.proofs.Table.{table-found}
use Rattle.checker.specs.Check.{fits_by, Marked, MarkFits}
use Rattle.checker.proofs.Split.{AtMark, at_mark, later-there, Halves, earlier-there, halves, unequal, front-room, behind-count, behind-room, by-entry, unfit, step-known}
use Rattle.checker.proofs.Offered.step_by.Goals as goal
use Rattle.checker.proofs.Offered.step_by.Goals.{After-end_of-y, After-mark_fits-fits, After-same_nodes, Else-not-same_nodes, Start}

abbrev known : (c : Start) → Marked c.args.self.words.now c.args.before c.args.at c.args.mark.nodes c.args.mark.end
known c = c.requires.marked

front : (c : After-same_nodes) → (b : Bool) → c.same_nodes.result ≡ b → let a = c.args in same_nodes a.self.words.now a.before a.at a.mark.nodes ≡ b
front c = λ b e. sym c.same_nodes.ensures ∙ e

room : (c : Start) → let a = c.args in
    (a.before + flat_words * a.mark.nodes ≤ length a.self.words.now) × (a.at + flat_words * a.mark.nodes ≤ length a.self.words.now)
room c = let w = known c in
    front-room c.args.self.accepted.rules c.args.self.words.now c.args.before c.args.at c.args.mark.end c.args.mark.nodes w.earlier w.later w.is_e w.is_l w.mark

rule : (c : Start) → (rs : List Rule) → rule_table c.args.self.rules.now ≡ good rs
    → Found c.args.self.rules.now rs (node_of c.args.self.words.now (c.args.at + flat_words * c.args.mark.nodes)).rule.0 c.args.index
rule c = λ rs are. table-found _ rs _ _ are c.requires.nodes_value

abbrev mark : (c : Start) → AtMark c.args.self.words.now c.args.at c.args.mark.nodes (known c).later
mark c = at_mark c.args.self.words.now c.args.at c.args.mark.end c.args.mark.nodes c.args.mark.end (known c).later (known c).mark

half : (c : Else-not-same_nodes) → (rs : List Rule) → Halves rs c.args.self.words.now c.args.before c.args.at c.args.mark.nodes (known (goal.at.Else-not-same_nodes c).Start).earlier (known (goal.at.Else-not-same_nodes c).Start).later (mark (goal.at.Else-not-same_nodes c).Start)
half c =
    let above = goal.at.Else-not-same_nodes c in
    λ rs. let w = known above.Start in
    halves rs c.args.self.words.now c.args.before c.args.at c.args.mark.end c.args.mark.nodes w.earlier w.later w.is_e w.is_l w.mark
    ((front above.After-same_nodes) true c.if-not-same_nodes.false)

well-a : (c : Else-not-same_nodes) → let a = c.args in Well a.self.words.now (a.before + flat_words * a.mark.nodes)
well-a c = let h = (half c) c.args.self.accepted.rules in record { end = h.words.stop; term = _; is = h.words.term }

well-b : (c : Start) → let a = c.args in Well a.self.words.now (a.at + flat_words * a.mark.nodes)
well-b c = let x = mark c in record { end = x.words.stop; term = _; is = x.words.term }

behind : (c : After-end_of-y) → (c.end_of-x.result + flat_words * size (mark (goal.at.After-end_of-y c).Start).rest ≤ length c.args.self.words.now)
    × (c.end_of-y.result + flat_words * size (mark (goal.at.After-end_of-y c).Start).rest ≤ length c.args.self.words.now) × (c.end_of-y.result ≤ c.args.mark.end)
behind c =
    let above = goal.at.After-end_of-y c in
    let w = known above.Start in
    let rs = c.args.self.accepted.rules in
    behind-room rs c.args.self.words.now c.args.before c.args.at c.args.mark.end c.args.mark.nodes w.earlier w.later w.is_e w.is_l w.mark
    ((half above.Else-not-same_nodes) rs) c.end_of-x.result c.end_of-y.result c.end_of-x.ensures c.end_of-y.ensures

found : (c : Start) → (rs : List Rule) (are : rule_table c.args.self.rules.now ≡ good rs) → listed rs (mark c).number ≡ some ((rule c) rs are).rule
found c = λ rs are. subst (λ (n : ℕ). listed rs n ≡ some ((rule c) rs are).rule) (mark c).words.rule ((rule c) rs are).listed

count : (c : After-end_of-y) → (c.args.mark.end - c.end_of-y.result) / flat_words ≡ size (mark (goal.at.After-end_of-y c).Start).rest
count c =
    let above = goal.at.After-end_of-y c in
    let w = known above.Start in
    let rs = c.args.self.accepted.rules in
    behind-count rs c.args.self.words.now c.args.before c.args.at c.args.mark.end c.args.mark.nodes w.earlier w.later w.is_e w.is_l w.mark
    ((half above.Else-not-same_nodes) rs) c.end_of-x.result c.end_of-y.result c.end_of-x.ensures c.end_of-y.ensures

fit : (c : After-mark_fits-fits) → (f : Bool) → c.mark_fits-fits.result ≡ f → let a = c.args in
    MarkFits a.self.rules.now a.index a.self.words.now (a.before + flat_words * a.mark.nodes) (a.at + flat_words * a.mark.nodes) f
fit c = λ f e. let a = c.args in
    subst (MarkFits a.self.rules.now a.index a.self.words.now (a.before + flat_words * a.mark.nodes) (a.at + flat_words * a.mark.nodes)) e c.mark_fits-fits.ensures

said : (c : After-mark_fits-fits) → (f : Bool) (e : c.mark_fits-fits.result ≡ f) (rs : List Rule) (are : rule_table c.args.self.rules.now ≡ good rs) → f ≡ fits_by ((rule (goal.at.After-mark_fits-fits c).Start) rs are).rule (mark (goal.at.After-mark_fits-fits c).Start).way (earlier-there ((half (goal.at.After-mark_fits-fits c).Else-not-same_nodes) rs)) (later-there (mark (goal.at.After-mark_fits-fits c).Start))
said c =
    let above = goal.at.After-mark_fits-fits c in
    λ f e rs are. let h = (half above.Else-not-same_nodes) rs in
    let x = mark above.Start in
    let y = (rule above.Start) rs are in
    (fit c) f e y.rule y.said h.words.stop x.words.stop _ _ h.words.term x.words.term x.way x.number refl

pub same_nodes-requires : goal.same_nodes-requires
same_nodes-requires c =
    let above = goal.at.same_nodes-requires c in
    let w = known above.Start in record { count_in_bounds = (front-room c.args.self.accepted.rules c.args.self.words.now c.args.before c.args.at c.args.mark.end c.args.mark.nodes w.earlier w.later w.is_e w.is_l w.mark).0; count_in_bounds_2 = (front-room c.args.self.accepted.rules c.args.self.words.now c.args.before c.args.at c.args.mark.end c.args.mark.nodes w.earlier w.later w.is_e w.is_l w.mark).1 }

pub returns-then-not-same_nodes : goal.returns-then-not-same_nodes
returns-then-not-same_nodes c =
    let above = goal.at.returns-then-not-same_nodes c in
    let w = known above.Start in
    step-known c.args.self.rules.now c.args.self.words.now c.args.before c.args.at c.args.mark.nodes c.args.mark.end w false (λ rs are.
    sym (unequal rs c.args.self.words.now c.args.before c.args.at c.args.mark.end c.args.mark.nodes w.earlier w.later w.is_e w.is_l w.mark
    ((front above.After-same_nodes) false c.if-not-same_nodes.true)))

pub overflow_mul-a : goal.overflow_mul-a
overflow_mul-a c =
    let above = goal.at.overflow_mul-a c in
    omega (arith, (room above.Start).0, c.well_formed.1.0)

pub overflow_add-a : goal.overflow_add-a
overflow_add-a c =
    let above = goal.at.overflow_add-a c in
    omega (arith, (room above.Start).0, c.well_formed.1.0)

pub overflow_mul-b : goal.overflow_mul-b
overflow_mul-b c =
    let above = goal.at.overflow_mul-b c in
    omega (arith, (room above.Start).1, c.well_formed.1.0)

pub overflow_add-b : goal.overflow_add-b
overflow_add-b c =
    let above = goal.at.overflow_add-b c in
    omega (arith, (room above.Start).1, c.well_formed.1.0)

pub invariant_of-entry : goal.invariant_of-entry
invariant_of-entry c =
    let r = (rule (goal.at.invariant_of-entry c).Start) c.args.self.accepted.rules c.args.self.accepted.are in
    record { has_rule = record { rule = r.rule; said = r.said } }

pub invariant_of-both : goal.invariant_of-both
invariant_of-both c =
    let above = goal.at.invariant_of-both c in
    record { well_a = ∣ well-a above.Else-not-same_nodes ∣₁; well_b = ∣ well-b above.Start ∣₁ }

pub end_of-x-requires : goal.end_of-x-requires
end_of-x-requires c =
    let above = goal.at.end_of-x-requires c in
    (well-a above.Else-not-same_nodes)

pub end_of-y-requires : goal.end_of-y-requires
end_of-y-requires c =
    let above = goal.at.end_of-y-requires c in
    (well-b above.Start)

pub overflow_sub-mark : goal.overflow_sub-mark
overflow_sub-mark c =
    let above = goal.at.overflow_sub-mark c in
    (behind above.After-end_of-y).2

pub returns-then-fits : goal.returns-then-fits
returns-then-fits c =
    let above = goal.at.returns-then-fits c in
    let w = known above.Start in
    step-known c.args.self.rules.now c.args.self.words.now c.args.before c.args.at c.args.mark.nodes c.args.mark.end w _ (λ rs are.
    c.same_nodes-then-fits.ensures
    ∙ (ap (same_nodes c.args.self.words.now c.end_of-x.result c.end_of-y.result) (count above.After-end_of-y)
    ∙ sym (by-entry rs c.args.self.words.now c.args.before c.args.at c.args.mark.end c.args.mark.nodes w.earlier w.later w.is_e w.is_l w.mark
    ((half above.Else-not-same_nodes) rs) c.end_of-x.result c.end_of-y.result c.end_of-x.ensures c.end_of-y.ensures ((rule above.Start) rs are).rule ((found above.Start) rs are)
    ∙ ap (λ (b : Bool). b && same_nodes c.args.self.words.now c.end_of-x.result c.end_of-y.result (size (mark above.Start).rest))
    (sym ((said above.After-mark_fits-fits) true c.if-fits.true rs are)))))

pub returns-else-fits : goal.returns-else-fits
returns-else-fits c =
    let above = goal.at.returns-else-fits c in
    let w = known above.Start in
    step-known c.args.self.rules.now c.args.self.words.now c.args.before c.args.at c.args.mark.nodes c.args.mark.end w false (λ rs are.
    sym (unfit rs c.args.self.words.now c.args.before c.args.at c.args.mark.end c.args.mark.nodes w.earlier w.later w.is_e w.is_l w.mark
    ((half above.Else-not-same_nodes) rs) ((rule above.Start) rs are).rule ((found above.Start) rs are) (sym ((said above.After-mark_fits-fits) false c.if-fits.false rs are))))

pub same_nodes-requires-then-fits : goal.same_nodes-requires-then-fits
same_nodes-requires-then-fits c =
    let above = goal.at.same_nodes-requires-then-fits c in
    record { count_in_bounds = rw (count above.After-end_of-y) (behind above.After-end_of-y).0; count_in_bounds_2 = rw (count above.After-end_of-y) (behind above.After-end_of-y).1 }
