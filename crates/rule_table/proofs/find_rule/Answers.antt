use native.Mathlib.Omega.{arith}
use mathlib.Core.Path.{sym, ◌∙◌}
use Rattle.std.proofs.lemmas.Bool.{eqb-true, eqb-false}
use Rattle.rule_table.proofs.Entries.{place_here, place-older, place_none}
use Rattle.rule_table.proofs.find_rule.Goals as goal

pub returns-then-eq : goal.returns-then-eq
returns-then-eq c =
    place_here c.args.rules.now c.loop-i.i c.args.number.0 (omega arith) (eqb-true _ _ (sym c.eq.ensures ∙ c.if-eq.true)) ∙ c.loop-i.invariant

pub loop-i-preserved : goal.loop-i-preserved
loop-i-preserved c =
    place-older c.args.rules.now c.loop-i.i c.args.number.0 (omega arith) (eqb-false _ _ (sym c.eq.ensures ∙ c.if-eq.false)) ∙ c.loop-i.invariant

pub returns : goal.returns
returns c = place_none c.args.rules.now c.loop-i.i c.args.number.0 (omega arith) ∙ c.loop-i.invariant
