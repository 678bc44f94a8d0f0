use native.Mathlib.Omega.{arith}
use mathlib.Core.Path.{sym}
use Rattle.rule_table.proofs.Sides.{side-long, walk_start, walk-over, walk-done, walk-variable, walk-operator, walk-outside}
use Rattle.rule_table.proofs.is_side.Goals.{in-Variable, in-Operator}
use Rattle.rule_table.proofs.is_side.Goals as goal

pub returns-then-items-gt-ITEM_LIMIT : goal.returns-then-items-gt-ITEM_LIMIT
returns-then-items-gt-ITEM_LIMIT c = side-long _ _ _ (omega arith)

pub loop-k-init : goal.loop-k-init
loop-k-init c = walk_start _ _ _ (omega arith) c.requires

pub returns-then-pending-eq0 : goal.returns-then-pending-eq0
returns-then-pending-eq0 c = walk-over _ _ _ _ _ c.loop-k.invariant c.loop-k-test.true c.if-pending-eq0.true

pub returns-in_default : goal.returns-in_default
returns-in_default c = walk-outside _ _ _ _ _ c.loop-k.invariant (sym c.in_default.ensures) (omega arith) (omega arith)

pub returns : goal.returns
returns c = walk-done _ _ _ _ _ c.loop-k.invariant (omega arith)

pub loop-k-preserved : goal.loop-k-preserved
loop-k-preserved c =
    let l = c.loop-k in
    elim c.match-item.branch [
      | in-Variable w ↦ rw w.pending-is (walk-variable _ _ _ _ _ l.invariant w.in-Variable.field-0 (cc) (omega arith) (omega arith))
      | in-Operator w ↦ rw (w.pending-is, w.from.ensures) (walk-operator _ _ _ _ _ l.invariant w.in-Operator.field-0 w.in-Operator.count (cc) (omega arith) (omega arith))
    ]
