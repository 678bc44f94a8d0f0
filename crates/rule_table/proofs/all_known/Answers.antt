use native.Mathlib.Omega.{arith}
use Rattle.rule_table.proofs.Passes.{checking-known, checking-unknown, checking-other, checking-done}
use Rattle.rule_table.proofs.all_known.Goals as goal
use Rattle.rule_table.proofs.all_known.Goals.{in-Some+else-not-on-x, in_default}

pub returns-then-not-on-x : goal.returns-then-not-on-x
returns-then-not-on-x c = checking-unknown _ _ _ _ _ c.loop-k.invariant _ c.in-Some.ensures c.if-not-on-x.true (omega arith)

pub loop-k-preserved : goal.loop-k-preserved
loop-k-preserved c =
    let l = c.loop-k in
    elim c.match-held.branch [
      | in-Some+else-not-on-x w ↦ checking-known _ _ _ _ _ l.invariant _ w.in-Some.ensures w.if-not-on-x.false (omega arith)
      | in_default w ↦ checking-other _ _ _ _ _ l.invariant w.in_default.ensures (omega arith)
    ]

pub returns : goal.returns
returns c = checking-done _ _ _ _ _ c.loop-k.invariant (omega arith)
