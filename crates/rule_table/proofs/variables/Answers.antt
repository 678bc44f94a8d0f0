use native.Mathlib.Omega.{arith}
use Rattle.rule_table.proofs.Passes.{marking-variable, marking-other, marking-done}
use Rattle.rule_table.proofs.variables.Goals as goal
use Rattle.rule_table.proofs.variables.Goals.{in-Some, in_default}

pub loop-k-preserved : goal.loop-k-preserved
loop-k-preserved c =
    let l = c.loop-k in
    elim c.match-held.branch [
      | in-Some w ↦ rw w.on-is (marking-variable _ _ _ _ _ l.invariant _ w.in-Some.ensures (omega arith))
      | in_default w ↦ rw w.on-is (marking-other _ _ _ _ _ l.invariant w.in_default.ensures (omega arith))
    ]

pub returns : goal.returns
returns c = marking-done _ _ _ _ _ c.loop-k.invariant (omega arith)
