use native.Mathlib.Omega.{arith}
use Rattle.forest.proofs.Filled.{tied-begun, unknown-begun}
use Rattle.forest.proofs.put_tops.Goals as goal

pub loop-i-preserved : goal.loop-i-preserved
loop-i-preserved c =
    let l = c.loop-i in (
      rw c.put_top.ensures (tied-begun l.invariant.0 (omega arith)),
      rw c.put_top.ensures (unknown-begun l.invariant.0 (omega arith) l.invariant.1),
    )
