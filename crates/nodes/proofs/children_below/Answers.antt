use native.Mathlib.Omega.{arith}
use Prim.Native.Nat.{◌+◌, ◌*◌}
use Rattle.laws.proofs.Lent.{lent-at}
use Rattle.entries.proofs.Children.{lower-all, lower-next, lower-off, lower-done}
use Rattle.nodes.proofs.children_below.Goals as goal

pub loop-child-init : goal.loop-child-init
loop-child-init c = lower-all _ _ _ _

pub returns-then-n-from : goal.returns-then-n-from
returns-then-n-from c =
    let there = lent-at c.args.nodes.now (c.args.n * 10 + 2) c.from-count.result c.loop-child.child-index (omega arith) in
    lower-off c.loop-child.invariant (omega (arith, c.word.ensures, c.from-count.ensures)) (omega (arith, c.from.ensures, there))

pub loop-child-preserved : goal.loop-child-preserved
loop-child-preserved c =
    let there = lent-at c.args.nodes.now (c.args.n * 10 + 2) c.from-count.result c.loop-child.child-index (omega arith) in
    lower-next c.loop-child.invariant (omega arith) (omega (arith, c.from.ensures, there))

pub returns : goal.returns
returns c = lower-done c.loop-child.invariant (omega (arith, c.word.ensures, c.from-count.ensures))
