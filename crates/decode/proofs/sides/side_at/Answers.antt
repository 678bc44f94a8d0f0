use native.Mathlib.Omega.{arith}
use mathlib.Core.Path.{◌∙◌}
use Rattle.decode.proofs.Found.{walk_start, walk-over, walk_none, walk-fits, walk_more, walk-done}
use Rattle.decode.proofs.sides.side_at.Goals as goal

pub loop-pending-init : goal.loop-pending-init
loop-pending-init c = walk_start _ _ c.requires

pub returns-then-n-ge-ITEM_LIMIT : goal.returns-then-n-ge-ITEM_LIMIT
returns-then-n-ge-ITEM_LIMIT c = walk-over c.loop-pending.invariant c.loop-pending-test.true c.if-n-ge-ITEM_LIMIT.true

pub part_at-requires : goal.part_at-requires
part_at-requires c = c.loop-pending.invariant.within

pub returns-in_err-part : goal.returns-in_err-part
returns-in_err-part c =
    c.from_residual.ensures ∙ walk_none c.loop-pending.invariant c.loop-pending-test.true c.if-n-ge-ITEM_LIMIT.false c.in_err-part.ensures

pub overflow_add-pos : goal.overflow_add-pos
overflow_add-pos c =
    omega (arith, (walk-fits c.loop-pending.invariant c.loop-pending-test.true c.if-n-ge-ITEM_LIMIT.false _ c.in_ok-part.ensures).0)

pub overflow_add-pending : goal.overflow_add-pending
overflow_add-pending c =
    let fits = walk-fits c.loop-pending.invariant c.loop-pending-test.true c.if-n-ge-ITEM_LIMIT.false _ c.in_ok-part.ensures in
    omega (arith, fits.1, c.from.ensures, c.loop-pending.invariant.slow, c.loop-pending.invariant.few)

pub loop-pending-preserved : goal.loop-pending-preserved
loop-pending-preserved c =
    walk_more c.loop-pending.invariant c.loop-pending-test.true c.if-n-ge-ITEM_LIMIT.false _ c.in_ok-part.ensures _ c.from.ensures

pub returns : goal.returns
returns c = walk-done c.loop-pending.invariant (omega arith)
