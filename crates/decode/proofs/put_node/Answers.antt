use native.Mathlib.Omega.{arith}
use lib.ListN.{length-set}
use Rattle.layouts.specs.Words.{words_of_node}
use Rattle.decode.proofs.Slots.{nothing_put}
use Rattle.decode.proofs.Nodes.{no-head, many-children, other-count, node-says, filled-start, filled_more, filled-all}
use Rattle.decode.proofs.put_node.Goals as goal

pub returns-then-n-lt-NODE_HEAD : goal.returns-then-n-lt-NODE_HEAD
returns-then-n-lt-NODE_HEAD c =
    let p = nothing_put words_of_node c.args.slot.now _ (no-head _ c.if-n-lt-NODE_HEAD.true) in
    record { value = p.0; slot_after = p.1 }

pub returns-then-count-gt-CHILD_LIMIT : goal.returns-then-count-gt-CHILD_LIMIT
returns-then-count-gt-CHILD_LIMIT c =
    let p = nothing_put words_of_node c.args.slot.now _ (many-children _ _ (omega arith) c.from-count.ensures c.if-count-gt-CHILD_LIMIT.true) in
    record { value = p.0; slot_after = p.1 }

pub returns-then-n-from : goal.returns-then-n-from
returns-then-n-from c =
    let p =
    nothing_put words_of_node c.args.slot.now _
    (other-count _ _ (omega arith) c.from-count.ensures (λ e. c.if-n-from.true (omega (arith, e, c.from.ensures)))) in
    record { value = p.0; slot_after = p.1 }

pub bounds-slot-1 : goal.bounds-slot-1
bounds-slot-1 c = simp length-set (omega arith)

pub loop-k-init : goal.loop-k-init
loop-k-init c = filled-start _ c.args.slot.now _ _ c.requires c.word_at.ensures c.from-count.ensures

pub child_at-requires : goal.child_at-requires
child_at-requires c = λ h. omega (arith, h, c.from.ensures, c.loop-k.invariant.some)

pub loop-k-preserved : goal.loop-k-preserved
loop-k-preserved c = filled_more c.loop-k.invariant (omega (arith, c.loop-k.invariant.stored.long)) c.child_at.ensures

pub shape_of-slot : goal.shape_of-slot
shape_of-slot c = omega (arith, c.loop-k.invariant.long, c.requires)

pub returns : goal.returns
returns c =
    let says = node-says _ _ c.from-count.ensures (omega arith) (omega (arith, c.from.ensures)) in
    let p = filled-all c.loop-k.invariant (omega (arith, c.loop-k.invariant.stored.long)) says c.args.slot.now in
    record { value = p.0; slot_after = p.1 }
