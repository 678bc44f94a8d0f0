use native.Mathlib.Omega.{arith}
use Prim.Native.Nat.{◌+◌, ◌*◌}
use mathlib.Core.Path.{◌≡◌, subst}
use Rattle.model.specs.Limits.{flat_words}
use Rattle.text.proofs.Heads.{node-short}
use Rattle.text.proofs.Sized.{Sizing, fine-room, fine-end, sizing-none, sizing-more, sizing-beyond, sizing-all}
use Rattle.text.proofs.text_len.Goals as goal

pub loop-i-init : goal.loop-i-init
loop-i-init c = sizing-none _ _ c.requires

pub node_at-requires : goal.node_at-requires
node_at-requires c = fine-room _ _ c.loop-i.invariant.fine (omega arith)

pub overflow_add-n : goal.overflow_add-n
overflow_add-n c =
    let n = c.node_at.result in
    omega (arith, c.node_len.ensures, node-short n.op.0 n.count n.mark n.rule.0, c.loop-i.invariant.first)

pub overflow_sub-limit : goal.overflow_sub-limit
overflow_sub-limit c = omega (arith, c.loop-i.invariant.held)

pub returns-then-limit-used : goal.returns-then-limit-used
returns-then-limit-used c =
    sizing-beyond c.loop-i.invariant (omega arith) c.node_at.ensures c.node_len.ensures (omega arith)

pub overflow_add-used : goal.overflow_add-used
overflow_add-used c = omega (arith, c.loop-i.invariant.held)

pub loop-i-preserved : goal.loop-i-preserved
loop-i-preserved c =
    let e : flat_words * c.loop-i.i + flat_words ≡ flat_words * (c.loop-i.i + 1) = omega arith in
    subst (Sizing _ _ _ _) e (sizing-more c.loop-i.invariant (omega arith) c.node_at.ensures c.node_len.ensures (omega arith))

pub returns : goal.returns
returns c = sizing-all c.loop-i.invariant (fine-end _ _ c.loop-i.invariant.fine (omega arith))
