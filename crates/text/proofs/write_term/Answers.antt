use native.Mathlib.Omega.{arith}
use Prim.Native.Nat.{ℕ, ◌+◌, ◌*◌}
use mathlib.Core.Path.{◌≡◌, subst, ◌∙◌}
use mathlib.Core.List.{[]}
use Rattle.model.specs.Limits.{flat_words}
use Rattle.text.specs.Writing.{emit}
use Rattle.text.proofs.Sized.{fine-room, fine-end}
use Rattle.text.proofs.Written.{Writing, writing-none, turn-apart, turn-ready, turn-few, turn-fits, turn, writing-all}
use Rattle.text.proofs.write_term.Goals as goal

pub loop-i-init : goal.loop-i-init
loop-i-init c = writing-none _ _ c.requires.0 c.requires.1

pub close-closed-requires : goal.close-closed-requires
close-closed-requires c = (c.loop-i.invariant.apart, c.loop-i.invariant.inside)

pub overflow_add-at : goal.overflow_add-at
overflow_add-at c =
    let t = turn-apart c.loop-i.invariant (omega arith) c.close-closed.ensures.value c.close-closed.ensures.room_after c.close-closed.auto.room in
    omega (arith, t.0, t.1)

pub overflow_add-top : goal.overflow_add-top
overflow_add-top c =
    let t = turn-apart c.loop-i.invariant (omega arith) c.close-closed.ensures.value c.close-closed.ensures.room_after c.close-closed.auto.room in
    omega (arith, t.1)

pub node_at-node-requires : goal.node_at-node-requires
node_at-node-requires c = fine-room _ _ c.loop-i.invariant.fine (omega arith)

pub open_node-ends-requires : goal.open_node-ends-requires
open_node-ends-requires c =
    let h = c.loop-i.invariant in
    let kept = c.close-closed.auto.room in
    let t = turn-apart h (omega arith) c.close-closed.ensures.value c.close-closed.ensures.room_after kept in record {
      at_le_top = (t.0, t.1, turn-ready h (omega arith) c.close-closed.ensures.value c.close-closed.ensures.room_after kept, turn-few h (omega arith) c.close-closed.ensures.value c.close-closed.ensures.room_after kept c.node_at-node.ensures);
      room_in_bounds = turn-fits h (omega arith) c.close-closed.ensures.value c.close-closed.ensures.room_after kept c.node_at-node.ensures;
    }

pub loop-i-preserved : goal.loop-i-preserved
loop-i-preserved c =
    let e : flat_words * c.loop-i.i + flat_words ≡ flat_words * (c.loop-i.i + 1) = omega arith in
    subst (λ (pos : ℕ). Writing c.args.words.now (emit c.args.words.now []) c.open_node-ends.new.room pos c.open_node-ends.result.at c.open_node-ends.result.top) e
    (turn c.loop-i.invariant (omega arith) c.close-closed.ensures.value c.close-closed.ensures.room_after c.close-closed.auto.room c.node_at-node.ensures
    c.open_node-ends.auto.room c.open_node-ends.ensures)

pub fill_from-requires : goal.fill_from-requires
fill_from-requires c = let h = c.loop-i.invariant in omega (arith, h.apart, h.inside)

pub shape_of-room : goal.shape_of-room
shape_of-room c = omega (arith, c.fill_from.auto.room, c.loop-i.invariant.long, c.requires.1)

pub returns : goal.returns
returns c = c.fill_from.ensures ∙ writing-all c.loop-i.invariant (fine-end _ _ c.loop-i.invariant.fine (omega arith))
