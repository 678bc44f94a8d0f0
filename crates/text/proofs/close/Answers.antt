use borrow.Author.Rules.{rules}
use native.Mathlib.Omega.{arith}
use mathlib.Core.Path.{◌≡◌}
use lib.ListN.{length}
use Rattle.text.proofs.Filled.{filling-length, closing-none, closing-more, closing-stops, closing-all}
use Rattle.text.proofs.close.Goals as goal

pub loop-i-init : goal.loop-i-init
loop-i-init c = (search rules, closing-none _ _ _ c.requires.0 c.requires.1)

pub overflow_add-top : goal.overflow_add-top
overflow_add-top c = omega (arith, c.loop-i.invariant.0)

pub bounds-room-top : goal.bounds-room-top
bounds-room-top c =
    let long : length c.loop-i.room ≡ length c.args.room.now = filling-length c.loop-i.invariant.1.fills in
    omega (arith, c.loop-i.invariant.0, long)

pub shape_of-room-then-room-top-ne0 : goal.shape_of-room-then-room-top-ne0
shape_of-room-then-room-top-ne0 c =
    let long : length c.loop-i.room ≡ length c.args.room.now = filling-length c.loop-i.invariant.1.fills in
    long

pub returns-then-room-top-ne0 : goal.returns-then-room-top-ne0
returns-then-room-top-ne0 c = record { value = (closing-stops c.requires.0 c.loop-i.invariant.1 (omega (arith, c.loop-i.invariant.0)) c.if-room-top-ne0.true).0; room_after = (closing-stops c.requires.0 c.loop-i.invariant.1 (omega (arith, c.loop-i.invariant.0)) c.if-room-top-ne0.true).1 }

pub overflow_add-room : goal.overflow_add-room
overflow_add-room c = omega (arith, c.loop-i.invariant.0, c.requires.0)

pub bounds-room-at : goal.bounds-room-at
bounds-room-at c =
    let long : length c.loop-i.room ≡ length c.args.room.now = filling-length c.loop-i.invariant.1.fills in
    omega (arith, c.loop-i.invariant.0, c.requires.0, long)

pub loop-i-preserved : goal.loop-i-preserved
loop-i-preserved c =
    (c.loop-i.invariant.0, closing-more c.requires.0 c.loop-i.invariant.1 (omega (arith, c.loop-i.invariant.0)) c.if-room-top-ne0.false)

pub shape_of-room : goal.shape_of-room
shape_of-room c =
    let long : length c.loop-i.room ≡ length c.args.room.now = filling-length c.loop-i.invariant.1.fills in
    long

pub returns : goal.returns
returns c = record { value = omega (arith, (closing-all c.requires.0 c.loop-i.invariant.1 (omega (arith, c.loop-i.invariant.0))).0); room_after = (closing-all c.requires.0 c.loop-i.invariant.1 (omega (arith, c.loop-i.invariant.0))).1 }
