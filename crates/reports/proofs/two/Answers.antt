-- `reports::two` meets its contract: the second field is put behind the first, and a line feed behind both.
use native.Mathlib.Omega.{arith}
use Prim.Native.Nat.{◌+◌, ◌≤◌}
use mathlib.Core.List.{◌++◌}
use lib.ListN.{length, length-append}
use Rattle.model.specs.Text.{bytes, digits}
use Rattle.letters.proofs.Penned.{Penned, penned-none, penned-long, penned-more, penned-as}
use Rattle.reports.specs.Reports.{number_room}
use Rattle.reports.proofs.Fields.{number_fits, two-grown}
use Rattle.reports.proofs.two.Goals.{Start, After-field, After-field-2}
use Rattle.reports.proofs.two.Goals as goal

-- a field takes no more than its name and the room for a number
left : (c : Start) → length (c.args.a.now ++ digits c.args.n) ≤ length c.args.a.now + number_room
left c = omega (arith, length-append c.args.a.now (digits c.args.n), number_fits c.args.n (omega arith))

right : (c : Start) → length (c.args.b.now ++ digits c.args.m) ≤ length c.args.b.now + number_room
right c = omega (arith, length-append c.args.b.now (digits c.args.m), number_fits c.args.m (omega arith))

first : (c : After-field) → Penned c.args.pen.now (c.args.a.now ++ digits c.args.n) c.field.new.pen
first c =
    penned-more (penned-none c.args.pen.now (omega arith)) (c.args.a.now ++ digits c.args.n)
    (omega (arith, left (goal.at.After-field c).Start)) c.field.ensures.same_reference c.field.ensures.at_after c.field.ensures.room_after

pub field-requires-2 : goal.field-requires-2
field-requires-2 c =
    let g = goal.at.field-requires-2 c in
    let p = first g.After-field in
    omega (arith, penned-long p, p.ends, left g.Start)

both : (c : After-field-2) → Penned c.args.pen.now ((c.args.a.now ++ digits c.args.n) ++ (c.args.b.now ++ digits c.args.m)) c.field-2.new.pen
both c =
    let g = goal.at.After-field-2 c in
    penned-more (first g.After-field) (c.args.b.now ++ digits c.args.m) (omega (arith, left g.Start, right g.Start)) c.field-2.ensures.same_reference
    c.field-2.ensures.at_after c.field-2.ensures.room_after

pub put-requires : goal.put-requires
put-requires c =
    let g = goal.at.put-requires c in
    let p = both g.After-field-2 in
    omega (arith, penned-long p, p.ends, left g.Start, right g.Start, length-append (c.args.a.now ++ digits c.args.n) (c.args.b.now ++ digits c.args.m))

pub returns : goal.returns
unfolding bytes
returns c =
    let g = goal.at.returns c in
    let w =
    penned-more (both g.After-field-2) (bytes "\n") {r = c.put.new.self}
    (omega (arith, left g.Start, right g.Start, length-append (c.args.a.now ++ digits c.args.n) (c.args.b.now ++ digits c.args.m)))
    c.put.ensures.same_reference c.put.ensures.at_after c.put.ensures.room_after in
    let said = penned-as w (two-grown c.args.a.now c.args.n c.args.b.now c.args.m) in
    record { same_reference = w.same; at_after = said.0; room_after = said.1 }
