-- `text::write_marked` meets its contract: five pieces, each put behind the last.
use native.Mathlib.Omega.{arith}
use Prim.Native.Nat.{ℕ, ◌+◌, ◌≤◌}
use mathlib.Core.Path.{ap, ◌∙◌}
use mathlib.Core.List.{◌++◌}
use lib.ListN.{length, length-append}
use Rattle.model.specs.Text.{bytes, digits}
use Rattle.letters.proofs.Penned.{Penned, penned-none, penned-long, penned-more, penned-as}
use Rattle.text.specs.Nodes.{mark_by}
use Rattle.text.proofs.Counted.{mark-length}
use Rattle.text.proofs.Heads.{mark-regroup}
use Rattle.text.proofs.write_marked.Goals.{Start, After-put, After-put-2, After-put-3, After-put_number}
use Rattle.text.proofs.write_marked.Goals as goal

-- all of it fits
room : (c : Start) → c.args.pen.now.at + (4 + length c.args.name.now + length (digits c.args.rule.0)) ≤ length c.args.pen.now.room.now
room c = omega (arith, c.requires, mark-length c.args.name.now c.args.rule.0)

pub put-requires : goal.put-requires
put-requires c = omega (arith, room (goal.at.put-requires c).Start)

bracketed : (c : After-put) → Penned c.args.pen.now (bytes "(") c.put.new.self
unfolding bytes
bracketed c =
    let r = room (goal.at.After-put c).Start in
    penned-more (penned-none c.args.pen.now (omega (arith, r))) (bytes "(") (omega (arith, r)) c.put.ensures.same_reference c.put.ensures.at_after
    c.put.ensures.room_after

pub put-requires-2 : goal.put-requires-2
put-requires-2 c =
    let g = goal.at.put-requires-2 c in
    let w = bracketed g.After-put in
    omega (arith, penned-long w, c.put.ensures.at_after, room g.Start)

named : (c : After-put-2) → Penned c.args.pen.now (bytes "(" ++ c.args.name.now) c.put-2.new.self
unfolding bytes
named c =
    let g = goal.at.After-put-2 c in
    penned-more (bracketed g.After-put) c.args.name.now (omega (arith, room g.Start)) c.put-2.ensures.same_reference c.put-2.ensures.at_after
    c.put-2.ensures.room_after

pub put-requires-3 : goal.put-requires-3
put-requires-3 c =
    let g = goal.at.put-requires-3 c in
    let w = named g.After-put-2 in
    omega (arith, penned-long w, c.put.ensures.at_after, c.put-2.ensures.at_after, room g.Start)

by : (c : After-put-3) → Penned c.args.pen.now ((bytes "(" ++ c.args.name.now) ++ bytes " r") c.put-3.new.self
unfolding bytes
by c =
    let g = goal.at.After-put-3 c in
    penned-more (named g.After-put-2) (bytes " r") (omega (arith, room g.Start)) c.put-3.ensures.same_reference c.put-3.ensures.at_after
    c.put-3.ensures.room_after

pub put_number-requires : goal.put_number-requires
put_number-requires c =
    let g = goal.at.put_number-requires c in
    let w = by g.After-put-3 in
    omega (
      arith,
      penned-long w,
      c.put.ensures.at_after,
      c.put-2.ensures.at_after,
      c.put-3.ensures.at_after,
      ap (λ (k : ℕ). length (digits k)) c.from.ensures,
      room g.Start,
    )

numbered : (c : After-put_number) →
    Penned c.args.pen.now (((bytes "(" ++ c.args.name.now) ++ bytes " r") ++ digits c.from.result) c.put_number.new.self
unfolding bytes
numbered c =
    let g = goal.at.After-put_number c in
    penned-more (by g.After-put-3) (digits c.from.result)
    (omega (arith, room g.Start, ap (λ (k : ℕ). length (digits k)) c.from.ensures, length-append c.args.name.now (bytes " r"))) c.put_number.ensures.same_reference c.put_number.ensures.at_after
    c.put_number.ensures.room_after

pub put-requires-4 : goal.put-requires-4
put-requires-4 c =
    let g = goal.at.put-requires-4 c in
    let w = numbered g.After-put_number in
    omega (
      arith,
      penned-long w,
      c.put.ensures.at_after,
      c.put-2.ensures.at_after,
      c.put-3.ensures.at_after,
      c.put_number.ensures.at_after,
      ap (λ (k : ℕ). length (digits k)) c.from.ensures,
      room g.Start,
    )

pub returns : goal.returns
unfolding bytes
returns c =
    let g = goal.at.returns c in
    let n = numbered g.After-put_number in
    let w =
    penned-more n (bytes " ") {r = c.put-4.new.self}
    (omega (
      arith,
      n.ends,
      c.put.ensures.at_after,
      c.put-2.ensures.at_after,
      c.put-3.ensures.at_after,
      c.put_number.ensures.at_after,
      ap (λ (k : ℕ). length (digits k)) c.from.ensures,
      room g.Start,
    ))
    c.put-4.ensures.same_reference c.put-4.ensures.at_after c.put-4.ensures.room_after in
    let said = penned-as w (mark-regroup (bytes "(") c.args.name.now (bytes " r") (digits c.from.result) (bytes " ") ∙ ap (mark_by c.args.name.now) c.from.ensures) in
    record { same_reference = w.same; at_after = said.0; room_after = said.1 }
