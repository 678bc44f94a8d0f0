-- `text::write_head` meets its contract: the mark, the bracket, the operator.
use native.Mathlib.Omega.{arith}
use Prim.Native.Nat.{ℕ, ◌+◌, ◌≤◌}
use mathlib.Core.Path.{ap, ◌∙◌}
use mathlib.Core.List.{◌++◌}
use lib.ListN.{length}
use Rattle.model.specs.Text.{bytes, digits}
use Rattle.letters.proofs.Penned.{Penned, penned-none, penned-long, penned-more, penned-as}
use Rattle.text.specs.Nodes.{mark_head, bracket, head}
use Rattle.text.proofs.Heads.{head-length, head-regroup}
use Rattle.text.proofs.write_head.Goals.{Start, After-write_mark, After-write_bracket, After-put}
use Rattle.text.proofs.write_head.Goals as goal

-- all of it fits
room : (c : Start) →
    c.args.pen.now.at + (length (mark_head c.args.n.mark c.args.n.rule.0) + length (bracket c.args.n.count) + 1 + length (digits c.args.n.op.0))
    ≤ length c.args.pen.now.room.now
room c = let n = c.args.n in omega (arith, c.requires, head-length n.op.0 n.count n.mark n.rule.0)

pub write_mark-requires : goal.write_mark-requires
write_mark-requires c = omega (arith, room (goal.at.write_mark-requires c).Start)

marked : (c : After-write_mark) → Penned c.args.pen.now (mark_head c.args.n.mark c.args.n.rule.0) c.write_mark.new.pen
marked c =
    let r = room (goal.at.After-write_mark c).Start in
    penned-more (penned-none c.args.pen.now (omega (arith, r))) (mark_head c.args.n.mark c.args.n.rule.0) (omega (arith, r))
    c.write_mark.ensures.same_reference c.write_mark.ensures.at_after c.write_mark.ensures.room_after

pub write_bracket-requires : goal.write_bracket-requires
write_bracket-requires c =
    let g = goal.at.write_bracket-requires c in
    let w = marked g.After-write_mark in
    omega (arith, penned-long w, c.write_mark.ensures.at_after, room g.Start)

bracketed : (c : After-write_bracket) →
    Penned c.args.pen.now (mark_head c.args.n.mark c.args.n.rule.0 ++ bracket c.args.n.count) c.write_bracket.new.pen
bracketed c =
    let g = goal.at.After-write_bracket c in
    penned-more (marked g.After-write_mark) (bracket c.args.n.count) (omega (arith, room g.Start)) c.write_bracket.ensures.same_reference
    c.write_bracket.ensures.at_after c.write_bracket.ensures.room_after

pub put-requires : goal.put-requires
put-requires c =
    let g = goal.at.put-requires c in
    let w = bracketed g.After-write_bracket in
    omega (arith, penned-long w, c.write_mark.ensures.at_after, c.write_bracket.ensures.at_after, room g.Start)

lettered : (c : After-put) →
    Penned c.args.pen.now ((mark_head c.args.n.mark c.args.n.rule.0 ++ bracket c.args.n.count) ++ bytes "o") c.put.new.self
unfolding bytes
lettered c =
    let g = goal.at.After-put c in
    let b = bracketed g.After-write_bracket in
    penned-more b (bytes "o") (omega (arith, b.ends, c.write_mark.ensures.at_after, c.write_bracket.ensures.at_after, room g.Start))
    c.put.ensures.same_reference c.put.ensures.at_after c.put.ensures.room_after

pub put_number-requires : goal.put_number-requires
put_number-requires c =
    let g = goal.at.put_number-requires c in
    let w = lettered g.After-put in
    omega (
      arith,
      penned-long w,
      c.write_mark.ensures.at_after,
      c.write_bracket.ensures.at_after,
      c.put.ensures.at_after,
      ap (λ (k : ℕ). length (digits k)) c.from.ensures,
      room g.Start,
    )

pub returns : goal.returns
unfolding head bytes
returns c =
    let g = goal.at.returns c in
    let l = lettered g.After-put in
    let n = c.args.n in
    let w =
    penned-more l (digits c.from.result) {r = c.put_number.new.self}
    (omega (
      arith,
      l.ends,
      c.write_mark.ensures.at_after,
      c.write_bracket.ensures.at_after,
      c.put.ensures.at_after,
      ap (λ (k : ℕ). length (digits k)) c.from.ensures,
      room g.Start,
    ))
    c.put_number.ensures.same_reference c.put_number.ensures.at_after c.put_number.ensures.room_after in
    let said = penned-as w (head-regroup (mark_head n.mark n.rule.0) (bracket n.count) (bytes "o") (digits c.from.result) ∙ ap (λ (o : ℕ). head o n.count n.mark n.rule.0) c.from.ensures) in
    record { same_reference = w.same; at_after = said.0; room_after = said.1 }
