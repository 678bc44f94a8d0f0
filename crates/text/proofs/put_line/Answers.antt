-- `text::put_line` meets its contract: the text, and a line feed behind it.
use native.Mathlib.Omega.{arith}
use Prim.Native.Nat.{ℕ, ◌+◌, ◌-◌, ◌≤◌}
use mathlib.Core.Path.{◌≡◌, sym, ap, ◌∙◌}
use mathlib.Core.List.{List, [], ◌++◌}
use lib.ListN.{length, take, drop, length-take, length-drop}
use Rattle.std.specs.Prelude.{is_some}
use Rattle.model.specs.Text.{bytes}
use Rattle.text.specs.Writing.{emit}
use Rattle.text.proofs.Filled.{Wrote, wrote-part, wrote-length, wrote-more, put_as}
use Rattle.text.proofs.Printed.{say-fine, say-length, within-long}
use Rattle.text.proofs.Lined.{line-is, line-long, line-fits}
use Rattle.text.proofs.put_line.Goals.{After-unwrap, After-write_term, After-put}
use Rattle.text.proofs.put_line.Goals as goal

-- the text fits, so that its length is known
long : (c : After-unwrap) → c.unwrap.result ≡ length (emit c.args.words.now [])
long c = within-long _ c.requires.0 _ (sym c.unwrap.ensures ∙ c.text_len.ensures)

room_left : (c : After-unwrap) → c.args.at + c.unwrap.result + 1 ≤ length c.args.room.now
room_left c = omega (arith, long c, c.requires.1, line-long c.args.words.now c.requires.0, say-length c.args.words.now c.requires.0)

pub text_len-requires : goal.text_len-requires
text_len-requires c = say-fine _ c.requires.0

pub unwrap-requires : goal.unwrap-requires
unwrap-requires c = ap is_some (c.text_len.ensures ∙ line-fits c.args.words.now c.requires.0 c.args.at (length c.args.room.now) c.requires.1)

pub overflow_add-end : goal.overflow_add-end
overflow_add-end c = omega (arith, room_left (goal.at.overflow_add-end c).After-unwrap)

pub slice_bounds-write_term-end : goal.slice_bounds-write_term-end
slice_bounds-write_term-end c = omega (arith, room_left (goal.at.slice_bounds-write_term-end c).After-unwrap)

pub write_term-requires : goal.write_term-requires
write_term-requires c =
    let u = (goal.at.write_term-requires c).After-unwrap in
    (say-fine _ c.requires.0, simp (length-take, length-drop) (omega (arith, long u, room_left u)))

-- the text in its place, and then the line
text : (c : After-write_term) →
    Wrote c.args.room.now c.args.at c.write_term.new.room
    (take c.args.at c.args.room.now ++ (c.write_term.new.room ++ drop (c.args.at + c.unwrap.result - c.args.at) (drop c.args.at c.args.room.now)))
    (c.args.at + c.unwrap.result)
text c =
    let u = (goal.at.After-write_term c).After-unwrap in
    wrote-part c.args.room.now c.write_term.new.room c.args.at c.unwrap.result (long u ∙ ap length (sym c.write_term.ensures)) (omega (arith, room_left u))

pub put-requires : goal.put-requires
put-requires c =
    let g = goal.at.put-requires c in
    omega (arith, wrote-length (text g.After-write_term), room_left g.After-unwrap)

line : (c : After-put) → Wrote c.args.room.now c.args.at (c.write_term.new.room ++ bytes "\n") c.put.new.room c.put.result
unfolding bytes
line c =
    let g = goal.at.After-put c in
    wrote-more (text g.After-write_term) (bytes "\n") (omega (arith, room_left g.After-unwrap)) c.put.ensures.value c.put.ensures.room_after

pub shape_of-room : goal.shape_of-room
shape_of-room c = wrote-length (line (goal.at.shape_of-room c).After-put)

pub returns : goal.returns
returns c =
    let l = line (goal.at.returns c).After-put in
    let put =
    put_as c.args.room.now c.args.at (ap (λ (x : List ℕ). x ++ bytes "\n") c.write_term.ensures ∙ sym (line-is c.args.words.now c.requires.0)) l.end l.is in
    record { value = put.0; room_after = put.1 }
