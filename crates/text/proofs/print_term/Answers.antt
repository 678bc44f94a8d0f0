-- `text::print_term` meets its contract: 11 where the bytes are past the room; else they are written, and zeros behind them.
use native.Mathlib.Omega.{arith}
use mathlib.Core.Path.{◌≡◌, ap, ◌∙◌}
use mathlib.Core.List.{◌++◌}
use lib.ListN.{length, drop, length-append, length-drop}
use lib.Seq.{length-take-le}
use Rattle.text.proofs.Printed.{say-fine, room-refused, print-beyond, within-fits, within-long, print-within, room-filled}
use Rattle.text.proofs.print_term.Goals.{After-write_term}
use Rattle.text.proofs.print_term.Goals as goal

-- behind the text the room is as long as it was
whole : (c : After-write_term) → length (c.write_term.new.room ++ drop c.in-Some.n c.args.room.now) ≡ length c.args.room.now
whole c =
    omega (
      arith,
      length-append c.write_term.new.room (drop c.in-Some.n c.args.room.now),
      length-drop c.in-Some.n c.args.room.now,
      within-fits _ c.requires _ c.in-Some.ensures,
      within-long _ c.requires _ c.in-Some.ensures,
      ap length c.write_term.ensures,
    )

pub text_len-requires : goal.text_len-requires
text_len-requires c = say-fine _ c.requires

pub returns-in_default : goal.returns-in_default
returns-in_default c =
    let e = print-beyond _ c.requires _ c.in_default.ensures in record {
      value = c.refuse.ensures.value ∙ e;
      room_after = c.refuse.ensures.room_after ∙ room-refused _ _ _ e;
    }

pub write_term-requires : goal.write_term-requires
write_term-requires c =
    (say-fine _ c.requires, length-take-le _ _ (within-fits _ c.requires _ c.in-Some.ensures) ∙ within-long _ c.requires _ c.in-Some.ensures)

pub returns : goal.returns
returns c = record {
  value = print-within _ c.requires _ c.in-Some.ensures;
  room_after = c.fill_from.ensures ∙ room-filled _ c.requires _ c.in-Some.ensures _ c.write_term.ensures (whole (goal.at.returns c).After-write_term);
}

pub slice_bounds-write_term-end : goal.slice_bounds-write_term-end
slice_bounds-write_term-end c = omega (arith, within-fits _ c.requires _ c.in-Some.ensures)
