-- `frames::line_step` meets its contract: a line that is none is refused; else its bytes are spelled, and the frame decides.
use native.Mathlib.Omega.{arith}
use Prim.Native.Nat.{ℕ, ◌-◌, ◌*◌, ◌/◌, ◌≤◌}
use mathlib.Core.List.{List}
use mathlib.Core.Path.{refl, sym, ap, ◌∙◌}
use borrow.Rule.Slice.PartMut.{mid_of}
use lib.ListN.{length, get_or}
use Rattle.model.specs.Frame.{frame_of}
use Rattle.model.specs.Run.{turn_if, in_order}
use Rattle.frames.proofs.Ordered.{as-turn}
use Rattle.frames.proofs.Lines.{Framed, framed, no_line, a-line, of-no-line, of-line}
use Rattle.frames.proofs.line_step.Goals.{Else-not-is_line}
use Rattle.frames.proofs.line_step.Goals as goal

-- the line is one, and what it spells has room
module _ (c : Else-not-is_line) where
  is_framed : Framed c.args.digits.now
  is_framed = framed _ (a-line _ c.is_line.ensures c.if-not-is_line.false-raw)

  roomy : length c.args.digits.now ≤ 2 * length c.args.bytes.now
  roomy = omega (arith, is_framed.short, c.requires.frame_room_in_bounds)

pub returns-then-not-is_line : goal.returns-then-not-is_line
returns-then-not-is_line c s h =
    let a = c.args in
    as-turn _ _ (of-no-line s a.line a.digits.now (no_line a.digits.now c.is_line.ensures c.if-not-is_line.true-raw)) refl

pub put_bytes-requires : goal.put_bytes-requires
put_bytes-requires c = (a-line _ c.is_line.ensures c.if-not-is_line.false-raw, roomy (goal.at.put_bytes-requires c).Else-not-is_line)

pub slice_bounds-frame_step-count : goal.slice_bounds-frame_step-count
slice_bounds-frame_step-count c = omega (arith, (is_framed (goal.at.slice_bounds-frame_step-count c).Else-not-is_line).twice)

pub slice_bounds-frame_step-start : goal.slice_bounds-frame_step-start
slice_bounds-frame_step-start c = omega (arith, (is_framed (goal.at.slice_bounds-frame_step-start c).Else-not-is_line).twice)

pub slice_bounds-frame_step-end : goal.slice_bounds-frame_step-end
slice_bounds-frame_step-end c =
    let line = (goal.at.slice_bounds-frame_step-end c).Else-not-is_line in
    omega (arith, roomy line, (is_framed line).twice, c.put_bytes.auto.bytes)

pub returns : goal.returns
returns c s h =
    let a = c.args in
    let line = (goal.at.returns c).Else-not-is_line in
    as-turn _ _ (of-line s a.line a.digits.now (is_framed line) a.bytes.now (roomy line)
    ∙ ap (λ (l : List ℕ). turn_if (in_order s.kind (get_or l 0 0)) s a.line (frame_of (get_or l 0 0) (mid_of 1 (length a.digits.now / 2 - 1) l)))
    (sym c.put_bytes.ensures))
    (c.frame_step.ensures s h)
