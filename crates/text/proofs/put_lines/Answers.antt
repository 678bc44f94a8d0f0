use native.Mathlib.Omega.{arith}
use Rattle.text.proofs.Lined.{lining-none, lining-length, lining-well, lining-end, lining-say, lining-room, lining-more, lining-all}
use Rattle.text.proofs.put_lines.Goals as goal

pub loop-pos-init : goal.loop-pos-init
loop-pos-init c = lining-none _ _ _ c.requires.0

pub end_of-next-requires : goal.end_of-next-requires
end_of-next-requires c = lining-well c.requires.1 c.loop-pos.invariant (omega arith)

pub shape_of-room : goal.shape_of-room
shape_of-room c = lining-length c.requires.1 c.loop-pos.invariant

pub returns : goal.returns
returns c = record { value = (lining-all c.requires.1 c.loop-pos.invariant (omega arith)).0; room_after = (lining-all c.requires.1 c.loop-pos.invariant (omega arith)).1 }

pub slice_bounds-put_line-count : goal.slice_bounds-put_line-count
slice_bounds-put_line-count c = omega (arith, (lining-end c.requires.1 c.loop-pos.invariant (omega arith) c.end_of-next.ensures).0)

pub put_line-end-requires : goal.put_line-end-requires
put_line-end-requires c =
    let h = c.loop-pos.invariant in
    (lining-say c.requires.1 h (omega arith) c.end_of-next.ensures, omega (arith, h.ends, lining-room c.requires.1 h (omega arith) c.end_of-next.ensures))

pub loop-pos-smaller : goal.loop-pos-smaller
loop-pos-smaller c =
    let g = lining-end c.requires.1 c.loop-pos.invariant (omega arith) c.end_of-next.ensures in
    omega (arith, g.0, g.1)

pub loop-pos-preserved : goal.loop-pos-preserved
loop-pos-preserved c =
    lining-more c.requires.1 c.loop-pos.invariant (omega arith) c.end_of-next.ensures c.put_line-end.ensures.value c.put_line-end.ensures.room_after

pub slice_bounds-put_line-start : goal.slice_bounds-put_line-start
slice_bounds-put_line-start c = omega (arith, (lining-end c.requires.1 c.loop-pos.invariant (omega arith) c.end_of-next.ensures).0)
