use native.Mathlib.Omega.{arith}
use Rattle.decode.proofs.Asked.{holds-whole, sixing-start, sixing-at, sixing-length, sixing-room, sixing-more, sixing-done}
use Rattle.decode.proofs.put_words.Goals as goal

pub loop-k-init : goal.loop-k-init
loop-k-init c = sixing-start (holds-whole _ _ c.requires)

pub put_six-requires : goal.put_six-requires
put_six-requires c = sixing-room (holds-whole _ _ c.requires) c.loop-k.invariant (omega (arith, sixing-length (holds-whole _ _ c.requires) c.loop-k.invariant))

pub loop-k-preserved : goal.loop-k-preserved
loop-k-preserved c =
    let w = holds-whole _ _ c.requires in
    sixing-at (omega arith) (omega arith)
    (sixing-more w c.loop-k.invariant (omega (arith, sixing-length w c.loop-k.invariant)) c.put_six.ensures)

pub shape_of-area : goal.shape_of-area
shape_of-area c = sixing-length (holds-whole _ _ c.requires) c.loop-k.invariant

pub returns : goal.returns
returns c =
    let w = holds-whole _ _ c.requires in
    sixing-done w c.loop-k.invariant (omega (arith, w.words, sixing-length w c.loop-k.invariant))
