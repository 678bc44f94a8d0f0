use native.Mathlib.Omega.{arith}
use mathlib.Core.Path.{◌≡◌, sym, ◌∙◌}
use lib.ListN.{drop}
use Rattle.std.proofs.Common.{Some}
use Rattle.decode.specs.Sides.{part_of}
use Rattle.decode.proofs.Written.{writing_start, writing-at, writing-length, writing-done, writing-fits, writing_more, some-part}
use Rattle.decode.proofs.sides.put_items.Goals.{After-unwrap-part}
use Rattle.decode.proofs.sides.put_items.Goals as goal

pub loop-k-init : goal.loop-k-init
loop-k-init c = writing-at (omega arith) (omega arith) (writing_start _ _ _ _ _ c.requires.0)

pub part_at-requires : goal.part_at-requires
part_at-requires c = c.loop-k.invariant.within

pub unwrap-part-requires : goal.unwrap-part-requires
unwrap-part-requires c = some-part c.requires.1 c.requires.2 c.loop-k.invariant (omega arith) c.part_at.ensures

-- the item that is read
read : (c : After-unwrap-part) → Some c.unwrap-part.result ≡ part_of (drop c.loop-k.pos c.args.bytes.now)
read c = sym c.unwrap-part.ensures ∙ c.part_at.ensures

pub overflow_add-pos : goal.overflow_add-pos
overflow_add-pos c =
    omega (arith, writing-fits c.requires.1 c.requires.2 c.loop-k.invariant (omega arith) _ (read (goal.at.overflow_add-pos c).After-unwrap-part))

pub loop-k-preserved : goal.loop-k-preserved
loop-k-preserved c =
    writing-at (omega arith) (omega arith)
    (writing_more c.requires.1 c.requires.2 c.loop-k.invariant (omega arith) _ (read (goal.at.loop-k-preserved c).After-unwrap-part))

pub shape_of-slot : goal.shape_of-slot
shape_of-slot c = writing-length c.requires.1 c.requires.2 c.loop-k.invariant

pub returns : goal.returns
returns c = writing-done c.requires.1 c.requires.2 c.loop-k.invariant (omega arith)
