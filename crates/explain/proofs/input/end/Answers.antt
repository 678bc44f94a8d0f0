-- `explain::input::end` meets its contract.
use Rattle.explain.proofs.Going.{end-within}
use native.Mathlib.Omega.{arith}
use Rattle.explain.proofs.input.end.Goals as goal

pub print-requires : goal.print-requires
print-requires c =
    end-within c.args.place.counts.kind c.args.place.line c.args.place.held c.args.room.now c.finish-count.new.room c.finish-count.result c.finish-count.ensures.value c.finish-count.ensures.room_after (omega (arith, c.requires))
