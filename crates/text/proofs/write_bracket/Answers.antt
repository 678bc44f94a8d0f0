-- `text::write_bracket` meets its contract, by the count.
use native.Mathlib.Omega.{arith}
use mathlib.Core.Path.{refl, sym, ap}
use lib.ListN.{length}
use Rattle.model.specs.Text.{bytes}
use Rattle.text.proofs.Heads.{bracket-none, bracket-some}
use Rattle.text.proofs.Filled.{put-none, put_as}
use Rattle.text.proofs.write_bracket.Goals as goal

pub put-requires : goal.put-requires
unfolding bytes
put-requires c = omega (arith, c.requires, ap length (bracket-some c.args.count c.if-count-ne0.true))

pub returns-then-count-ne0 : goal.returns-then-count-ne0
unfolding bytes
returns-then-count-ne0 c =
    let p = c.args.pen.now in
    let e = c.put.ensures in
    let said = put_as p.room.now p.at (sym (bracket-some c.args.count c.if-count-ne0.true)) e.at_after e.room_after in
    record { same_reference = e.same_reference; at_after = said.0; room_after = said.1 }

pub returns-else-count-ne0 : goal.returns-else-count-ne0
returns-else-count-ne0 c =
    let p = c.args.pen.now in
    let said = put-none p.room.now p.at (bracket-none c.if-count-ne0.false) in
    record { same_reference = refl; at_after = said.0; room_after = said.1 }
