-- `reports::one` meets its contract: a line feed is put behind the field.
use native.Mathlib.Omega.{arith}
use mathlib.Core.List.{◌++◌}
use lib.ListN.{length-append}
use Rattle.model.specs.Text.{bytes, digits}
use Rattle.letters.proofs.Penned.{Penned, penned-none, penned-long, penned-more, penned-as}
use Rattle.reports.proofs.Fields.{number_fits, one-grown}
use Rattle.reports.proofs.one.Goals.{After-field}
use Rattle.reports.proofs.one.Goals as goal

named : (c : After-field) → Penned c.args.pen.now (c.args.a.now ++ digits c.args.n) c.field.new.pen
named c =
    penned-more (penned-none c.args.pen.now (omega arith)) (c.args.a.now ++ digits c.args.n)
    (omega (arith, length-append c.args.a.now (digits c.args.n), number_fits c.args.n (omega arith))) c.field.ensures.same_reference
    c.field.ensures.at_after c.field.ensures.room_after

pub put-requires : goal.put-requires
put-requires c =
    let p = named (goal.at.put-requires c).After-field in
    omega (arith, penned-long p, p.ends, length-append c.args.a.now (digits c.args.n), number_fits c.args.n (omega arith))

pub returns : goal.returns
unfolding bytes
returns c =
    let w =
    penned-more (named (goal.at.returns c).After-field) (bytes "\n") {r = c.put.new.self}
    (omega (arith, length-append c.args.a.now (digits c.args.n), number_fits c.args.n (omega arith))) c.put.ensures.same_reference
    c.put.ensures.at_after c.put.ensures.room_after in
    let said = penned-as w (one-grown c.args.a.now c.args.n) in
    record { same_reference = w.same; at_after = said.0; room_after = said.1 }
