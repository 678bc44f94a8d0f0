-- `reports::field` meets its contract: the number is put behind the name.
use native.Mathlib.Omega.{arith}
use Rattle.model.specs.Text.{digits}
use Rattle.letters.proofs.Penned.{Penned, penned-none, penned-long, penned-more, penned-as}
use mathlib.Core.Path.{refl}
use Rattle.reports.proofs.Fields.{number_fits}
use Rattle.reports.proofs.field.Goals.{After-put}
use Rattle.reports.proofs.field.Goals as goal

named : (c : After-put) → Penned c.args.pen.now c.args.a.now c.put.new.self
named c =
    penned-more (penned-none c.args.pen.now (omega arith)) c.args.a.now (omega arith) c.put.ensures.same_reference c.put.ensures.at_after
    c.put.ensures.room_after

pub put_number-requires : goal.put_number-requires
put_number-requires c =
    let p = named (goal.at.put_number-requires c).After-put in
    omega (arith, penned-long p, p.ends, number_fits c.args.n (omega arith))

pub returns : goal.returns
returns c =
    let w =
    penned-more (named (goal.at.returns c).After-put) (digits c.args.n) {r = c.put_number.new.self} (omega (arith, number_fits c.args.n (omega arith)))
    c.put_number.ensures.same_reference c.put_number.ensures.at_after c.put_number.ensures.room_after in
    let said = penned-as w refl in
    record { same_reference = w.same; at_after = said.0; room_after = said.1 }
