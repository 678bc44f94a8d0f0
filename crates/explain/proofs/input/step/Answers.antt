-- `explain::input::step` meets its contract: what `read_on` answers, printed.
use Rattle.explain.proofs.Going.{stepped}
use Rattle.explain.proofs.input.step.Goals as goal

pub returns-clause-step : goal.returns-clause-step
returns-clause-step c =
    let a = c.args in
    stepped a.place a.memory.now.store a.piece.now a.from c.read_on-advance.new.line c.read_on-advance.new.store c.requires.ready
    c.read_on-advance.result _ c.read_on-advance.ensures.advanced c.show.ensures
