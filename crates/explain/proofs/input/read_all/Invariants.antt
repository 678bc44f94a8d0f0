-- `explain::input::read_all` meets its contract: from piece to piece the store holds a state, and the run that goes on is one run from the
-- start.
use mathlib.Core.Path.{◌≡◌}
use lib.ListN.{length}
use Rattle.pieces.specs.Line.{kept_limit}
use Rattle.explain.specs.Reading.{Ready}
use Rattle.explain.proofs.Runs.{Since}
use Rattle.explain.proofs.input.read_all.Given as goal

abbrev pub invariant-loop : goal.invariant-loop
invariant-loop l =
    Ready l.at l.memory.store × Since l.initial.memory.store l.initial.memory.line l.at l.memory.store l.memory.line
    × (length l.memory.line ≡ kept_limit)
