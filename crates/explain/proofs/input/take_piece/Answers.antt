use native.Mathlib.Omega.{arith}
use mathlib.Core.Path.{sym, subst}
use Rattle.std.specs.declared.ops.ControlFlow.{ControlFlow}
use Rattle.reader.specs.declared.Place.{Place}
use Rattle.reader.specs.Fold.{here}
use Rattle.explain.specs.declared.input.Outcome.{Outcome}
use Rattle.explain.specs.Pieces.{PieceTaken}
use Rattle.explain.proofs.Chains.{Longer, through-ready, chain-on, chain-end}
use Rattle.explain.proofs.input.take_piece.Goals.{In_ok-next}
use Rattle.explain.proofs.input.take_piece.Goals as goal

-- a step that goes on makes the chain longer
longer : (c : In_ok-next) →
    Longer c.args.piece.now c.args.place c.args.memory.now.store c.args.memory.now.line c.loop-from.from c.in_ok-next.next c.step.new.memory.store
    c.step.new.memory.line c.in_ok-next.to
longer c =
    chain-on c.loop-from.invariant.0 c.requires (omega arith) _ _ c.step.result c.step.ensures.step _ _ c.in_ok-next.was c.step.ensures.line_after
    c.loop-from-test.true

pub loop-from-init : goal.loop-from-init
loop-from-init c = (here, omega arith)

pub step-requires-clause-ready : goal.step-requires-clause-ready
step-requires-clause-ready c = (through-ready c.loop-from.invariant.0 c.requires (omega arith)).0

pub returns-in_err-next : goal.returns-in_err-next
returns-in_err-next c =
    let a = c.args in
    subst (λ (r : ControlFlow Outcome Place). PieceTaken a.place a.memory.now a.piece.now r c.step.new.memory) (sym c.from_residual.ensures)
    (chain-end c.loop-from.invariant.0 c.requires (omega arith) c.step.new.memory.line c.step.new.memory.store c.step.result c.step.ensures.step _ c.in_err-next.was
    c.step.ensures.line_after)

pub loop-from-smaller : goal.loop-from-smaller
loop-from-smaller c = let more = longer (goal.at.loop-from-smaller c).In_ok-next in omega (arith, more.farther)

pub loop-from-preserved : goal.loop-from-preserved
loop-from-preserved c = let more = longer (goal.at.loop-from-preserved c).In_ok-next in (more.chain, more.within)
