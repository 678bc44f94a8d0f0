use native.Mathlib.Omega.{arith}
use Rattle.explain.proofs.Going.{ready-first}
use Rattle.explain.proofs.Runs.{since-first, on-ready, on-since, over}
use Rattle.explain.proofs.input.read_all.Goals as goal

pub loop-init : goal.loop-init
loop-init c =
    let m = c.args.memory.now in
    (ready-first m.store _ c.first-at.ensures, since-first m.store m.line _ c.first-at.ensures, omega arith)

pub returns-in-Break : goal.returns-in-Break
returns-in-Break c =
    let i = c.loop.invariant in
    over c.loop.memory i.1 c.read_piece.new.piece c.read_piece.new.memory c.read_piece.result c.read_piece.ensures _ c.in-Break.is

pub loop-preserved : goal.loop-preserved
loop-preserved c =
    let i = c.loop.invariant in
    let e = c.in-Continue.is in
    let ready = on-ready c.loop.memory i.1 c.read_piece.new.piece c.read_piece.new.memory c.read_piece.result c.read_piece.ensures i.0 i.2 _ e in (
      ready.0,
      on-since c.loop.memory i.1 c.read_piece.new.piece c.read_piece.new.memory c.read_piece.result c.read_piece.ensures _ e,
      ready.1,
    )
