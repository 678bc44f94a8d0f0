use native.Mathlib.Omega.{arith}
use mathlib.Core.Path.{◌≡◌}
use Rattle.forest.proofs.Climbing.{known_more, resounded}
use Rattle.forest.proofs.settle_all.Goals as goal

pub settle-requires : goal.settle-requires
settle-requires c =
    record {
      conns = c.requires.conns;
      nodes = c.args.n;
      sounded = resounded (c.loop-i.invariant c.requires.conns _ c.requires.sounded).0;
      inside = c.loop-i-test.true;
    }

pub loop-i-preserved : goal.loop-i-preserved
loop-i-preserved c =
    λ cs old s.
    let k = c.loop-i.invariant cs old s in
    let w = c.settle.ensures cs _ old k.0 c.loop-i-test.true in
    (w.sounded, known_more k.1 w)

pub returns : goal.returns
returns c = λ cs old s.
    let l = c.loop-i in
    let e : l.i ≡ c.args.n = omega arith in
    let k = l.invariant cs old s in
    (k.0, rw (← e) k.1)
