use native.Mathlib.Omega.{arith}
use Rattle.terms.proofs.SameNodes.{nodes-next, nodes-off, nodes-done}
use Rattle.terms.proofs.same_nodes.Goals as goal

pub returns-then-not-same_head : goal.returns-then-not-same_head
returns-then-not-same_head c =
    let a = c.args in
    nodes-off a.words.now a.i a.j a.count c.loop-k.k (omega arith) c.loop-k.invariant cc

pub loop-k-preserved : goal.loop-k-preserved
loop-k-preserved c =
    let a = c.args in
    nodes-next a.words.now a.i a.j a.count c.loop-k.k (omega arith) c.loop-k.invariant cc

pub returns : goal.returns
returns c =
    let a = c.args in
    nodes-done a.words.now a.i a.j a.count c.loop-k.k (omega arith) c.loop-k.invariant
