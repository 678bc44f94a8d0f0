-- `terms::same_nodes` meets its contract. The loop's invariant: what is left agrees exactly where all of it does.
-- Assumes nothing.
use Rattle.terms.proofs.SameNodes.{NodesHere}
use Rattle.terms.proofs.same_nodes.Given as goal

abbrev pub invariant-loop-k : goal.invariant-loop-k
invariant-loop-k l = NodesHere l.words l.i l.j l.count l.k
