-- `decode::put_node` meets its contract: place by place the words of the node that the frame says.
use Rattle.decode.proofs.Nodes.{Filled}
use Rattle.decode.proofs.put_node.Given as goal

abbrev pub invariant-loop-k : goal.invariant-loop-k
invariant-loop-k l = Filled l.bytes l.initial.slot l.slot l.k
