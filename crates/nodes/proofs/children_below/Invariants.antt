-- `nodes::children_below` meets its contract: the children passed are below the node, so that those left decide.
use Prim.Native.Nat.{◌+◌, ◌*◌}
use Rattle.model.specs.Tables.{node_words, children_at}
use Rattle.entries.proofs.Children.{Lower}
use Rattle.entries.specs.Nodes.{count_in}
use Rattle.nodes.proofs.children_below.Given as goal

abbrev pub invariant-loop-child : goal.invariant-loop-child
invariant-loop-child l = Lower l.n l.nodes (l.n * node_words + children_at) (count_in l.nodes l.n) l.child-index
