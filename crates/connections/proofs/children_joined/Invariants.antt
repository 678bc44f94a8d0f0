-- `connections::children_joined` meets its contract: the pairs of children passed are joined, so that those left decide.
use Prim.Native.Nat.{◌+◌, ◌*◌}
use Rattle.model.specs.Tables.{node_words, children_at}
use Rattle.entries.specs.Nodes.{count_in}
use Rattle.entries.proofs.Children.{Pairs}
use Rattle.connections.specs.Classes.{same_class}
use Rattle.connections.proofs.children_joined.Given as goal

abbrev pub invariant-loop-i : goal.invariant-loop-i
invariant-loop-i l =
    Pairs (same_class l.classes) l.nodes (l.a.0 * node_words + children_at) (l.b.0 * node_words + children_at) (count_in l.nodes l.a.0) l.i
