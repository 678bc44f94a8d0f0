-- `trees::sizes_from` meets its contract: the sizes of the children passed are added, and those left make up the rest of the sum.
use Prim.Native.Nat.{◌+◌, ◌*◌}
use mathlib.Core.Path.{◌≡◌}
use lib.ListN.{get_or}
use Rattle.model.specs.Tables.{node_words, children_at}
use Rattle.entries.specs.Nodes.{count_in}
use Rattle.trees.proofs.Filled.{Summed}
use Rattle.trees.proofs.sizes_from.Given as goal

abbrev pub invariant-loop-k : goal.invariant-loop-k
invariant-loop-k l =
    (l.count ≡ count_in l.nodes l.n.0) × Summed (λ a. get_or l.sizes a 0) l.nodes (l.n.0 * node_words + children_at) (count_in l.nodes l.n.0) l.i l.sum l.k
