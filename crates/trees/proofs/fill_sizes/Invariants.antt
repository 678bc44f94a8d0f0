-- `trees::fill_sizes` meets its contract: the sizes of the nodes passed are written, each from those before it.
use Prim.Native.Nat.{◌/◌}
use mathlib.Core.Path.{◌≡◌}
use lib.ListN.{length}
use Rattle.model.specs.Tables.{node_words}
use Rattle.entries.specs.Nodes.{nodes_of}
use Rattle.trees.specs.Sizes.{filled_sizes}
use Rattle.trees.proofs.fill_sizes.Given as goal

abbrev pub invariant-loop-i : goal.invariant-loop-i
invariant-loop-i l = (l.n ≡ length l.nodes.words.now / node_words) × (l.sizes ≡ filled_sizes (nodes_of l.nodes.words.now) l.i l.initial.sizes)
