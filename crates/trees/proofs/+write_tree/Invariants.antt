-- `trees::write_tree` meets its contract: the children passed are written behind the root. A child's number is below its node's.
use mathlib.Core.Path.{◌≡◌}
use Rattle.entries.specs.Nodes.{count_in}
use Rattle.trees.proofs.Grown.{Grown}
use Rattle.trees.proofs.+write_tree.Given as goal

abbrev pub decreases-write_tree : goal.decreases-write_tree
decreases-write_tree l = l.n.0

abbrev pub invariant-loop-i : goal.invariant-loop-i
invariant-loop-i l = (l.count ≡ count_in l.nodes.words.now l.n.0) × Grown l.nodes.words.now l.n.0 l.initial.area l.at l.area l.end l.i
