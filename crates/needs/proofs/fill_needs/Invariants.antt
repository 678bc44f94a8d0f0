-- `needs::fill_needs` meets its contract: what the connections passed append is written, each from those before it.
use mathlib.Core.Path.{◌≡◌}
use lib.ListN.{length}
use Rattle.model.specs.Limits.{node_limit}
use Rattle.entries.specs.Nodes.{nodes_of}
use Rattle.needs.specs.Needs.{Needs}
use Rattle.needs.proofs.fill_needs.Given as goal

abbrev pub invariant-loop-age : goal.invariant-loop-age
invariant-loop-age l =
    (length l.appended.ups ≡ node_limit) × (length l.appended.downs ≡ node_limit) × Needs (nodes_of l.lent.nodes.words.now) l.lent.conns.now l.appended.ups l.appended.downs l.age
