-- `needs::words_needed` meets its contract: four words for each node of the left term and of those that the path appends.
use native.Mathlib.Omega.{arith}
use Prim.Native.Nat.{◌/◌}
use mathlib.Core.Path.{◌≡◌, ◌∙◌}
use lib.ListN.{length}
use Rattle.model.specs.Tables.{connection_words}
use Rattle.model.specs.Flat.{later_size, size_of}
use Rattle.entries.specs.Nodes.{nodes_of}
use Rattle.forest.specs.Rows.{connections_of}
use Rattle.costs.proofs.Priced.{weigh-dist}
use Rattle.trees.specs.Sizes.{held_nodes}
use Rattle.needs.proofs.Exact.{path-exact}
use Rattle.needs.proofs.words_needed.Goals as goal

pub returns : goal.returns
returns c =
    let later : let a = c.args in
    c.path_need-way.result.nodes ≡ held_nodes (later_size (nodes_of a.pair.lent.nodes.words.now) (connections_of a.pair.lent.conns.now) a.pair.left.0 a.pair.right.0) = let a = c.args in
    let ns = nodes_of a.pair.lent.nodes.words.now in
    let count = length a.pair.lent.conns.now / connection_words in
    (c.path_need-way.ensures (connections_of a.pair.lent.conns.now) _ c.args.pair.lent.counts.charged.climbs c.args.pair.between.left_in c.args.pair.between.right-in).nodes
    ∙ path-exact ns a.pair.lent.conns.now a.pair.lent.rows.now _ _ count a.pair.left.0 a.pair.right.0 c.args.pair.lent.counts.filled c.fill_needs.ensures
    (omega (arith, c.args.pair.near, weigh-dist ns a.pair.lent.conns.now a.pair.lent.rows.now count a.pair.left.0 a.pair.right.0 c.args.pair.lent.counts.filled)) in
    let first : let a = c.args in
    c.size_of.result ≡ held_nodes (size_of (nodes_of a.pair.lent.nodes.words.now) a.pair.left.0) = c.size_of.ensures.0 ∙ c.args.pair.lent.counts.sized.each c.args.pair.left.0 c.args.pair.between.left_in in
    omega (arith, later, first)
