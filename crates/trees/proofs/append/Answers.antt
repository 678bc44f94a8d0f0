-- `trees::append` meets its contract: what stands before the subterm, the tree with its root written again, what stands behind it.
use native.Mathlib.Omega.{arith}
use mathlib.Core.Path.{◌≡◌, ◌∙◌}
use lib.ListN.{length}
use Rattle.entries.proofs.Nodes.{known}
use Rattle.trees.proofs.Planted.{term-long}
use Rattle.trees.proofs.Appended.{appended}
use Rattle.trees.proofs.append.Goals as goal

pub put_root-requires : goal.put_root-requires
put_root-requires c =
    let long-first : length c.copy_bare.new.area ≡ length c.args.area.now = c.copy_bare.auto.area in
    let long-planted : length c.write_tree-behind.new.area ≡ length c.args.area.now = c.write_tree-behind.auto.area ∙ long-first in (
      known c.args.node.0 c.args.nodes.whole.stand c.requires.node_listed,
      omega (arith, long-planted, c.requires.post_in_bounds, term-long c.args.nodes.words.now c.args.nodes.whole c.args.node.0 c.requires.node_listed),
    )

pub returns : goal.returns
returns c = record {
  value = omega (arith, c.write_tree-behind.ensures.value);
  area_after = appended c.args.nodes.words.now c.args.nodes.whole c.args.node.0 c.requires.node_listed c.args.area.now c.args.spot.place c.args.spot.post
      c.args.spot.end c.args.old c.requires.whole_nodes.2 c.requires.post_in_bounds c.args.mark.direction c.args.mark.rule.0
      c.copy_bare.ensures c.write_tree-behind.ensures.area_after c.write_tree-behind.ensures.value c.put_root.ensures c.copy_bare-2.ensures;
}
