-- `nodes::judge_node` meets its contract: 2, then 3, then 4, each by its test.
use native.Mathlib.Omega.{arith}
use Prim.Native.Nat.{ℕ}
use mathlib.Core.Path.{sym, ap, ◌∙◌}
use mathlib.Core.Bool.{true, false}
use Rattle.model.specs.Node.{all_below}
use Rattle.entries.specs.Nodes.{children_in}
use Rattle.entries.proofs.Nodes.{length-nodes}
use Rattle.entries.proofs.Judging.{node-short, node_wide, node-many, node-lower}
use Rattle.nodes.proofs.judge_node.Goals as goal

pub returns-then-nodes-n : goal.returns-then-nodes-n
returns-then-nodes-n c = node-short _ _ _ c.if-nodes-n.true

pub returns-then-word-gt-CHILD_LIMIT : goal.returns-then-word-gt-CHILD_LIMIT
returns-then-word-gt-CHILD_LIMIT c = node_wide _ _ _ c.if-nodes-n.false (omega (arith, c.word.ensures))

pub returns-then-n-ge-NODE_LIMIT : goal.returns-then-n-ge-NODE_LIMIT
returns-then-n-ge-NODE_LIMIT c =
    node-many _ _ _ c.if-nodes-n.false (omega (arith, c.word.ensures)) (omega (arith, length-nodes c.args.n c.args.nodes.now))

pub children_below-requires : goal.children_below-requires
children_below-requires c = (c.requires, c.if-nodes-n.false, omega (arith, c.word.ensures))

pub returns-then-children_below : goal.returns-then-children_below
returns-then-children_below c =
    let s = c.args in
    node-lower _ _ _ c.if-nodes-n.false (omega (arith, c.word.ensures)) (omega (arith, length-nodes s.n s.nodes.now)) true
    (ap (λ (m : ℕ). all_below m (children_in s.nodes.now s.n)) (length-nodes s.n s.nodes.now)
    ∙ sym c.children_below.ensures ∙ c.if-children_below.true)

pub returns-else-children_below : goal.returns-else-children_below
returns-else-children_below c =
    let s = c.args in
    node-lower _ _ _ c.if-nodes-n.false (omega (arith, c.word.ensures)) (omega (arith, length-nodes s.n s.nodes.now)) false
    (ap (λ (m : ℕ). all_below m (children_in s.nodes.now s.n)) (length-nodes s.n s.nodes.now)
    ∙ sym c.children_below.ensures ∙ c.if-children_below.false)
