-- `frames::steps::node_step` meets its contract: by the judgement on the node.
use native.Mathlib.Omega.{arith}
use Prim.Native.Nat.{suc}
use mathlib.Core.Path.{refl, subst}
use Rattle.model.specs.Judged.{Judgement}
use Rattle.model.specs.Node.{add_node}
use Rattle.model.specs.Frame.{node_frame}
use Rattle.model.specs.Run.{node_turn}
use Rattle.laws.proofs.Handed.{handed_on}
use Rattle.entries.specs.Nodes.{nodes_to}
use Rattle.entries.proofs.Nodes.{nodes}
use Rattle.tables.specs.Grown.{Grown}
use Rattle.frames.proofs.Ordered.{refused}
use Rattle.frames.proofs.Nodes.{node-taken}
use Rattle.frames.proofs.steps.node_step.Goals as goal

pub take_node-requires : goal.take_node-requires
take_node-requires c =
    let r = c.requires in
    (record { nodes = r.state.tables.nodes; are = r.stands.nodes }, omega (arith, (nodes c.args.store.now.nodes c.args.counts.nodes r.state.tables.nodes r.stands.nodes).stand.few))

pub overflow_add-counts : goal.overflow_add-counts
overflow_add-counts c =
    let r = c.requires in
    omega (arith, (nodes c.args.store.now.nodes c.args.counts.nodes r.state.tables.nodes r.stands.nodes).stand.few)

pub returns-in_err-take_node : goal.returns-in_err-take_node
returns-in_err-take_node c s h none =
    refused (node_turn s) (λ q. refl) _ _ _ _ c.in_err-take_node.was (c.take_node.ensures.nodes_grown s.tables.nodes h.nodes).says
    (handed_on c.from_residual.result _ c.from_residual.ensures.1)

pub returns : goal.returns
returns c s h none =
    let a = c.args in
    node-taken a.counts a.store.now _ s h none _
    (subst (λ (r : Judgement). Grown (add_node s.tables.nodes (node_frame a.bytes.now)) r (nodes_to c.take_node.new.nodes (suc a.counts.nodes)))
    c.in_ok-take_node.was (c.take_node.ensures.nodes_grown s.tables.nodes h.nodes))
