-- `tables::take_node` meets its contract: a frame that says no node is refused; else it is judged where it was written.
use Prim.Native.Nat.{ℕ, suc, ◌*◌, ◌+◌, ◌-◌}
use mathlib.Core.List.{List}
use mathlib.Core.Path.{◌≡◌, refl, ap, ◌∙◌}
use borrow.Rule.Slice.PartMut.{put_mid}
use Rattle.model.specs.Node.{add_node}
use Rattle.model.specs.Frame.{node_frame}
use Rattle.model.specs.Tables.{node_words, node_entry}
use Rattle.laws.specs.Area.{splice, part}
use Rattle.layouts.specs.Words.{words_of_node}
use Rattle.entries.specs.Nodes.{nodes_to, first_nodes}
use Rattle.entries.proofs.Nodes.{nodes}
use Rattle.decode.specs.Slot.{slot_by}
use Rattle.tables.proofs.Slots.{says_some, says_none, grown-bad, grown}
use Rattle.tables.proofs.Nodes.{node-put, node-table, node-judged}
use Rattle.tables.proofs.take_node.Goals.{After-put_node}
use Rattle.tables.proofs.take_node.Goals as goal

-- the table as it comes back: the frame's words in their slot
written : (c : After-put_node) →
    put_mid (c.args.n * node_words) (c.args.n * node_words + node_words - c.args.n * node_words) c.args.nodes.now c.put_node.new.slot
    ≡ splice c.args.nodes.now (c.args.n * node_words)
    (slot_by words_of_node (part c.args.nodes.now (c.args.n * node_words) node_words) (node_frame c.args.bytes.now))
written c = node-put c.args.nodes.now c.args.n c.requires.1 c.args.bytes.now _ c.put_node.ensures.slot_after

pub returns-then-not-put_node : goal.returns-then-not-put_node
unfolding add_node
returns-then-not-put_node c =
    let e = says_none (node_frame c.args.bytes.now) c.put_node.ensures.value c.if-not-put_node.true-raw in record {
      nodes_grown = λ ns p. grown-bad (ap (add_node ns) e);
      nodes_after = written (goal.at.returns-then-not-put_node c).After-put_node;
    }

pub judge_node-requires : goal.judge_node-requires
judge_node-requires c = (nodes c.args.nodes.now c.args.n c.requires.0.nodes c.requires.0.are).stand.few

pub returns : goal.returns
returns c =
    let a = c.args in
    let w = written (goal.at.returns c).After-put_node in
    let y = says_some (node_frame a.bytes.now) c.put_node.ensures.value c.if-not-put_node.false-raw in record {
      nodes_grown = λ ns p.
          grown refl c.judge_node.ensures
          (ap (λ (l : List ℕ). add_node (first_nodes a.n l) (node_entry l a.n)) w
          ∙ node-judged a.nodes.now a.n c.requires.1 a.bytes.now y.what y.is ns p)
          (ap (λ (l : List ℕ). nodes_to l (suc a.n)) w ∙ node-table a.nodes.now a.n c.requires.1 a.bytes.now y.what y.is ns p);
      nodes_after = w;
    }
