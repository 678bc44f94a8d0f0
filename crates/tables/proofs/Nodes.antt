-- A node written behind those that were accepted: they stay as they are, and it is the next.
use Prim.Native.Nat.{ℕ, suc, ◌+◌, ◌*◌, ◌-◌, ◌≤◌}
use mathlib.Core.List.{List, []}
use mathlib.Core.Path.{◌≡◌, refl, sym, ap, ◌∙◌}
use mathlib.Core.Option.{some}
use native.Mathlib.Omega.{arith}
use borrow.Rule.Slice.PartMut.{mid_of, put_mid}
use lib.ListN.{length}
use Rattle.model.specs.Judged.{good}
use Rattle.model.specs.Node.{Node, add_node}
use Rattle.model.specs.Frame.{node_frame}
use Rattle.model.specs.Tables.{node_entry, node_words}
use Rattle.laws.specs.Area.{splice, part}
use Rattle.laws.proofs.Judging.{one_more}
use Rattle.layouts.specs.Words.{words_of_node}
use Rattle.layouts.proofs.Back.{node-long}
use Rattle.layouts.proofs.Back.{node-back as frame_back}
use Rattle.entries.specs.Nodes.{nodes_to, first_nodes}
use Rattle.entries.proofs.Nodes.{nodes}
use Rattle.entries.proofs.Grown.{node-slot, nodes-front}
use Rattle.decode.specs.Slot.{slot_by}
use Rattle.tables.proofs.Put.{put-long, put_front, put-slot, put_back}

module _ (ws : List ℕ) (n : ℕ) (room : n * node_words + node_words ≤ length ws) (bs : List ℕ) where
  abbrev put : List ℕ
  put = splice ws (n * node_words) (slot_by words_of_node (part ws (n * node_words) node_words) (node_frame bs))

  long : length put ≡ length ws
  long = put-long words_of_node node_words ws n room (node_frame bs) (node-long bs)

  pub node-put : (new : List ℕ) → new ≡ slot_by words_of_node (mid_of (n * node_words) (n * node_words + node_words - n * node_words) ws) (node_frame bs) →
      put_mid (n * node_words) (n * node_words + node_words - n * node_words) ws new ≡ put
  node-put = put_back words_of_node node_words ws n room (node_frame bs) (node-long bs)

  same : nodes_to ws n ≡ nodes_to put n
  same = nodes-front ws put n (put_front words_of_node node_words ws n room (node_frame bs) (node-long bs)) (omega arith) (omega (arith, long))

  module _ (e : Node) (q : node_frame bs ≡ some e) where
    entry : node_entry put n ≡ node_frame bs
    entry =
        node-slot put n (omega (arith, long))
        ∙ ap (λ (l : List ℕ). node_entry l 0) (put-slot words_of_node node_words ws n room (node_frame bs) (node-long bs) e q)
        ∙ frame_back bs e q
        ∙ sym q

    pub node-table : (ns : List Node) → nodes_to ws n ≡ good ns → nodes_to put (suc n) ≡ add_node ns (node_frame bs)
    node-table ns p = one_more add_node (node_entry put) [] n (sym same ∙ p) ∙ ap (add_node ns) entry

    pub node-judged : (ns : List Node) → nodes_to ws n ≡ good ns → add_node (first_nodes n put) (node_entry put n) ≡ add_node ns (node_frame bs)
    node-judged ns p =
        let older : first_nodes n put ≡ ns = sym (nodes put n ns (sym same ∙ p)).is in
        rw (older, entry) refl
