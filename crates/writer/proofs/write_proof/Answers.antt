-- `writer::write_proof` meets its contract: the left node's term, and behind it what the path appends.
use native.Mathlib.Omega.{arith}
use Prim.Native.Nat.{ℕ, ◌+◌}
use mathlib.Core.Path.{◌≡◌, sym, ap, ◌∙◌}
use lib.ListN.{length, length-append, length-replicate}
use Rattle.model.specs.Limits.{term_limit}
use Rattle.model.specs.Term.{words}
use Rattle.model.specs.Flat.{later}
use Rattle.entries.specs.Nodes.{nodes_of}
use Rattle.forest.specs.Rows.{connections_of}
use Rattle.writer.specs.Appends.{term_words}
use Rattle.writer.proofs.FirstTerm.{all-written, counted, first-asked, first-long, proof-words, reached}
use Rattle.writer.proofs.write_proof.Goals as goal
use Rattle.writer.proofs.write_proof.Goals.{After-write_tree-end, Start}

room : (c : Start) → let a = c.args in
    let ns = nodes_of a.pair.lent.nodes.words.now in
    length (term_words ns a.pair.left.0) + length (words (later ns (connections_of a.pair.lent.conns.now) a.pair.left.0 a.pair.right.0)) ≡ length a.area.now
room c =
    let a = c.args in
    let ns = nodes_of a.pair.lent.nodes.words.now in
    omega (
      arith,
      c.requires.1,
      ap length (proof-words a.pair.lent.nodes.words.now a.pair.lent.conns.now a.pair.left.0 a.pair.right.0),
      length-append (term_words ns a.pair.left.0) (words (later ns (connections_of a.pair.lent.conns.now) a.pair.left.0 a.pair.right.0)),
    )

end_is : (c : After-write_tree-end) → let a = c.args in
    c.write_tree-end.result ≡ length (term_words (nodes_of a.pair.lent.nodes.words.now) a.pair.left.0)
end_is c =
    let a = c.args in
    omega (arith, c.write_tree-end.ensures.value, first-long (nodes_of a.pair.lent.nodes.words.now) a.pair.left.0)

pub write_tree-end-requires : goal.write_tree-end-requires
write_tree-end-requires c =
    let above = goal.at.write_tree-end-requires c in
    record {
      n_listed = c.args.pair.between.left_in;
      n_in_bounds = omega (arith, (room above.Start), first-long (nodes_of c.args.pair.lent.nodes.words.now) c.args.pair.left.0);
    }

pub write_path-requires : goal.write_path-requires
write_path-requires c =
    let above = goal.at.write_path-requires c in
    let a = c.args in record {
      reached = reached c.args.pair.lent.counts c.args.pair.between;
      writer_asks = first-asked (nodes_of a.pair.lent.nodes.words.now) a.pair.left.0 (later (nodes_of a.pair.lent.nodes.words.now) (connections_of a.pair.lent.conns.now) a.pair.left.0 a.pair.right.0) a.area.now
          (room above.Start) c.write_tree-end.ensures.area_after (end_is above.After-write_tree-end) (length-replicate {A = ℕ} term_limit 0) c.requires.0 (omega (arith, counted c.args.pair.lent.counts c.args.pair.between, c.args.pair.near));
    }

pub returns : goal.returns
returns c =
    let above = goal.at.returns c in
    let a = c.args in
    all-written (nodes_of a.pair.lent.nodes.words.now) a.pair.left.0 (later (nodes_of a.pair.lent.nodes.words.now) (connections_of a.pair.lent.conns.now) a.pair.left.0 a.pair.right.0) a.area.now
    (room above.Start) c.write_tree-end.ensures.area_after (end_is above.After-write_tree-end) c.write_path.ensures.wrote
    ∙ sym (proof-words a.pair.lent.nodes.words.now a.pair.lent.conns.now a.pair.left.0 a.pair.right.0)
