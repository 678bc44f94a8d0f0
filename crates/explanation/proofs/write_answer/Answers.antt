-- `explanation::write_answer` meets its contract: 11 where the needed words are past the limit or the area; else they are written.
-- Assumes nothing.
use native.Mathlib.Omega.{arith}
use Prim.Native.Nat.{ℕ, ◌≤◌, ◌<◌}
use mathlib.Core.Path.{◌≡◌, refl, sym, ap, subst, ◌∙◌}
use lib.ListN.{length, replicate, length-replicate}
use lib.Seq.{length-take-le, take_at}
use Rattle.model.specs.Limits.{node_limit, word_limit}
use Rattle.model.specs.Flat.{needed}
use Rattle.entries.specs.Nodes.{nodes_of}
use Rattle.forest.specs.Rows.{connections_of}
use Rattle.needs.specs.Needs.{Counts}
use Rattle.needs.proofs.Ready.{counts}
use Rattle.needs.proofs.Words.{held-exact}
use Rattle.explanation.proofs.Queries.{needed-over, proof-long, past-limit, past-area, fits}
use Rattle.explanation.proofs.write_answer.Goals.{After-fill_sizes, Else-words-gt-WORD_LIMIT}
use Rattle.explanation.proofs.write_answer.Goals as goal

-- what counting wants, and that the words are counted
counted : (c : After-fill_sizes) → Counts c.args.tables.nodes.now c.args.tables.conns.now c.args.rows.now c.fill_sizes.new.sizes
counted c =
    counts (replicate node_limit 0) c.requires.nodes_whole c.args.tables.supported c.requires.measures.1.charged
    c.requires.measures.1.filled (length-replicate {A = ℕ} node_limit 0) c.fill_sizes.ensures

exact : (c : Else-words-gt-WORD_LIMIT) →
    c.words_needed-words.result ≡ needed (nodes_of c.args.tables.nodes.now) (connections_of c.args.tables.conns.now) c.args.left.0 c.args.right.0
exact c =
    c.words_needed-words.ensures
    ∙ held-exact _ _ _ _ (subst (λ (x : ℕ). x ≤ word_limit) c.words_needed-words.ensures c.if-words-gt-WORD_LIMIT.false)

pub invariant_of-lent : goal.invariant_of-lent
invariant_of-lent c = record { counts = counted (goal.at.invariant_of-lent c).After-fill_sizes }

pub invariant_of-pair : goal.invariant_of-pair
invariant_of-pair c =
    record {
      between = c.requires.measures.1.between;
      near = c.requires.measures.1.near;
    }

pub returns-then-words-gt-WORD_LIMIT : goal.returns-then-words-gt-WORD_LIMIT
returns-then-words-gt-WORD_LIMIT c = λ t ns cs. (
  past-limit t _ _ _ _ (c.requires.measures.0 t ns cs)
      (rw (ns, cs) (needed-over _ _ _ _ (subst (λ (x : ℕ). word_limit < x) c.words_needed-words.ensures c.if-words-gt-WORD_LIMIT.true))),
  tt,
)

pub returns-then-words-area : goal.returns-then-words-area
returns-then-words-area c = λ t ns cs. (
  past-area t _ _ _ _ (c.requires.measures.0 t ns cs)
      (rw (ns, cs) (omega (arith, exact (goal.at.returns-then-words-area c).Else-words-gt-WORD_LIMIT, c.if-words-area.true))),
  tt,
)

pub slice_bounds-write_proof-end-2 : goal.slice_bounds-write_proof-end-2
slice_bounds-write_proof-end-2 c = sym (length-take-le _ _ c.if-words-area.false)

pub write_proof-requires : goal.write_proof-requires
write_proof-requires c =
    let g = goal.at.write_proof-requires c in
    let n = counted g.After-fill_sizes in
    let l = length-take-le c.words_needed-words.result c.args.area.now c.if-words-area.false in (
      subst (λ (x : ℕ). x ≤ word_limit) (sym l) c.if-words-gt-WORD_LIMIT.false,
      proof-long n.whole n.support c.requires.measures.1.between ∙ sym (exact g.Else-words-gt-WORD_LIMIT) ∙ sym l,
    )

pub returns : goal.returns
returns c =
    let g = goal.at.returns c in
    let n = counted g.After-fill_sizes in
    let e = exact g.Else-words-gt-WORD_LIMIT in
    λ t ns cs. (
      fits t _ _ _ _ _ (c.requires.measures.0 t ns cs) (rw (ns, cs) e) c.if-words-area.false c.if-words-gt-WORD_LIMIT.false,
      take_at _ _ _ (ap length c.write_proof.ensures ∙ proof-long n.whole n.support c.requires.measures.1.between ∙ sym e)
          ∙ c.write_proof.ensures
          ∙ rw (ns, cs) refl,
    )
