-- A congruence: the children are rewritten first to last, each by its own path. One connection: a rule appends a term, a congruence its
-- children's runs. A path: what was laid on the trail is taken from it, connection by connection.
use native.Mathlib.Omega.{arith}
use Prim.Native.Nat.{ℕ, ◌+◌, ◌-◌, ◌*◌, ◌≤◌, ◌<◌}
use mathlib.Core.List.{List, ◌∷◌, ◌++◌, reverse}
use mathlib.Core.Path.{◌≡◌, refl, sym, ap, subst₂, ◌∙◌, ap₂, subst}
use lib.ListN.{length, length-append}
use Rattle.model.specs.Forest.{root}
use Rattle.model.specs.Limits.{word_limit}
use Rattle.model.specs.Node.{term_of}
use Rattle.model.specs.Tables.{children_at, node_words}
use Rattle.terms.proofs.Rows.{one-long}
use Rattle.entries.specs.Connections.{oldest, connection_in}
use Rattle.entries.specs.Nodes.{count_in, nodes_of}
use Rattle.entries.proofs.Children.{left-next, left-none}
use Rattle.trees.specs.declared.Spot.{Spot}
use Rattle.writer.specs.Appends.{term_words, twin_terms, start_of, leg_terms}
use Rattle.writer.specs.Written.{post_of, pre_of, Kept, Reached, Wrote, WriterAsks, Matched}
use Rattle.writer.proofs.Begun.{accepted-nodes, leads, accepted-below, layable, path-lies, path_room, path-trip}
use Rattle.writer.proofs.Kept.{kept-all, kept_more, kept_less, kept-splice}
use Rattle.writer.proofs.Part.{Whole, part-asked}
use Rattle.writer.proofs.Rewriting.{Fits, State, child-few, child_fits, child-fits-after, child-next, child-part, children-all, children-long, exact, to_come, twin-start}
use Rattle.writer.proofs.Stands.{cut, length-post, length-pre, post-plain, pre-plain, ran-long}
use mathlib.Core.Bool.{not}
use Rattle.model.specs.declared.Connection.{Connection}
use Rattle.model.specs.declared.NodeNo.{NodeNo}
use Rattle.model.specs.declared.Direction.{Direction}
use Rattle.model.specs.declared.RuleNo.{RuleNo}
use Rattle.model.specs.declared.Justification.TheVariants.{Congruence}
use Rattle.model.specs.Term.{Mark, Terms, marked, words}
use Rattle.model.specs.Flat.{mark_for, marked_term, later}
use Rattle.costs.specs.Costs.{nodes_in}
use Rattle.laws.specs.Area.{splice}
use Rattle.trees.specs.Area.{around}
use Rattle.writer.proofs.Connected.{leg-rule, leg-twin, marked-room, marked-wrote, matched, start-in}
use Rattle.paths.specs.Meet.{top_of}
use Rattle.forest.specs.Rows.{connections_of}
use Rattle.trail.specs.Legs.{ages}
use Rattle.trail.specs.Laid.{LaidOut}
use Rattle.writer.proofs.Hopping.{Begun, Hopping, few, hopped, hopping-asked, hopping-next, hopping-none, next}
use Rattle.trail.proofs.Lies.{length_back}
use Rattle.writer.proofs.+write_congruence_write_hop_write_path.Goals as goal
use Rattle.writer.proofs.+write_congruence_write_hop_write_path.Answers.Places.{all, all-is, asked, begun, behind, congruence-old-is, congruent, fits, from_in, from_is, here, hop-old-is, kept, laid, more, new_is, reached, rule-terms, spot, state, to_is, twin-terms, whole}
mod Places

pub write_congruence-overflow_sub-back : goal.write_congruence-overflow_sub-back
write_congruence-overflow_sub-back t c =
    let above = goal.at.write_congruence-overflow_sub-back t c in
    let a = c.args in
    omega (arith, (all-is t above.After-words_of-back), one-long (term_of (nodes_of a.lent.now.nodes.words.now) a.a.0))

pub write_congruence-loop-i-init : goal.write_congruence-loop-i-init
write_congruence-loop-i-init t c =
    let above = goal.at.write_congruence-loop-i-init t c in
    let a = c.args in
    let k = c.requires.writer_asks.stood in
    let some = one-long (term_of (nodes_of a.lent.now.nodes.words.now) a.a.0) in (
      kept-all,
      twin-start a.lent.now.nodes.words.now a.lent.now.conns.now a.age a.a.0 a.b.0 _ (accepted-nodes c.args.lent.now.counts) c.requires.matched.left_in c.requires.matched.right-in
          c.count_of-n.ensures (c.count_of-n.ensures ∙ c.requires.matched.twins.even) (cut k) (omega (arith, length-pre k)) (omega (arith, length-post k, (all-is t above.After-words_of-back))),
    )

pub write_congruence-overflow_sub-back-in-loop-i : goal.write_congruence-overflow_sub-back-in-loop-i
write_congruence-overflow_sub-back-in-loop-i t c =
    let above = goal.at.write_congruence-overflow_sub-back-in-loop-i t c in
    omega (arith, (congruence-old-is t above.After-words_of-back-in-loop-i), (fits t above.After-child_of-y).child-in)

pub write_congruence-overflow_add-at : goal.write_congruence-overflow_add-at
write_congruence-overflow_add-at t c =
    let above = goal.at.write_congruence-overflow_add-at t c in
    let f = fits t above.After-child_of-y in omega (arith, f.place_in, f.end-in)

pub write_congruence-overflow_add-at-in-loop-i : goal.write_congruence-overflow_add-at-in-loop-i
write_congruence-overflow_add-at-in-loop-i t c =
    let above = goal.at.write_congruence-overflow_add-at-in-loop-i t c in
    let f = fits t above.After-child_of-y in omega (arith, f.post_in, f.end-in)

pub write_congruence-write_path-end-requires : goal.write_congruence-write_path-end-requires
write_congruence-write_path-end-requires t c =
    let above = goal.at.write_congruence-write_path-end-requires t c in
    let p = pre-plain c.requires.writer_asks.stood in
    let q = post-plain c.requires.writer_asks.stood in (
      omega arith,
      (
        (reached t above.After-child_of-y),
        part-asked (child-part (state t above.After-child_of-y) p q (spot t above.After-words_of-back-in-loop-i) refl (behind t above.After-words_of-back-in-loop-i) refl) (whole t above.Start) (c.loop-i.invariant.0.long ∙ c.requires.writer_asks.long) c.args.used
            (child-few (state t above.After-child_of-y) p q (spot t above.After-words_of-back-in-loop-i) refl (behind t above.After-words_of-back-in-loop-i) refl c.args.used c.requires.writer_asks.few),
      ),
    )

pub write_congruence-overflow_add-front : goal.write_congruence-overflow_add-front
write_congruence-overflow_add-front t c =
    let above = goal.at.write_congruence-overflow_add-front t c in
    let f = fits t above.After-child_of-y in
    omega (arith, f.place_in, f.end-in, (new_is t above.After-words_of-front).1)

pub write_congruence-loop-i-preserved : goal.write_congruence-loop-i-preserved
write_congruence-loop-i-preserved t c =
    let above = goal.at.write_congruence-loop-i-preserved t c in (
      kept_more c.loop-i.invariant.0 c.write_path-end.ensures.kept,
      child-next (state t above.After-child_of-y) (pre-plain c.requires.writer_asks.stood) (post-plain c.requires.writer_asks.stood) (spot t above.After-words_of-back-in-loop-i) refl (behind t above.After-words_of-back-in-loop-i) refl (whole t above.Start)
          c.write_path-end.ensures.wrote (leads c.args.lent.now.counts (reached t above.After-child_of-y)) _ (omega (arith, (new_is t above.After-words_of-front).0)),
    )

pub write_congruence-returns : goal.write_congruence-returns
write_congruence-returns t c =
    let above = goal.at.write_congruence-returns t c in
    record {
      wrote = (all t above.After-loop-i);
      kept = c.loop-i.invariant.0;
    }

pub write_hop-words_of-old-requires : goal.write_hop-words_of-old-requires
write_hop-words_of-old-requires t c =
    let above = goal.at.write_hop-words_of-old-requires t c in
    omega (arith, (from_in t above.After-start_of-a), c.args.lent.now.counts.whole.stand.few)

pub write_hop-append-requires : goal.write_hop-append-requires
write_hop-append-requires t c =
    let above = goal.at.write_hop-append-requires t c in
    let to_in : let a = c.args in
    c.start_of-b.result.0 < nodes_in a.lent.now.nodes.words.now = let a = c.args in
    omega (arith, ap (λ (x : NodeNo). x.0) (to_is t above.After-start_of-b), start-in c.args.lent.now.counts.support a.age c.requires.listed (not a.up)) in
    let a = c.args in
    let k = asked t above.After-start_of-a in
    let ns = nodes_of a.lent.now.nodes.words.now in
    let m = mark_for c.in-Rule.rule.0 c.in-Rule.d a.up in
    let old = hop-old-is t above.After-words_of-old in
    let place = k.stood.room in
    let room = k.room in record {
      node_listed = to_in;
      whole_nodes = (k.stood.whole.0, k.stood.whole.2, omega arith);
      post_in_bounds = omega (
        arith,
        marked-room ns c.start_of-b.result.0 k.stood m,
        ap (λ (f : Terms). length (around (pre_of a.area.now a.at (length (term_words ns c.start_of-a.result.0))) (post_of a.area.now a.at) f)) (rule-terms t above.In-Rule),
      );
    }

pub write_hop-write_congruence-requires : goal.write_hop-write_congruence-requires
write_hop-write_congruence-requires t c =
    let above = goal.at.write_hop-write_congruence-requires t c in
    let a = c.args in
    let twin = matched c.args.lent.now.counts.support a.age c.requires.listed a.up (congruent t above.In-Congruence) in (
      omega arith,
      (
        subst₂ (λ (x y : NodeNo). Matched a.lent.now.nodes.words.now a.lent.now.conns.now a.age x.0 y.0) (sym (from_is t above.After-start_of-a)) (sym (to_is t above.After-start_of-b)) twin,
        subst (λ (f : Terms). WriterAsks a.trail.now a.area.now a.at (term_words (nodes_of a.lent.now.nodes.words.now) c.start_of-a.result.0) f a.used)
            (twin-terms t above.In-Congruence) (asked t above.After-start_of-a),
      ),
    )

pub write_hop-returns-in-Rule : goal.write_hop-returns-in-Rule
write_hop-returns-in-Rule t c =
    let above = goal.at.write_hop-returns-in-Rule t c in
    let a = c.args in
    let ns = nodes_of a.lent.now.nodes.words.now in
    let b = c.start_of-b.result.0 in
    let after =
    c.append.ensures.area_after
    ∙ ap₂
    (λ (o : ℕ) (m : Mark). splice a.area.now a.at.end (pre_of a.area.now a.at o ++ (words (marked_term ns m b) ++ post_of a.area.now a.at)))
    (hop-old-is t above.After-words_of-old)
    (ap₂ (λ (d : Direction) (r : RuleNo). marked d r.0) c.mark_for.ensures.1 c.mark_for.ensures.0) in record {
      wrote = subst₂ (λ (x : NodeNo) (f : Terms). Wrote a.area.now a.at (term_words ns x.0) f c.append.new.area c.append.result)
          (from_is t above.After-start_of-a) (sym (rule-terms t above.In-Rule)) (marked-wrote ns b (asked t above.After-start_of-a).stood _ c.append.ensures.value after);
      kept = kept-all;
    }

pub write_hop-returns-in-Congruence : goal.write_hop-returns-in-Congruence
write_hop-returns-in-Congruence t c =
    let above = goal.at.write_hop-returns-in-Congruence t c in
    let a = c.args in
    let ns = nodes_of a.lent.now.nodes.words.now in record {
      wrote = subst₂
          (λ (x : NodeNo) (f : Terms).
          Wrote a.area.now a.at (term_words ns x.0) f c.write_congruence.new.area c.write_congruence.result)
          (from_is t above.After-start_of-a) (sym (twin-terms t above.In-Congruence)) c.write_congruence.ensures.wrote;
      kept = c.write_congruence.ensures.kept;
    }

pub write_path-lay_path-way-requires : goal.write_path-lay_path-way-requires
write_path-lay_path-way-requires t c =
    layable c.args.lent.now.counts c.requires.reached c.args.used c.requires.writer_asks.few

pub write_path-loop-top-init : goal.write_path-loop-top-init
write_path-loop-top-init t c = (kept-all, λ l r b. hopping-none b)

pub write_path-age_on-age-requires : goal.write_path-age_on-age-requires
write_path-age_on-age-requires t c =
    let above = goal.at.write_path-age_on-age-requires t c in
    omega (arith, few (next (here t above.At-loop-top) c.loop-top-test.true refl refl) c.loop-top-test.true c.requires.writer_asks.few)

pub write_path-write_hop-end-requires : goal.write_path-write_hop-end-requires
write_path-write_hop-end-requires t c =
    let above = goal.at.write_path-write_hop-end-requires t c in
    let n = next (here t above.At-loop-top) c.loop-top-test.true c.age_on-age.ensures refl in
    let age = n.below in
    let bound = c.requires.reached.few in (
      omega arith,
      (
        omega arith,
        hopping-asked (begun t above.After-lay_path-way) c.loop-top-test.true n (c.loop-top.invariant.0.long ∙ (begun t above.After-lay_path-way).asked.long),
      ),
    )

pub write_path-loop-top-preserved : goal.write_path-loop-top-preserved
write_path-loop-top-preserved t c =
    let lt = c.loop-top-test.true in (
      kept_more c.loop-top.invariant.0 (kept_less (omega arith) c.write_hop-end.ensures.kept),
      λ a b g.
          hopping-next g lt (next (c.loop-top.invariant.1 a b g) lt c.age_on-age.ensures refl)
          c.write_hop-end.ensures.kept.same c.write_hop-end.ensures.wrote,
    )

pub write_path-returns : goal.write_path-returns
write_path-returns t c =
    let above = goal.at.write_path-returns t c in
    record {
      wrote = hopped (here t above.At-loop-top) c.loop-top-test.false;
      kept = kept_more (kept t above.After-lay_path-way) c.loop-top.invariant.0;
    }
