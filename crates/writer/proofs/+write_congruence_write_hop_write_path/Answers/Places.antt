-- What is known at the places of the two writers and of the step between them, once for all the answers that lean on it: of a congruence
-- where its children are read and where one of them is written, of a connection at its ends, of a path where it is laid on the trail.
use native.Mathlib.Omega.{arith}
use Prim.Native.Nat.{ℕ, ◌+◌, ◌-◌, ◌*◌, ◌≤◌, ◌<◌}
use mathlib.Core.List.{List, ◌∷◌, ◌++◌, reverse}
use mathlib.Core.Path.{◌≡◌, refl, sym, ap, subst₂, ◌∙◌, ap₂, subst}
use lib.ListN.{length, length-append}
use Rattle.model.specs.Forest.{root}
use Rattle.model.specs.Limits.{word_limit}
use Rattle.model.specs.Tables.{children_at, node_words}
use Rattle.entries.specs.Connections.{oldest, connection_in}
use Rattle.entries.specs.Nodes.{count_in, nodes_of}
use Rattle.entries.proofs.Children.{left-next, left-none}
use Rattle.trees.specs.declared.Spot.{Spot}
use Rattle.writer.specs.Appends.{term_words, twin_terms, start_of, leg_terms}
use Rattle.writer.specs.Written.{post_of, pre_of, Kept, Reached, Wrote, WriterAsks}
use Rattle.writer.proofs.Begun.{accepted-nodes, leads, accepted-below, path-lies, path_room, path-trip}
use Rattle.writer.proofs.Kept.{kept-splice}
use Rattle.writer.proofs.Part.{Whole}
use Rattle.writer.proofs.Rewriting.{Fits, State, child_fits, child-fits-after, children-all, children-long, exact, to_come}
use Rattle.writer.proofs.Stands.{length-post, post-plain, pre-plain}
use mathlib.Core.Bool.{not}
use Rattle.model.specs.declared.Connection.{Connection}
use Rattle.model.specs.declared.NodeNo.{NodeNo}
use Rattle.model.specs.declared.Justification.TheVariants.{Congruence}
use Rattle.model.specs.Flat.{mark_for, marked_term, later}
use Rattle.costs.specs.Costs.{nodes_in}
use Rattle.writer.proofs.Connected.{leg-rule, leg-twin, start-in}
use Rattle.paths.specs.Meet.{top_of}
use Rattle.forest.specs.Rows.{connections_of}
use Rattle.trail.specs.Legs.{ages}
use Rattle.trail.specs.Laid.{LaidOut}
use Rattle.writer.proofs.Hopping.{Begun, Hopping}
use Rattle.trail.proofs.Lies.{length_back}
use Rattle.writer.proofs.+write_congruence_write_hop_write_path.Goals as goal
use Rattle.writer.proofs.+write_congruence_write_hop_write_path.Goals.{write_congruence-After-child_of-y, write_congruence-After-loop-i, write_congruence-After-words_of-back, write_congruence-After-words_of-back-in-loop-i, write_congruence-After-words_of-front, write_congruence-In-loop-i, write_congruence-Start, write_hop-After-start_of-a, write_hop-After-start_of-b, write_hop-After-words_of-old, write_hop-In-Congruence, write_hop-In-Rule, write_path-After-lay_path-way, write_path-At-loop-top}

pub all-is : (t : ℕ) (c : write_congruence-After-words_of-back t) → let a = c.args in
    c.words_of-back.result ≡ length (term_words (nodes_of a.lent.now.nodes.words.now) a.a.0)
all-is t c = c.words_of-back.ensures
    ∙ exact c.args.lent.now.counts.sized c.args.a.0 c.requires.matched.left_in (omega (arith, c.requires.writer_asks.stood.room, c.requires.writer_asks.stood.fits, c.requires.writer_asks.small))

pub more : (t : ℕ) (c : write_congruence-In-loop-i t) → let a = c.args in
    c.loop-i.i < count_in a.lent.now.nodes.words.now a.a.0
more t c = omega (arith, c.count_of-n.ensures)

pub reached : (t : ℕ) (c : write_congruence-After-child_of-y t) → let a = c.args in
    Reached a.lent.now.nodes.words.now a.lent.now.conns.now a.age c.child_of-x.result.0 c.child_of-y.result.0
reached t c =
    let above = goal.at.write_congruence-After-child_of-y t c in
    let a = c.args in
    let lower = c.args.lent.now.counts.whole.stand.lower in
    let i = c.loop-i.i in
    let h = more t above.In-loop-i in
    let cs = oldest a.age a.lent.now.conns.now in
    record {
      few = c.requires.matched.few;
      left_in = omega (arith, c.child_of-x.ensures, lower a.a.0 i c.requires.matched.left_in h, c.requires.matched.left_in);
      right-in = omega (arith, c.child_of-y.ensures, lower a.b.0 i c.requires.matched.right-in (omega (arith, c.requires.matched.twins.even)), c.requires.matched.right-in);
      same = ap (root cs) c.child_of-x.ensures ∙ c.requires.matched.twins.joins i h ∙ ap (root cs) (sym c.child_of-y.ensures);
    }

pub state : (t : ℕ) (c : write_congruence-After-child_of-y t) → let a = c.args in
    let n = c.count_of-n.result in
    State a.lent.now.nodes.words.now a.lent.now.conns.now a.age a.a a.b n a.area.now a.spot
    (c.child_of-x.result.0 ∷ to_come a.lent.now.nodes.words.now a.a.0 n (c.loop-i.i + 1))
    (c.child_of-y.result.0 ∷ to_come a.lent.now.nodes.words.now a.b.0 n (c.loop-i.i + 1)) c.loop-i.area c.loop-i.front c.loop-i.back c.loop-i.end
state t c = let a = c.args in
    let n = c.count_of-n.result in
    let i = c.loop-i.i in
    let h = c.loop-i-test.true in
    subst₂
    (λ (xs ys : List ℕ).
    State a.lent.now.nodes.words.now a.lent.now.conns.now a.age a.a a.b n a.area.now a.spot xs ys c.loop-i.area c.loop-i.front c.loop-i.back c.loop-i.end)
    (left-next a.lent.now.nodes.words.now (a.a.0 * node_words + children_at) n i h ∙ ap (λ (x : ℕ). x ∷ to_come a.lent.now.nodes.words.now a.a.0 n (i + 1)) (sym c.child_of-x.ensures))
    (left-next a.lent.now.nodes.words.now (a.b.0 * node_words + children_at) n i h ∙ ap (λ (y : ℕ). y ∷ to_come a.lent.now.nodes.words.now a.b.0 n (i + 1)) (sym c.child_of-y.ensures))
    c.loop-i.invariant.1

pub whole : (t : ℕ) (c : write_congruence-Start t) → let a = c.args in
    let ns = nodes_of a.lent.now.nodes.words.now in
    Whole (pre_of a.area.now a.spot (length (term_words ns a.a.0))) (post_of a.area.now a.spot) a.area.now a.spot.end
    (twin_terms ns a.lent.now.conns.now a.age a.a.0 a.b.0)
whole t c = record { room = c.requires.writer_asks.room; small = c.requires.writer_asks.small }

pub fits : (t : ℕ) (c : write_congruence-After-child_of-y t) → let a = c.args in
    Fits (a.spot.place + c.loop-i.front) (a.spot.post + c.loop-i.back) c.loop-i.end
    (length (term_words (nodes_of a.lent.now.nodes.words.now) c.child_of-x.result.0)) a.spot.post word_limit
fits t c =
    let above = goal.at.write_congruence-After-child_of-y t c in
    let f = child_fits (state t c) in
    let long = children-long (state t c) (whole t above.Start) in
    record {
      place_in = f.place_in;
      post_in = f.post_in;
      child-in = omega (arith, f.child-in, length-post c.requires.writer_asks.stood);
      end-in = omega (arith, f.end-in, c.requires.writer_asks.small);
    }

pub congruence-old-is : (t : ℕ) (c : write_congruence-After-words_of-back-in-loop-i t) → let a = c.args in
    c.words_of-back-in-loop-i.result ≡ length (term_words (nodes_of a.lent.now.nodes.words.now) c.child_of-x.result.0)
congruence-old-is t c =
    let above = goal.at.write_congruence-After-words_of-back-in-loop-i t c in
    let f = fits t above.After-child_of-y in
    c.words_of-back-in-loop-i.ensures ∙ exact c.args.lent.now.counts.sized c.child_of-x.result.0 (reached t above.After-child_of-y).left_in (omega (arith, f.child-in, f.post_in, f.end-in))

abbrev pub spot : (t : ℕ) (c : write_congruence-After-words_of-back-in-loop-i t) → Spot
spot t c = let s = c.args.spot in
    record { place = s.place + c.loop-i.front; post = s.post + (c.loop-i.back - c.words_of-back-in-loop-i.result); end = c.loop-i.end }

pub behind : (t : ℕ) (c : write_congruence-After-words_of-back-in-loop-i t) → let a = c.args in
    (spot t c).post + length (term_words (nodes_of a.lent.now.nodes.words.now) c.child_of-x.result.0) ≡ a.spot.post + c.loop-i.back
behind t c =
    let above = goal.at.write_congruence-After-words_of-back-in-loop-i t c in
    omega (arith, (congruence-old-is t c), (fits t above.After-child_of-y).child-in)

pub new_is : (t : ℕ) (c : write_congruence-After-words_of-front t) → let a = c.args in
    (c.words_of-front.result ≡ length (term_words (nodes_of a.lent.now.nodes.words.now) c.child_of-y.result.0)) × (c.words_of-front.result ≤ word_limit)
new_is t c =
    let above = goal.at.write_congruence-After-words_of-front t c in
    let small = child-fits-after (state t above.After-child_of-y) (pre-plain c.requires.writer_asks.stood) (post-plain c.requires.writer_asks.stood) (spot t above.After-words_of-back-in-loop-i) refl (behind t above.After-words_of-back-in-loop-i) refl (whole t above.Start)
    c.write_path-end.ensures.wrote (leads c.args.lent.now.counts (reached t above.After-child_of-y)) in
    let e = c.words_of-front.ensures ∙ exact c.args.lent.now.counts.sized c.child_of-y.result.0 (reached t above.After-child_of-y).right-in (omega (arith, small, c.requires.writer_asks.small)) in
    (e, omega (arith, e, small, c.requires.writer_asks.small))

pub all : (t : ℕ) (c : write_congruence-After-loop-i t) → let a = c.args in
    let ns = nodes_of a.lent.now.nodes.words.now in
    Wrote a.area.now a.spot (term_words ns a.a.0) (twin_terms ns a.lent.now.conns.now a.age a.a.0 a.b.0) c.loop-i.area c.loop-i.end
all t c = let a = c.args in
    children-all (left-none a.lent.now.nodes.words.now (a.a.0 * node_words + children_at) _ c.loop-i.i c.loop-i-test.false) c.loop-i.invariant.1

pub from_is : (t : ℕ) (c : write_hop-After-start_of-a t) → let a = c.args in
    c.start_of-a.result ≡ start_of (connection_in a.lent.now.conns.now a.age) a.up
from_is t c = let a = c.args in
    c.start_of-a.ensures ∙ ap (λ (x : Connection). start_of x a.up) c.connection_at-c.ensures

pub from_in : (t : ℕ) (c : write_hop-After-start_of-a t) → let a = c.args in
    c.start_of-a.result.0 < nodes_in a.lent.now.nodes.words.now
from_in t c = let a = c.args in
    omega (arith, ap (λ (x : NodeNo). x.0) (from_is t c), start-in c.args.lent.now.counts.support a.age c.requires.listed a.up)

pub to_is : (t : ℕ) (c : write_hop-After-start_of-b t) → let a = c.args in
    c.start_of-b.result ≡ start_of (connection_in a.lent.now.conns.now a.age) (not a.up)
to_is t c = let a = c.args in
    c.start_of-b.ensures ∙ ap (λ (x : Connection). start_of x (not a.up)) c.connection_at-c.ensures

pub asked : (t : ℕ) (c : write_hop-After-start_of-a t) → let a = c.args in
    let ns = nodes_of a.lent.now.nodes.words.now in
    WriterAsks a.trail.now a.area.now a.at (term_words ns c.start_of-a.result.0) (leg_terms ns a.lent.now.conns.now a.age a.up) a.used
asked t c = let a = c.args in
    let ns = nodes_of a.lent.now.nodes.words.now in
    subst (λ (x : NodeNo). WriterAsks a.trail.now a.area.now a.at (term_words ns x.0) (leg_terms ns a.lent.now.conns.now a.age a.up) a.used)
    (sym (from_is t c)) c.requires.writer_asks

pub hop-old-is : (t : ℕ) (c : write_hop-After-words_of-old t) → let a = c.args in
    c.words_of-old.result ≡ length (term_words (nodes_of a.lent.now.nodes.words.now) c.start_of-a.result.0)
hop-old-is t c =
    let above = goal.at.write_hop-After-words_of-old t c in
    let k = asked t above.After-start_of-a in
    c.words_of-old.ensures
    ∙ exact c.args.lent.now.counts.sized c.start_of-a.result.0 (from_in t above.After-start_of-a) (omega (arith, k.stood.room, k.stood.fits, k.small))

pub rule-terms : (t : ℕ) (c : write_hop-In-Rule t) → let a = c.args in
    let ns = nodes_of a.lent.now.nodes.words.now in
    leg_terms ns a.lent.now.conns.now a.age a.up
    ≡ marked_term ns (mark_for c.in-Rule.rule.0 c.in-Rule.d a.up) c.start_of-b.result.0
rule-terms t c =
    let above = goal.at.write_hop-In-Rule t c in
    let a = c.args in
    let ns = nodes_of a.lent.now.nodes.words.now in
    leg-rule ns a.lent.now.conns.now a.age a.up
    (sym (ap (λ (x : Connection). x.why) c.connection_at-c.ensures) ∙ c.in-Rule.is)
    ∙ ap (λ (x : NodeNo). marked_term ns (mark_for c.in-Rule.rule.0 c.in-Rule.d a.up) x.0) (sym (to_is t above.After-start_of-b))

pub congruent : (t : ℕ) (c : write_hop-In-Congruence t) → let a = c.args in
    (connection_in a.lent.now.conns.now a.age).why ≡ Congruence
congruent t c = sym (ap (λ (x : Connection). x.why) c.connection_at-c.ensures) ∙ c.in-Congruence.is

pub twin-terms : (t : ℕ) (c : write_hop-In-Congruence t) → let a = c.args in
    let ns = nodes_of a.lent.now.nodes.words.now in
    leg_terms ns a.lent.now.conns.now a.age a.up ≡ twin_terms ns a.lent.now.conns.now a.age c.start_of-a.result.0 c.start_of-b.result.0
twin-terms t c =
    let above = goal.at.write_hop-In-Congruence t c in
    let a = c.args in
    let ns = nodes_of a.lent.now.nodes.words.now in
    leg-twin ns a.lent.now.conns.now a.age a.up (congruent t c)
    ∙ ap₂ (λ (x y : NodeNo). twin_terms ns a.lent.now.conns.now a.age x.0 y.0) (sym (from_is t above.After-start_of-a)) (sym (to_is t above.After-start_of-b))

pub laid : (t : ℕ) (c : write_path-After-lay_path-way t) → let a = c.args in
    LaidOut a.lent.now.rows.now (connections_of a.lent.now.conns.now) a.trail.now a.used a.left.0 a.right.0 c.lay_path-way.new.trail
    c.lay_path-way.result.turn c.lay_path-way.result.top
laid t c = c.lay_path-way.ensures (connections_of c.args.lent.now.conns.now) _ c.args.lent.now.counts.charged.climbs c.requires.reached.left_in c.requires.reached.right-in

pub kept : (t : ℕ) (c : write_path-After-lay_path-way t) → let a = c.args in
    Kept a.used a.trail.now c.lay_path-way.new.trail
kept t c = let a = c.args in
    let cs = connections_of a.lent.now.conns.now in
    let ds = ages a.lent.now.rows.now cs a.right.0 (top_of cs a.left.0 a.right.0) in
    let us = ages a.lent.now.rows.now cs a.left.0 (top_of cs a.left.0 a.right.0) in
    kept-splice a.trail.now (ds ++ reverse us) (laid t c).trail_is
    (omega (arith, length-append ds (reverse us), length_back us, c.requires.writer_asks.long, path_room c.args.lent.now.counts c.requires.reached a.used c.requires.writer_asks.few))

pub begun : (t : ℕ) (c : write_path-After-lay_path-way t) → let a = c.args in
    Begun (nodes_of a.lent.now.nodes.words.now) a.lent.now.conns.now a.bound a.spot a.area.now c.lay_path-way.new.trail a.used
    c.lay_path-way.result.turn c.lay_path-way.result.top a.left.0 a.right.0
begun t c = record {
  nodes = accepted-nodes c.args.lent.now.counts;
  accepted = accepted-below c.args.lent.now.counts c.args.bound c.requires.reached.few;
  asked = record { long = (kept t c).long ∙ c.requires.writer_asks.long; stood = c.requires.writer_asks.stood; small = c.requires.writer_asks.small; room = c.requires.writer_asks.room; few = c.requires.writer_asks.few };
  legs = _;
  trip = path-trip c.args.lent.now.counts c.requires.reached;
  lies = path-lies c.args.lent.now.counts c.requires.reached c.args.used c.requires.writer_asks.few c.requires.writer_asks.long (laid t c);
}

pub here : (t : ℕ) (c : write_path-At-loop-top t) → let a = c.args in
    let ns = nodes_of a.lent.now.nodes.words.now in
    Hopping ns a.lent.now.conns.now a.bound a.right.0 (later ns (oldest a.bound a.lent.now.conns.now) a.left.0 a.right.0)
    (pre_of a.area.now a.spot (length (term_words ns a.left.0))) (post_of a.area.now a.spot) a.area.now a.spot.end
    c.lay_path-way.result.turn a.used c.loop-top.trail c.loop-top.area c.loop-top.top c.loop-top.end
here t c =
    let above = goal.at.write_path-At-loop-top t c in
    let a = c.args in c.loop-top.invariant.1 a.left.0 a.right.0 (begun t above.After-lay_path-way)
