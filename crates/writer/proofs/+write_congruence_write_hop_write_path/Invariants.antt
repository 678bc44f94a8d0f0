-- The proof of the cycle of calls {write_congruence, write_hop, write_path}. A path below the bound b walks connections of ages a < b, a
-- congruence of age a asks for paths below a: so the measures are 3b, 3a + 2 and 3a + 1.
use Prim.Native.Nat.{ℕ, ◌+◌, ◌*◌}
use lib.ListN.{length}
use Rattle.model.specs.Flat.{later}
use Rattle.entries.specs.Connections.{oldest}
use Rattle.entries.specs.Nodes.{nodes_of}
use Rattle.writer.specs.Appends.{term_words}
use Rattle.writer.specs.Written.{post_of, pre_of, Kept}
use Rattle.writer.proofs.Hopping.{Begun, Hopping}
use Rattle.writer.proofs.Rewriting.{State, to_come}
use Rattle.writer.proofs.+write_congruence_write_hop_write_path.Given as goal

abbrev pub decreases-write_congruence : goal.decreases-write_congruence
decreases-write_congruence l = 3 * l.age + 1

abbrev pub decreases-write_hop : goal.decreases-write_hop
decreases-write_hop l = 3 * l.age + 2

abbrev pub decreases-write_path : goal.decreases-write_path
decreases-write_path l = 3 * l.bound

abbrev pub invariant-write_congruence-loop-i : goal.invariant-write_congruence-loop-i
invariant-write_congruence-loop-i l =
    Kept l.used l.initial.trail l.trail
    × State l.lent.nodes.words.now l.lent.conns.now l.age l.a l.b l.n l.initial.area l.spot (to_come l.lent.nodes.words.now l.a.0 l.n l.i) (to_come l.lent.nodes.words.now l.b.0 l.n l.i) l.area l.front l.back l.end

abbrev pub invariant-write_path-loop-top : goal.invariant-write_path-loop-top
invariant-write_path-loop-top l =
    let ns = nodes_of l.lent.nodes.words.now in
    Kept l.used l.initial.trail l.trail
    × ((p q : ℕ) → Begun ns l.lent.conns.now l.bound l.spot l.initial.area l.initial.trail l.used l.way.turn l.way.top p q →
    Hopping ns l.lent.conns.now l.bound q (later ns (oldest l.bound l.lent.conns.now) p q) (pre_of l.initial.area l.spot (length (term_words ns p))) (post_of l.initial.area l.spot) l.initial.area l.spot.end
    l.way.turn l.used l.trail l.area l.top l.end)
