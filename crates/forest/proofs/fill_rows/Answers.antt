use native.Mathlib.Omega.{arith}
use Prim.Native.Nat.{◌+◌, ◌/◌, ◌<◌}
use mathlib.Core.Path.{◌≡◌, ap, ◌∙◌}
use lib.ListN.{length, set}
use Rattle.model.specs.Limits.{node_limit}
use Rattle.model.specs.Forest.{cur, nxt}
use Rattle.model.specs.Tables.{connection_words}
use Rattle.model.specs.declared.Connection.{Connection}
use Rattle.entries.specs.Connections.{connection_in, oldest}
use Rattle.entries.proofs.Connections.{length-oldest}
use Rattle.forest.specs.Rows.{connections_of, row_in, with_parent}
use Rattle.forest.specs.Filling.{Sounded, Tied, DepthsUnknown}
use Rattle.forest.proofs.Climbing.{resounded, within-at}
use Rattle.forest.proofs.Filled.{rows_are, tied-next, unknown-more}
use Rattle.forest.proofs.fill_rows.Goals as goal
use Rattle.forest.proofs.fill_rows.Goals.{After-loop-age, In-loop-age}

current-in : (c : In-loop-age) → cur (connection_in c.args.conns.now c.loop-age.age) < c.args.n
current-in c =
    within-at c.args.n c.args.conns.now (length c.args.conns.now / connection_words) c.loop-age.age c.requires.within c.loop-age-test.true

tied : (c : After-loop-age) → Tied (oldest c.loop-age.age c.args.conns.now) c.args.n c.args.rows.now c.loop-age.rows × DepthsUnknown c.args.n c.loop-age.rows
tied c =
    c.loop-age.invariant _ c.put_tops.ensures.0 c.put_tops.ensures.1

unsounded : (c : After-loop-age) → Sounded (connections_of c.args.conns.now) c.args.n c.args.rows.now c.loop-age.rows
unsounded c =
    let e : c.loop-age.age ≡ length c.args.conns.now / connection_words = omega arith in
    record {
      rooted = c.requires;
      tied = rw (← e) (tied c).0;
      right = λ a h z. absurd (omega (arith, (tied c).1 a h));
    }

pub loop-age-init : goal.loop-age-init
unfolding oldest
loop-age-init c = λ old t u. (t, u)

pub put_parent-requires : goal.put_parent-requires
put_parent-requires c =
    let above = goal.at.put_parent-requires c in
    let few : length c.args.conns.now / connection_words < node_limit = omega (arith, length-oldest (length c.args.conns.now / connection_words) c.args.conns.now, c.requires.short) in
    (omega (arith, (current-in above.In-loop-age), ap (λ (x : Connection). cur x) c.connection_at.ensures, c.requires.few), omega (arith, few))

pub loop-age-preserved : goal.loop-age-preserved
loop-age-preserved c =
    let above = goal.at.loop-age-preserved c in
    let l = c.loop-age in
    let x = connection_in c.args.conns.now l.age in
    let e : c.put_parent.new.rows ≡ set l.rows (cur x) (with_parent (nxt x) (l.age + 1) (row_in l.rows (cur x))) =
    c.put_parent.ensures
    ∙ ap (λ (y : Connection). set l.rows (cur y) (with_parent (nxt y) (l.age + 1) (row_in l.rows (cur y))))
    c.connection_at.ensures in
    λ old a u.
    let k = l.invariant old a u in (
      rw e (tied-next c.args.conns.now l.age k.0 c.requires.few (current-in above.In-loop-age)),
      rw e (unknown-more x (l.age + 1) k.0 c.requires.few (current-in above.In-loop-age) k.1),
    )

pub settle_all-requires : goal.settle_all-requires
settle_all-requires c =
    let above = goal.at.settle_all-requires c in
    record { conns = _; sounded = resounded (unsounded above.After-loop-age) }

pub returns : goal.returns
returns c =
    let above = goal.at.returns c in
    let w = c.settle_all.ensures (connections_of c.args.conns.now) c.args.rows.now (unsounded above.After-loop-age) in
    rows_are w.0.tied c.requires.few c.told-rows (λ a h. w.0.right a h (w.1 a h))
