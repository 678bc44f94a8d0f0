-- `frames::frame_step` meets its contract: each kind's frame comes to its own turn.
use native.Mathlib.Omega.{arith}
use mathlib.Core.Bool.{true}
use mathlib.Core.Path.{◌≡◌, refl}
use Rattle.model.specs.Run.{State, in_order}
use Rattle.frames.proofs.Ordered.{out_of_order, of_node, of-rule, of-connection, of-query, of_words, of_end, of_none, not-above, as-turn, ordered, disordered}
use Rattle.frames.specs.State.{Stands}
use Rattle.frames.proofs.frame_step.Goals.{Else-not-in_order}
use Rattle.frames.proofs.frame_step.Goals as goal

-- the kind follows the state's
follows : (c : Else-not-in_order) (s : State) → Stands c.args.counts c.args.store.now s → in_order s.kind c.args.kind ≡ true
follows c s h = ordered s c.args.counts.kind c.args.kind h.kind c.in_order.ensures c.if-not-in_order.false-raw

pub returns-then-not-in_order : goal.returns-then-not-in_order
returns-then-not-in_order c s h =
    let a = c.args in
    as-turn _ _ (out_of_order s a.line a.kind a.bytes.now (disordered s a.counts.kind a.kind h.kind c.in_order.ensures c.if-not-in_order.true-raw)) refl

pub connection_step-requires : goal.connection_step-requires
connection_step-requires c =
    let r = c.requires in (
      record { nodes = r.state.tables.nodes; conns = r.state.tables.conns; table = r.stands.nodes; joins = r.stands.conns; tops = r.stands.tops },
      record { nodes = omega arith; conns = omega arith; classes = omega arith },
    )

pub returns-in-1 : goal.returns-in-1
returns-in-1 c s h =
    let a = c.args in
    let o = follows (goal.at.returns-in-1 c).Else-not-in_order s h in
    let k = c.in-1.is in
    as-turn _ _ (of_node s a.line a.kind a.bytes.now o k) (c.node_step.ensures s h (h.fresh (omega (arith, not-above s.kind a.kind o (omega (arith, k)), h.kind, k))))

pub returns-in-2 : goal.returns-in-2
returns-in-2 c s h =
    let a = c.args in
    let o = follows (goal.at.returns-in-2 c).Else-not-in_order s h in
    let k = c.in-2.is in
    as-turn _ _ (of-rule s a.line a.kind a.bytes.now o k) (c.rule_step.ensures s h (h.fresh (omega (arith, not-above s.kind a.kind o (omega (arith, k)), h.kind, k))))

pub returns-in-3 : goal.returns-in-3
returns-in-3 c s h =
    let a = c.args in
    let o = follows (goal.at.returns-in-3 c).Else-not-in_order s h in
    let k = c.in-3.is in
    as-turn _ _ (of-connection s a.line a.kind a.bytes.now o k) (c.connection_step.ensures a.store.now.rules a.store.now.area a.store.now.room s h)

pub returns-in-4 : goal.returns-in-4
returns-in-4 c s h =
    let a = c.args in
    let o = follows (goal.at.returns-in-4 c).Else-not-in_order s h in
    let k = c.in-4.is in
    as-turn _ _ (of-query s a.line a.kind a.bytes.now o k) (c.query_step.ensures s h)

pub returns-in-5 : goal.returns-in-5
returns-in-5 c s h =
    let a = c.args in
    let o = follows (goal.at.returns-in-5 c).Else-not-in_order s h in
    let k = c.in-5.is in
    as-turn _ _ (of_words s a.line a.kind a.bytes.now o k) (c.words_step.ensures s h)

pub returns-in-6 : goal.returns-in-6
returns-in-6 c s h =
    let a = c.args in
    let o = follows (goal.at.returns-in-6 c).Else-not-in_order s h in
    let k = c.in-6.is in
    as-turn _ _ (of_end s a.line a.kind a.bytes.now o k) (c.close_step.ensures s h)

pub returns-in_default : goal.returns-in_default
returns-in_default c s h =
    let a = c.args in
    let o = follows (goal.at.returns-in_default c).Else-not-in_order s h in
    let no = c.in_default.in_default-own.rest in
    as-turn _ _ (of_none s a.line a.kind a.bytes.now o no.0.0.0.0.0.1 no.0.0.0.0.1 no.0.0.0.1 no.0.0.1 no.0.1 no.1) refl
