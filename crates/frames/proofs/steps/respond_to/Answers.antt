-- `frames::steps::respond_to` meets its contract: the counted entries are tables of their own, and the answer over them is printed.
use mathlib.Core.Option.{some}
use mathlib.Core.Path.{refl}
use native.Mathlib.Omega.{arith}
use Rattle.entries.proofs.Connections.{connections}
use Rattle.frames.proofs.Front.{few-nodes, front-whole, front-supported}
use Rattle.frames.proofs.Query.{replied, replies, query-right}
use Rattle.frames.proofs.steps.respond_to.Goals as goal

pub overflow_mul-n : goal.overflow_mul-n
overflow_mul-n c =
    omega (arith, few-nodes c.args.store.now.nodes _ _ c.requires.stands.nodes)

pub overflow_mul-c : goal.overflow_mul-c
overflow_mul-c c =
    omega (arith, (connections c.requires.state.tables.nodes c.args.store.now.conns _ _ c.requires.stands.conns).room)

pub shared_ref_as_front-respond : goal.shared_ref_as_front-respond
shared_ref_as_front-respond c =
    omega (arith, few-nodes c.args.store.now.nodes _ _ c.requires.stands.nodes)

pub shared_ref_as_front-respond-2 : goal.shared_ref_as_front-respond-2
shared_ref_as_front-respond-2 c =
    omega (arith, (connections c.requires.state.tables.nodes c.args.store.now.conns _ _ c.requires.stands.conns).room)

pub respond-answer-requires : goal.respond-answer-requires
respond-answer-requires c =
    let r = c.requires.stands in
    (front-whole c.args.store.now.nodes _ _ r.nodes, front-supported c.args.store.now.nodes _ _ r.nodes c.args.store.now.conns _ _ r.conns)

pub put_answer-printed-requires : goal.put_answer-printed-requires
put_answer-printed-requires c =
    let r = c.requires in (
      (replied c.args.counts c.args.store.now.nodes c.args.store.now.conns r.state.tables r.stands.nodes r.stands.conns (omega arith) c.respond-answer.ensures).prints,
      omega arith,
      omega arith,
    )

pub returns : goal.returns
returns c =
    let a = c.args in
    let x = replies a.counts a.store.now.nodes a.store.now.conns a.line a.left.0 a.right.0 a.store.now.room _ _ (omega arith) c.respond-answer.ensures
    c.put_answer-printed.ensures.value c.put_answer-printed.ensures.room_after in
    record {
      replies = (x, refl, refl, refl, refl);
      pair_step = λ s h.
          query-right a.counts a.store.now s h a.line (some (record { left = a.left.0; right = a.right.0 })) a.store.now.room _ _ refl x;
    }
