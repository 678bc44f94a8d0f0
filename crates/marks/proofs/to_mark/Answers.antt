use native.Mathlib.Omega.{arith}
use Prim.Native.Nat.{◌+◌, ◌*◌, ◌≤◌}
use mathlib.Core.Path.{◌≡◌, ◌∙◌}
use lib.ListN.{length}
use Rattle.model.specs.Limits.{flat_words}
use Rattle.terms.specs.Place.{node_of}
use Rattle.marks.proofs.Walk.{walk_first, walk-next, walk-found, walk-done, walk-room, walk-few}
use Rattle.marks.proofs.to_mark.Goals as goal
use Rattle.marks.proofs.to_mark.Goals.{In-loop-pending}

room : (c : In-loop-pending) → c.args.at + flat_words * c.loop-pending.nodes + flat_words ≤ length c.args.words.now
room c =
    let l = c.loop-pending in
    walk-room c.args.words.now c.args.at c.args.count l.nodes l.pending l.invariant c.requires (omega arith)

pub loop-pending-init : goal.loop-pending-init
loop-pending-init c = let a = c.args in walk_first a.words.now a.at a.count

pub overflow_mul-nodes : goal.overflow_mul-nodes
overflow_mul-nodes c = omega (arith, room c, c.well_formed.0)

pub overflow_add-at : goal.overflow_add-at
overflow_add-at c = omega (arith, room c, c.well_formed.0)

pub node_at-n-requires : goal.node_at-n-requires
node_at-n-requires c = room c

pub returns-then-n-ne0 : goal.returns-then-n-ne0
returns-then-n-ne0 c = λ f h.
    let l = c.loop-pending in
    let a = c.args in
    let mark : c.node_at-n.result.mark ≡ (node_of a.words.now (a.at + flat_words * l.nodes)).mark = cc in
    walk-found a.words.now a.at a.count l.nodes l.pending l.invariant (omega arith) (λ z. c.if-n-ne0.true (mark ∙ z)) f h

pub loop-pending-preserved : goal.loop-pending-preserved
loop-pending-preserved c =
    let l = c.loop-pending in
    let a = c.args in
    let k : (node_of a.words.now (a.at + flat_words * l.nodes)).count ≡ c.from.result = cc in
    rw k at (walk-next a.words.now a.at a.count l.nodes l.pending l.invariant (omega arith) (cc))

pub overflow_add-pending : goal.overflow_add-pending
overflow_add-pending c =
    omega (arith, walk-few c.args.words.now c.args.at c.args.count _ _ (loop-pending-preserved c) c.requires, c.well_formed.0)

pub overflow_add-nodes : goal.overflow_add-nodes
overflow_add-nodes c = omega (arith, room (goal.at.overflow_add-nodes c).In-loop-pending, c.well_formed.0)

pub loop-pending-smaller : goal.loop-pending-smaller
loop-pending-smaller c = omega (arith, room (goal.at.loop-pending-smaller c).In-loop-pending)

pub returns : goal.returns
returns c = λ f h.
    let l = c.loop-pending in
    let a = c.args in
    walk-done a.words.now a.at a.count l.nodes l.pending l.invariant (omega arith) f h
