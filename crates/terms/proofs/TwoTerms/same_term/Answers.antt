use native.Mathlib.Omega.{arith}
use Prim.Native.Nat.{ℕ, ◌+◌, ◌-◌}
use mathlib.Core.Path.{◌≡◌, subst}
use Rattle.model.specs.Limits.{flat_words}
use Rattle.terms.specs.Place.{node_of}
use Rattle.terms.proofs.Single.{well-of}
use Rattle.terms.proofs.SameWalk.{SameHere, same_first, same-done, same-off, same_next, Room, same-room}
use Rattle.terms.proofs.TwoTerms.same_term.Goals as goal
use Rattle.terms.proofs.TwoTerms.same_term.Goals.{In-loop-pending}

room : (c : In-loop-pending) → Room c.args.self.words.now c.args.self.a c.args.self.b c.loop-pending.i c.loop-pending.j c.loop-pending.pending
room c =
    let l = c.loop-pending in
    let a = c.args in
    same-room a.self.words.now a.self.a a.self.b l.i l.j l.pending l.invariant (well-of c.args.self.well_a) (well-of c.args.self.well_b)

pub loop-pending-init : goal.loop-pending-init
loop-pending-init c = let a = c.args in same_first a.self.words.now a.self.a a.self.b

pub node_at-x-requires : goal.node_at-x-requires
node_at-x-requires c = (room (goal.at.node_at-x-requires c).In-loop-pending).first (omega arith)

pub node_at-y-requires : goal.node_at-y-requires
node_at-y-requires c = (room (goal.at.node_at-y-requires c).In-loop-pending).second (omega arith)

pub returns-then-not-same_head : goal.returns-then-not-same_head
returns-then-not-same_head c =
    let l = c.loop-pending in
    let a = c.args in
    same-off a.self.words.now a.self.a a.self.b l.i l.j l.pending (omega arith) (cc) l.invariant

pub loop-pending-preserved : goal.loop-pending-preserved
loop-pending-preserved c =
    let l = c.loop-pending in
    let a = c.args in
    let k : (node_of a.self.words.now l.i).count ≡ c.from.result = cc in
    subst (λ (n : ℕ). SameHere a.self.words.now a.self.a a.self.b (l.i + flat_words) (l.j + flat_words) (l.pending - 1 + n)) k
    (same_next a.self.words.now a.self.a a.self.b l.i l.j l.pending (omega arith) (cc) l.invariant)

pub overflow_add-pending : goal.overflow_add-pending
overflow_add-pending c =
    omega (arith, (same-room c.args.self.words.now c.args.self.a c.args.self.b _ _ _ (loop-pending-preserved c) (well-of c.args.self.well_a) (well-of c.args.self.well_b)).few, c.well_formed.0)

pub overflow_add-i : goal.overflow_add-i
overflow_add-i c =
    let r = (room (goal.at.overflow_add-i c).In-loop-pending).first (omega arith) in
    omega (arith, c.well_formed.0)

pub overflow_add-j : goal.overflow_add-j
overflow_add-j c =
    let r = (room (goal.at.overflow_add-j c).In-loop-pending).second (omega arith) in
    omega (arith, c.well_formed.0)

pub loop-pending-smaller : goal.loop-pending-smaller
loop-pending-smaller c =
    let r = (room (goal.at.loop-pending-smaller c).In-loop-pending).first (omega arith) in
    omega arith

pub returns : goal.returns
returns c =
    let l = c.loop-pending in
    let a = c.args in
    let z : l.pending ≡ 0 = omega arith in
    same-done a.self.words.now a.self.a a.self.b l.i l.j (subst (SameHere a.self.words.now a.self.a a.self.b l.i l.j) z l.invariant)
