use native.Mathlib.Omega.{arith}
use native.Mathlib.Nat.{add-zero}
use Prim.Native.Nat.{ℕ, ◌+◌, ◌≤◌, ◌<◌}
use mathlib.Core.List.{List}
use mathlib.Core.Path.{◌≡◌, sym, ap, ap₂, ◌∙◌}
use lib.ListN.{length, length-append}
use Rattle.model.specs.Limits.{node_limit, term_limit}
use Rattle.laws.specs.Area.{splice}
use Rattle.laws.proofs.Area.{length-splice, splice-more, splice-none}
use Rattle.trail.specs.Laid.{ages_at}
use Rattle.trail.proofs.Laying.{Climb, climb-aged, climb-all, climb-falls, climb-next, climb-none, climb-room}
use Rattle.trail.proofs.lay_down.Invariants.{Laid}
use Rattle.forest.proofs.Ends.{apart-yet, arrived}
use Rattle.trail.proofs.lay_down.Goals as goal
use Rattle.trail.proofs.lay_down.Goals.{At-loop-to, In-loop-to}

climb : (c : At-loop-to) → Climb c.args.rows.now c.requires.1.conns c.requires.1.nodes c.args.from.0 c.args.to.0 c.loop-to.at.0
    (Laid c.args.trail.now c.args.used c.loop-to.trail c.loop-to.end)
climb c =
    c.loop-to.invariant c.requires.1.conns c.requires.1.nodes c.requires.1.climbs c.requires.1.inside c.requires.1.above

room : (c : In-loop-to) → (c.loop-to.end + length (ages_at c.args.rows.now c.loop-to.at.0) ≤ term_limit) × (length c.loop-to.trail ≡ term_limit)
room c =
    let above = goal.at.In-loop-to c in
    let few = climb-room c.requires.1.climbs (climb above.At-loop-to) (apart-yet _ _ c.ne.ensures c.loop-to-test.true) in
    let e = (climb above.At-loop-to).so.1 in
    let r = c.requires.1.few in
    (omega arith, ap length (climb above.At-loop-to).so.0 ∙ length-splice c.args.trail.now c.args.used (climb above.At-loop-to).done (omega arith) ∙ c.told-trail)

pub loop-to-init : goal.loop-to-init
loop-to-init c = λ cs n k h a.
    climb-none h a (sym (splice-none c.args.trail.now c.args.used), sym (add-zero c.args.used))

pub lay-requires : goal.lay-requires
lay-requires c =
    let above = goal.at.lay-requires c in
    let small : c.loop-to.at.0 < node_limit = omega (arith, (climb above.At-loop-to).inside, c.requires.1.climbs.rooted.few) in
    let g = climb-aged c.requires.1.climbs (climb above.At-loop-to) (apart-yet _ _ c.ne.ensures c.loop-to-test.true) in
    (small, g.0, g.1, (room above.In-loop-to).0)

pub loop-to-smaller : goal.loop-to-smaller
loop-to-smaller c =
    let above = goal.at.loop-to-smaller c in
    climb-falls c.requires.1.climbs (climb above.At-loop-to) _ (apart-yet _ _ c.ne.ensures c.loop-to-test.true) c.next_of-at.ensures

pub loop-to-preserved : goal.loop-to-preserved
loop-to-preserved c =
    let above = goal.at.loop-to-preserved c in
    λ cs n k h a.
    let old = c.args.trail.now in
    let used = c.args.used in
    let new = ages_at c.args.rows.now c.loop-to.at.0 in
    climb-next k (c.loop-to.invariant cs n k h a) _ (apart-yet _ _ c.ne.ensures c.loop-to-test.true) c.next_of-at.ensures
    (λ done fits e. (
      c.lay.ensures
          ∙ ap₂ (λ (x : List ℕ) (y : ℕ). splice x y new) e.0 e.1
          ∙ splice-more old used done new (omega (arith, e.1, (room above.In-loop-to).0, c.told-trail)),
      omega (arith, c.legs_at-end.ensures, e.1, length-append done new),
    ))

pub returns : goal.returns
returns c = λ cs n k h a. climb-all k (c.loop-to.invariant cs n k h a) (arrived _ _ c.ne.ensures c.loop-to-test.false)
