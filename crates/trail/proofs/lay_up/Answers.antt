use native.Mathlib.Omega.{arith}
use Prim.Native.Nat.{ℕ, ◌+◌, ◌-◌, ◌≤◌, ◌<◌}
use mathlib.Core.List.{List, reverse}
use mathlib.Core.Path.{◌≡◌, sym, ap, ◌∙◌}
use lib.ListN.{length, length-append}
use Rattle.model.specs.Limits.{node_limit, term_limit}
use Rattle.laws.specs.Area.{splice}
use Rattle.laws.proofs.Area.{length-splice, splice-none}
use Rattle.trail.specs.Legs.{ages}
use Rattle.trail.specs.Laid.{ages_at}
use Rattle.trail.proofs.Lies.{length_back}
use Rattle.trail.proofs.Laying.{Climb, back_one, climb-aged, climb-all, climb-falls, climb-next, climb-none, climb-room, splice-under}
use Rattle.trail.proofs.lay_up.Invariants.{Laid}
use Rattle.forest.proofs.Ends.{apart-yet, arrived}
use Rattle.trail.proofs.lay_up.Goals as goal
use Rattle.trail.proofs.lay_up.Goals.{At-loop-to, In-loop-to}

climb : (c : At-loop-to) → Climb c.args.rows.now c.requires.1.conns c.requires.1.nodes c.args.from.0 c.args.to.0 c.loop-to.at.0
    (Laid c.args.trail.now c.args.top c.loop-to.trail c.loop-to.start)
climb c =
    c.loop-to.invariant c.requires.1.conns c.requires.1.nodes c.requires.1.climbs c.requires.1.inside c.requires.1.above

room : (c : In-loop-to) → (length (ages_at c.args.rows.now c.loop-to.at.0) ≤ c.loop-to.start) × (length c.loop-to.trail ≡ term_limit)
room c =
    let above = goal.at.In-loop-to c in
    let few = climb-room c.requires.1.climbs (climb above.At-loop-to) (apart-yet _ _ c.ne.ensures c.loop-to-test.true) in
    let e = (climb above.At-loop-to).so.1 in
    let r = c.requires.1.few in
    let d = (climb above.At-loop-to).done in (
      omega arith,
      ap length (climb above.At-loop-to).so.0 ∙ length-splice c.args.trail.now c.loop-to.start (reverse d) (omega (arith, length_back d)) ∙ c.told-trail,
    )

pub loop-to-init : goal.loop-to-init
loop-to-init c = λ cs n k h a. climb-none h a (sym (splice-none c.args.trail.now c.args.top), omega arith)

pub overflow_sub-start : goal.overflow_sub-start
overflow_sub-start c =
    let above = goal.at.overflow_sub-start c in
    omega (arith, c.legs_at-start.ensures, (room above.In-loop-to).0)

pub lay-requires : goal.lay-requires
lay-requires c =
    let above = goal.at.lay-requires c in
    let small : c.loop-to.at.0 < node_limit = omega (arith, (climb above.At-loop-to).inside, c.requires.1.climbs.rooted.few) in
    let g = climb-aged c.requires.1.climbs (climb above.At-loop-to) (apart-yet _ _ c.ne.ensures c.loop-to-test.true) in
    (small, g.0, g.1, omega (arith, c.legs_at-start.ensures, (room above.In-loop-to).0, (climb above.At-loop-to).so.1, c.requires.0))

pub loop-to-smaller : goal.loop-to-smaller
loop-to-smaller c =
    let above = goal.at.loop-to-smaller c in
    climb-falls c.requires.1.climbs (climb above.At-loop-to) _ (apart-yet _ _ c.ne.ensures c.loop-to-test.true) c.next_of-at.ensures

pub loop-to-preserved : goal.loop-to-preserved
loop-to-preserved c =
    let above = goal.at.loop-to-preserved c in
    λ cs n k h a.
    let old = c.args.trail.now in
    let new = ages_at c.args.rows.now c.loop-to.at.0 in
    let start = c.loop-to.start - c.legs_at-start.result in
    climb-next k (c.loop-to.invariant cs n k h a) _ (apart-yet _ _ c.ne.ensures c.loop-to-test.true) c.next_of-at.ensures
    (λ done fits e.
    let up : c.loop-to.start ≡ start + length new = omega (arith, c.legs_at-start.ensures, (room above.In-loop-to).0) in (
      c.lay.ensures
          ∙ ap (λ (x : List ℕ). splice x start new) (e.0 ∙ ap (λ (i : ℕ). splice old i (reverse done)) up)
          ∙ splice-under old start new (reverse done) (omega (arith, e.1, length_back done, c.told-trail, c.requires.0))
          ∙ ap (splice old start) (sym (back_one c.args.rows.now c.loop-to.at.0 done)),
      omega (arith, e.1, length-append done new),
    ))

pub returns : goal.returns
returns c = λ cs n k h b.
    let w = climb-all k (c.loop-to.invariant cs n k h b) (arrived _ _ c.ne.ensures c.loop-to-test.false) in
    let a = c.args in
    let climbed = ages a.rows.now cs a.from.0 a.to.0 in
    let start : c.loop-to.start ≡ a.top - length climbed = omega (arith, w.1) in
    w.0 ∙ ap (λ (i : ℕ). splice a.trail.now i (reverse climbed)) start
