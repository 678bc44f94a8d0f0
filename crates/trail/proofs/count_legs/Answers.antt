use native.Mathlib.Omega.{arith}
use lib.ListN.{length-append}
use Rattle.trail.specs.Laid.{ages_at}
use Rattle.trail.proofs.Laying.{Climb, climb-all, climb-falls, climb-next}
use Rattle.trail.proofs.count_legs.Invariants.{Counted}
use Rattle.forest.proofs.Ends.{apart-yet, arrived}
use Rattle.trail.proofs.count_legs.Goals as goal

pub loop-to-smaller : goal.loop-to-smaller
loop-to-smaller c =
    let climb : Climb c.args.rows.now c.requires.conns c.requires.nodes c.args.from.0 c.args.to.0 c.loop-to.at.0 (Counted c.loop-to.count) = c.loop-to.invariant c.requires.conns c.requires.nodes c.requires.climbs c.requires.inside c.requires.above in
    climb-falls c.requires.climbs (climb) _ (apart-yet _ _ c.ne.ensures c.loop-to-test.true) c.next_of-at.ensures

pub loop-to-preserved : goal.loop-to-preserved
loop-to-preserved c = λ cs n k h a.
    climb-next k (c.loop-to.invariant cs n k h a) _ (apart-yet _ _ c.ne.ensures c.loop-to-test.true) c.next_of-at.ensures
    (λ done room e. omega (arith, c.legs_at-count.ensures, length-append done (ages_at c.args.rows.now c.loop-to.at.0)))

pub returns : goal.returns
returns c = λ cs n k h a. climb-all k (c.loop-to.invariant cs n k h a) (arrived _ _ c.ne.ensures c.loop-to-test.false)
