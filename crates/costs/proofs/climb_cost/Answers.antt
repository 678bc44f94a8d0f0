use native.Mathlib.Omega.{arith}
use Prim.Native.Nat.{ℕ, ◌+◌}
use mathlib.Core.Path.{ap, ◌∙◌}
use Rattle.costs.specs.Costs.{held}
use Rattle.costs.proofs.Climbs.{Paid, onward, paid-all, paid-more}
use Rattle.forest.proofs.Ends.{apart-yet, arrived}
use Rattle.costs.proofs.climb_cost.Goals as goal

pub loop-to-smaller : goal.loop-to-smaller
loop-to-smaller c =
    let paid : Paid c.args.rows.now c.requires.conns c.requires.nodes c.args.from.0 c.args.to.0 c.loop-to.at.0 c.loop-to.sum = c.loop-to.invariant.1 c.requires.conns c.requires.nodes c.requires.charged.climbs c.requires.inside c.requires.above in
    (onward c.requires.charged.climbs (paid) _ (apart-yet _ _ c.ne.ensures c.loop-to-test.true) c.next_of-at.ensures).falls

pub loop-to-preserved : goal.loop-to-preserved
loop-to-preserved c =
    let e = c.capped-sum.ensures ∙ ap (λ (x : ℕ). held (c.loop-to.sum + x)) c.cost_of.ensures in
    (omega (arith, e), λ cs n k h a. paid-more k (c.loop-to.invariant.1 cs n k h a) _ _ (apart-yet _ _ c.ne.ensures c.loop-to-test.true) c.next_of-at.ensures e)

pub returns : goal.returns
returns c = λ cs n k h a. paid-all k (c.loop-to.invariant.1 cs n k h a) (arrived _ _ c.ne.ensures c.loop-to-test.false) c.loop-to.invariant.0
