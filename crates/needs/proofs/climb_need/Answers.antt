use native.Mathlib.Omega.{arith}
use Prim.Native.Nat.{ℕ, ◌+◌, ◌-◌}
use mathlib.Core.Path.{◌≡◌, refl, ap, ◌∙◌}
use lib.ListN.{get_or}
use Rattle.forest.specs.Rows.{age_in, cost_in, next_in}
use Rattle.trees.specs.Sizes.{held_nodes}
use Rattle.needs.proofs.Climbed.{Counted, Gone, gone-all, gone-falls, gone-more, gone-up}
use Rattle.forest.proofs.Ends.{apart-yet, arrived}
use Rattle.needs.proofs.climb_need.Goals as goal
use Rattle.needs.proofs.climb_need.Goals.{At-loop-to, In-loop-to}

gone : (c : At-loop-to) → Gone c.args.rows.now c.args.table.now c.requires.conns c.requires.nodes c.args.from.0 c.args.to.0 c.loop-to.at.0
    c.loop-to.cost c.loop-to.nodes
gone c =
    c.loop-to.invariant.2 c.requires.conns c.requires.nodes c.requires.charged.climbs c.requires.inside c.requires.above

aged : (c : In-loop-to) → Counted c.args.rows.now c.args.table.now c.requires.conns c.loop-to.at.0 c.args.to.0 (next_in c.args.rows.now c.loop-to.at.0)
aged c =
    let above = goal.at.In-loop-to c in
    gone-up c.requires.charged.climbs (gone above.At-loop-to) _ (apart-yet _ _ c.ne.ensures c.loop-to-test.true) refl

pub overflow_sub-age_of : goal.overflow_sub-age_of
overflow_sub-age_of c =
    let above = goal.at.overflow_sub-age_of c in
    omega (arith, (aged above.In-loop-to).aged)

pub amount-requires : goal.amount-requires
amount-requires c =
    let above = goal.at.amount-requires c in
    omega (arith, (aged above.In-loop-to).few)

pub loop-to-smaller : goal.loop-to-smaller
loop-to-smaller c =
    let above = goal.at.loop-to-smaller c in
    gone-falls c.requires.charged.climbs (gone above.At-loop-to) _ (apart-yet _ _ c.ne.ensures c.loop-to-test.true) c.next_of-at.ensures

pub loop-to-preserved : goal.loop-to-preserved
loop-to-preserved c =
    let costs : c.held-cost.result ≡ held_nodes (c.loop-to.cost + cost_in c.args.rows.now c.loop-to.at.0) = c.held-cost.ensures ∙ ap (λ (x : ℕ). held_nodes (c.loop-to.cost + x)) (c.from.ensures ∙ c.cost_of.ensures) in
    let appends : let a = c.args in
    c.held-nodes.result ≡ held_nodes (c.loop-to.nodes + get_or a.table.now (age_in a.rows.now c.loop-to.at.0 - 1) 0) = let t = c.args.table.now in
    c.held-nodes.ensures
    ∙ ap (λ (x : ℕ). held_nodes (c.loop-to.nodes + x))
    (c.amount.ensures.0 ∙ ap (λ (x : ℕ). get_or t (x - 1) 0) c.age_of.ensures) in (
      omega (arith, costs),
      omega (arith, appends),
      λ cs n k i a. gone-more k (c.loop-to.invariant.2 cs n k i a) _ (apart-yet _ _ c.ne.ensures c.loop-to-test.true) c.next_of-at.ensures (costs) (appends),
    )

pub returns : goal.returns
returns c = λ cs n k h a.
    gone-all k (c.loop-to.invariant.2 cs n k h a) (arrived _ _ c.ne.ensures c.loop-to-test.false) refl refl c.loop-to.invariant.0 c.loop-to.invariant.1
