use native.Mathlib.Omega.{arith}
use Prim.Native.Nat.{ℕ, ◌/◌, ◌≤◌, ◌<◌}
use mathlib.Core.Bool.{Bool, true, false}
use mathlib.Core.Path.{◌≡◌, sym, ap, subst, subst₂, ◌∙◌}
use lib.ListN.{get_or, length, length-set}
use Rattle.model.specs.declared.Connection.{Connection}
use Rattle.model.specs.Limits.{distance_limit, node_limit}
use Rattle.model.specs.Forest.{cur}
use Rattle.model.specs.Tables.{connection_words}
use Rattle.entries.specs.Nodes.{nodes_of}
use Rattle.entries.proofs.Connections.{length-oldest}
use Rattle.forest.specs.Rows.{cost_in, connections_of}
use Rattle.costs.specs.Costs.{cost_at, weigh}
use Rattle.trees.specs.Sizes.{held_nodes}
use Rattle.needs.specs.Needs.{Appends, Led, appended_by, need_at, path_nodes}
use Rattle.needs.proofs.Filling.{counted-exact, from, led, needs-more, to}
use Rattle.needs.proofs.fill_needs.Goals as goal
use Rattle.needs.proofs.fill_needs.Goals.{After-connection_at-c, In-loop-age}

leads : (c : After-connection_at-c) → (up : Bool) →
    let a = c.args in
    let x = c.connection_at-c.result in
    Led a.lent.nodes.words.now a.lent.rows.now a.lent.sizes.now x.why (from up x) (to up x)
leads c =
    λ up. subst (λ (x : Connection). Led c.args.lent.nodes.words.now c.args.lent.rows.now c.args.lent.sizes.now x.why (from up x) (to up x))
    (sym c.connection_at-c.ensures) (led c.args.lent.counts c.loop-age.age c.loop-age-test.true up)

few : (c : In-loop-age) → c.loop-age.age < node_limit
few c =
    omega (arith, length-oldest (length c.args.lent.conns.now / connection_words) c.args.lent.conns.now, c.args.lent.counts.charged.climbs.rooted.short)

pub cost_of-requires : goal.cost_of-requires
cost_of-requires c =
    let above = goal.at.cost_of-requires c in
    omega (arith, ((leads above.After-connection_at-c) false).right-in, ((leads above.After-connection_at-c) false).few.few)

pub connection_need-up-requires : goal.connection_need-up-requires
connection_need-up-requires c =
    let above = goal.at.connection_need-up-requires c in
    (leads above.After-connection_at-c) true

pub connection_need-down-requires : goal.connection_need-down-requires
connection_need-down-requires c =
    let above = goal.at.connection_need-down-requires c in
    (leads above.After-connection_at-c) false

pub bounds-appended-age : goal.bounds-appended-age
bounds-appended-age c =
    let above = goal.at.bounds-appended-age c in
    (few above.In-loop-age)

pub bounds-appended-age-in-loop-age : goal.bounds-appended-age-in-loop-age
bounds-appended-age-in-loop-age c =
    let above = goal.at.bounds-appended-age-in-loop-age c in
    (few above.In-loop-age)

pub loop-age-preserved : goal.loop-age-preserved
loop-age-preserved c =
    let above = goal.at.loop-age-preserved c in
    let Said : Bool → ℕ → ℕ → Connection → Type 0 = λ up r cost x. let a = c.args in
    let cs = connections_of a.lent.conns.now in
    Appends cost
    (appended_by (λ k. get_or a.lent.sizes.now k 0) (weigh a.lent.rows.now cs) (path_nodes c.loop-age.appended.ups c.loop-age.appended.downs cs) a.lent.nodes.words.now x.why (from up x)
    (to up x)) r in
    let exact : (up : Bool) (r : ℕ) →
    let a = c.args in
    Said up r c.from-cost.result c.connection_at-c.result → cost_at (nodes_of a.lent.nodes.words.now) a.lent.conns.now c.loop-age.age ≤ distance_limit →
    r ≡ held_nodes (need_at (nodes_of a.lent.nodes.words.now) a.lent.conns.now c.loop-age.age up) = λ up r p. let e = c.from-cost.ensures ∙ c.cost_of.ensures ∙ ap (λ (y : Connection). cost_in c.args.lent.rows.now (cur y)) c.connection_at-c.ensures in
    counted-exact c.args.lent.counts c.loop-age.age c.loop-age-test.true c.loop-age.appended.ups c.loop-age.appended.downs c.loop-age.invariant.2 up r
    (subst₂ (Said up r) e c.connection_at-c.ensures p) in
    let said-up : Said true c.connection_need-up.result c.from-cost.result c.connection_at-c.result = c.connection_need-up.ensures (connections_of c.args.lent.conns.now) c.args.lent.counts.charged.climbs in
    let said-down : Said false c.connection_need-down.result c.from-cost.result c.connection_at-c.result = c.connection_need-down.ensures (connections_of c.args.lent.conns.now) c.args.lent.counts.charged.climbs in (
      simp length-set c.loop-age.invariant.0,
      simp length-set c.loop-age.invariant.1,
      needs-more _ _ c.loop-age.invariant.2 (omega (arith, (few above.In-loop-age), c.loop-age.invariant.0)) (omega (arith, (few above.In-loop-age), c.loop-age.invariant.1)) (exact true _ (said-up))
          (exact false _ (said-down)),
    )
