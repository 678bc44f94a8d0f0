use native.Mathlib.Omega.{arith}
use Prim.Native.Nat.{◌/◌}
use mathlib.Core.List.{List}
use mathlib.Core.Path.{◌≡◌, ap, ◌∙◌}
use lib.ListN.{length, set}
use Rattle.forest.specs.declared.Row.{Row}
use Rattle.model.specs.declared.Connection.{Connection}
use Rattle.model.specs.Forest.{cur, nxt, cost_by}
use Rattle.entries.specs.Nodes.{nodes_of}
use Rattle.model.specs.Tables.{connection_words}
use Rattle.forest.specs.Rows.{connections_of, row_in, with_cost}
use Rattle.costs.specs.Costs.{Charged, Filled, cost_at, held, nodes_in, weigh}
use Rattle.costs.proofs.Payable.{pairs, payable}
use Rattle.costs.proofs.Priced.{charged-priced, cost-by, filled-priced, priced-more, priced-none}
use Rattle.costs.proofs.fill_costs.Goals as goal
use Rattle.costs.proofs.fill_costs.Goals.{At-loop-age}

charged : (c : At-loop-age) → let a = c.args in
    Charged (connections_of a.tables.conns.now) (nodes_in a.tables.nodes.now) c.loop-age.rows
charged c =
    let r = c.requires.climbs.rooted in
    rw c.loop-age.invariant
    (charged-priced (nodes_of c.args.tables.nodes.now) c.args.tables.conns.now c.requires _ r.within r.forest c.loop-age.age (omega arith))

pub loop-age-init : goal.loop-age-init
loop-age-init c = priced-none _ _ _

pub connection_cost-cost-requires : goal.connection_cost-cost-requires
connection_cost-cost-requires c =
    let above = goal.at.connection_cost-cost-requires c in
    rw c.connection_at-c.ensures (payable c.args.tables.supported c.loop-age.age c.loop-age-test.true c.loop-age.rows (charged above.At-loop-age))

pub put_cost-requires : goal.put_cost-requires
put_cost-requires c =
    let above = goal.at.put_cost-requires c in
    let p = payable c.args.tables.supported c.loop-age.age c.loop-age-test.true c.loop-age.rows (charged above.At-loop-age) in
    omega (arith, p.current-in, ap (λ (x : Connection). cur x) c.connection_at-c.ensures, (charged above.At-loop-age).climbs.rooted.few)

pub loop-age-preserved : goal.loop-age-preserved
loop-age-preserved c =
    let above = goal.at.loop-age-preserved c in
    let filled : let a = c.args in
    Filled (nodes_of a.tables.nodes.now) a.tables.conns.now c.loop-age.rows c.loop-age.age = let r = c.requires.climbs.rooted in
    rw c.loop-age.invariant
    (filled-priced (nodes_of c.args.tables.nodes.now) c.args.tables.conns.now c.requires _ r.within r.forest c.loop-age.age (omega arith)) in
    let cost : let a = c.args in
    c.connection_cost-cost.result ≡ held (cost_at (nodes_of a.tables.nodes.now) a.tables.conns.now c.loop-age.age) = let ns = nodes_of c.args.tables.nodes.now in
    let d = weigh c.loop-age.rows (connections_of c.args.tables.conns.now) in
    c.connection_cost-cost.ensures (connections_of c.args.tables.conns.now) (charged above.At-loop-age).climbs
    ∙ ap (λ (x : Connection). held (cost_by ns d x.why (cur x) (nxt x))) c.connection_at-c.ensures
    ∙ cost-by ns c.args.tables.conns.now c.loop-age.rows c.loop-age.age (length c.args.tables.conns.now / connection_words) (omega arith) (filled)
    (pairs c.args.tables.supported c.loop-age.age c.loop-age-test.true) in
    let x = c.connection_at-c in
    c.put_cost.ensures
    ∙ ap (λ (r : List Row). set r (cur x.result) (with_cost c.connection_cost-cost.result (row_in r (cur x.result)))) c.loop-age.invariant
    ∙ priced-more (nodes_of c.args.tables.nodes.now) c.args.tables.conns.now c.loop-age.age c.args.rows.now x.result _ x.ensures (cost)
