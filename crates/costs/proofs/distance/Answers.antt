-- `costs::distance` meets its contract: the sum over the path by the rows' costs is the distance, both held at the cap.
use native.Mathlib.Omega.{arith}
use Prim.Native.Nat.{◌/◌}
use mathlib.Core.Path.{◌∙◌}
use lib.ListN.{length}
use Rattle.entries.specs.Nodes.{nodes_of}
use Rattle.model.specs.Tables.{connection_words}
use Rattle.forest.specs.Rows.{connections_of}
use Rattle.costs.specs.Costs.{Charged, Filled, nodes_in}
use Rattle.costs.proofs.Priced.{charged-priced, filled-priced, weigh-dist}
use Rattle.costs.proofs.distance.Goals as goal
use Rattle.costs.proofs.distance.Goals.{After-fill_costs}

charged : (c : After-fill_costs) → let a = c.args in
    Charged (connections_of a.tables.conns.now) (nodes_in a.tables.nodes.now) c.fill_costs.new.rows
charged c =
    let r = c.requires.charged.climbs.rooted in
    rw c.fill_costs.ensures
    (charged-priced (nodes_of c.args.tables.nodes.now) c.args.tables.conns.now c.requires.charged _ r.within r.forest _ (omega arith))

pub path_cost-requires : goal.path_cost-requires
path_cost-requires c =
    let above = goal.at.path_cost-requires c in
    record { conns = _; nodes = _; charged = (charged above.After-fill_costs); left_in = c.requires.between.left_in; right-in = c.requires.between.right-in; same = c.requires.between.same }

pub returns : goal.returns
returns c =
    let above = goal.at.returns c in
    let filled : let a = c.args in
    Filled (nodes_of a.tables.nodes.now) a.tables.conns.now c.fill_costs.new.rows (length a.tables.conns.now / connection_words) = let r = c.requires.charged.climbs.rooted in
    rw c.fill_costs.ensures
    (filled-priced (nodes_of c.args.tables.nodes.now) c.args.tables.conns.now c.requires.charged _ r.within r.forest _ (omega arith)) in record {
      value = c.from.ensures ∙ c.path_cost.ensures (connections_of c.args.tables.conns.now) _ (charged above.After-fill_costs).climbs c.requires.between.left_in c.requires.between.right-in
          ∙ weigh-dist (nodes_of c.args.tables.nodes.now) c.args.tables.conns.now _ _ _ _ (filled);
      rows_after = c.fill_costs.ensures;
    }
