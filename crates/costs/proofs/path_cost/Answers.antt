-- `costs::path_cost` meets its contract: a path costs what its two climbs cost.
use native.Mathlib.Omega.{arith}
use Prim.Native.Nat.{ℕ, ◌<◌}
use mathlib.Core.List.{List}
use mathlib.Core.Path.{sym, ap, ◌∙◌}
use Rattle.std.specs.Prelude.{is_some}
use Rattle.model.specs.declared.Connection.{Connection}
use Rattle.forest.specs.Rows.{Climbs}
use Rattle.costs.proofs.Climbs.{Two, two_at, joined-meet}
use Rattle.costs.proofs.path_cost.Goals as goal
use Rattle.costs.proofs.path_cost.Goals.{After-unwrap-top}

two : (c : After-unwrap-top) → (cs : List Connection) (n : ℕ) → Climbs cs n c.args.rows.now → c.args.left.0 < n → c.args.right.0 < n →
    Two c.args.rows.now cs c.args.left.0 c.args.right.0 c.unwrap-top.result.0
two c =
    λ cs n k p q. two_at _ k (sym c.unwrap-top.ensures ∙ c.meet.ensures cs n k p q)

two_here : (c : After-unwrap-top) → Two c.args.rows.now c.requires.conns c.args.left.0 c.args.right.0 c.unwrap-top.result.0
two_here c =
    (two c) c.requires.conns c.requires.nodes c.requires.charged.climbs c.requires.left_in c.requires.right-in

pub unwrap-top-requires : goal.unwrap-top-requires
unwrap-top-requires c =
    let q = c.requires in
    ap is_some (c.meet.ensures q.conns q.nodes q.charged.climbs q.left_in q.right-in) ∙ joined-meet q.conns c.args.left.0 c.args.right.0 q.same

pub climb_cost-up-requires : goal.climb_cost-up-requires
climb_cost-up-requires c =
    let above = goal.at.climb_cost-up-requires c in
    record { conns = c.requires.conns; nodes = c.requires.nodes; charged = c.requires.charged; inside = c.requires.left_in; above = (two_here above.After-unwrap-top).left }

pub climb_cost-down-requires : goal.climb_cost-down-requires
climb_cost-down-requires c =
    let above = goal.at.climb_cost-down-requires c in
    record { conns = c.requires.conns; nodes = c.requires.nodes; charged = c.requires.charged; inside = c.requires.right-in; above = (two_here above.After-unwrap-top).right }

pub capped-requires : goal.capped-requires
capped-requires c =
    let above = goal.at.capped-requires c in
    let t = two_here above.After-unwrap-top in
    let up = c.climb_cost-up.ensures c.requires.conns c.requires.nodes c.requires.charged.climbs c.requires.left_in t.left in
    let down = c.climb_cost-down.ensures c.requires.conns c.requires.nodes c.requires.charged.climbs c.requires.right-in t.right in
    (omega (arith, up, down), omega (arith, up, down))

pub returns : goal.returns
returns c =
    let above = goal.at.returns c in
    λ cs n k p q.
    let t = (two above.After-unwrap-top) cs n k p q in
    omega (arith, c.capped.ensures, c.climb_cost-down.ensures cs n k q t.right, c.climb_cost-up.ensures cs n k p t.left, t.cost)
