-- `needs::path_need` meets its contract: a path costs and appends what its two climbs do.
use native.Mathlib.Omega.{arith}
use Prim.Native.Nat.{ℕ, ◌<◌}
use mathlib.Core.List.{List}
use mathlib.Core.Path.{sym, ap, ◌∙◌}
use Rattle.std.specs.Prelude.{is_some}
use Rattle.model.specs.declared.Connection.{Connection}
use Rattle.forest.specs.Rows.{Climbs}
use Rattle.costs.specs.Costs.{weigh}
use Rattle.costs.proofs.Climbs.{Two, two_at, joined-meet}
use Rattle.needs.specs.declared.Need.{Need}
use Rattle.needs.specs.Needs.{Comes, tally}
use Rattle.needs.proofs.Climbed.{two_ways}
use Rattle.needs.proofs.path_need.Goals as goal
use Rattle.needs.proofs.path_need.Goals.{After-climb_need-b, After-unwrap-top}

two : (c : After-unwrap-top) → (cs : List Connection) (n : ℕ) → Climbs cs n c.args.rows.now → c.args.left.0 < n → c.args.right.0 < n →
    Two c.args.rows.now cs c.args.left.0 c.args.right.0 c.unwrap-top.result.0
two c =
    λ cs n k p q. two_at _ k (sym c.unwrap-top.ensures ∙ c.meet.ensures cs n k p q)

two_here : (c : After-unwrap-top) → Two c.args.rows.now c.requires.conns c.args.left.0 c.args.right.0 c.unwrap-top.result.0
two_here c =
    (two c) c.requires.conns c.requires.nodes c.requires.charged.climbs c.requires.left_in c.requires.right-in

abbrev Climb : After-unwrap-top → Need → List ℕ → List Connection → ℕ → Type 0
Climb c r table cs from = let top = c.unwrap-top.result.0 in
    Comes r (weigh c.args.rows.now cs from top) (tally table cs from top)

sides : (c : After-climb_need-b) → let a = c.args in
    let here = (goal.at.After-climb_need-b c).After-unwrap-top in
    (cs : List Connection) (n : ℕ) → Climbs cs n a.rows.now → a.left.0 < n → a.right.0 < n →
    Climb here c.climb_need-a.result a.appended.now.ups cs a.left.0 × Climb here c.climb_need-b.result a.appended.now.downs cs a.right.0
sides c =
    let above = goal.at.After-climb_need-b c in
    λ cs n k p q.
    let t = (two above.After-unwrap-top) cs n k p q in
    (c.climb_need-a.ensures cs n k p t.left, c.climb_need-b.ensures cs n k q t.right)

sides-here : (c : After-climb_need-b) →
    let here = (goal.at.After-climb_need-b c).After-unwrap-top in
    Climb here c.climb_need-a.result c.args.appended.now.ups c.requires.conns c.args.left.0
    × Climb here c.climb_need-b.result c.args.appended.now.downs c.requires.conns c.args.right.0
sides-here c =
    (sides c) c.requires.conns c.requires.nodes c.requires.charged.climbs c.requires.left_in c.requires.right-in

pub unwrap-top-requires : goal.unwrap-top-requires
unwrap-top-requires c =
    let q = c.requires in
    ap is_some (c.meet.ensures q.conns q.nodes q.charged.climbs q.left_in q.right-in) ∙ joined-meet q.conns c.args.left.0 c.args.right.0 q.same

pub climb_need-a-requires : goal.climb_need-a-requires
climb_need-a-requires c =
    let above = goal.at.climb_need-a-requires c in
    record { conns = c.requires.conns; nodes = c.requires.nodes; charged = c.requires.charged; inside = c.requires.left_in; above = (two_here above.After-unwrap-top).left }

pub climb_need-b-requires : goal.climb_need-b-requires
climb_need-b-requires c =
    let above = goal.at.climb_need-b-requires c in
    record { conns = c.requires.conns; nodes = c.requires.nodes; charged = c.requires.charged; inside = c.requires.right-in; above = (two_here above.After-unwrap-top).right }

pub overflow_add-a : goal.overflow_add-a
overflow_add-a c =
    let above = goal.at.overflow_add-a c in
    let w = (sides-here above.After-climb_need-b) in omega (arith, w.0.cost, w.1.cost)

pub overflow_add-a-2 : goal.overflow_add-a-2
overflow_add-a-2 c =
    let above = goal.at.overflow_add-a-2 c in
    let w = (sides-here above.After-climb_need-b) in omega (arith, w.0.nodes, w.1.nodes)

pub returns : goal.returns
returns c =
    let above = goal.at.returns c in
    λ cs n k p q.
    let s = c.args in
    let d = (sides above.After-climb_need-b) cs n k p q in
    let e = two_ways s.appended.now.ups s.appended.now.downs s.left.0 s.right.0 k
    (sym c.unwrap-top.ensures ∙ c.meet.ensures cs n k p q) in
    record {
      cost = omega (arith, c.held.ensures, d.0.cost, d.1.cost, ((two above.After-unwrap-top) cs n k p q).cost);
      nodes = omega (arith, c.held-2.ensures, d.0.nodes, d.1.nodes, e);
    }
