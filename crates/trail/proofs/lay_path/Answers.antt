-- `trail::lay_path` meets its contract: the climb from the right is laid, and above it the climb from the left.
use native.Mathlib.Omega.{arith}
use Prim.Native.Nat.{ℕ, ◌+◌, ◌-◌, ◌<◌, ◌≤◌}
use mathlib.Core.List.{List, reverse}
use mathlib.Core.Path.{◌≡◌, sym, ap, ap₂, ◌∙◌}
use lib.ListN.{length}
use Rattle.std.specs.Prelude.{is_some}
use Rattle.forest.specs.declared.Row.{Row}
use Rattle.model.specs.declared.Connection.{Connection}
use Rattle.model.specs.Limits.{term_limit}
use Rattle.paths.specs.Meet.{top_of}
use Rattle.forest.specs.Rows.{Climbs}
use Rattle.costs.specs.Costs.{Above}
use Rattle.costs.proofs.Climbs.{two_at, joined-meet}
use Rattle.laws.specs.Area.{splice}
use Rattle.laws.proofs.Area.{splice-more}
use Rattle.trail.specs.Legs.{ages}
use Rattle.trail.proofs.Laying.{laid_out, top-at}
use Rattle.trail.proofs.lay_path.Goals as goal
use Rattle.trail.proofs.lay_path.Goals.{After-count_legs, After-unwrap-meeting}

-- where the climbs meet, by any connections that the rows stand for
record Met (rows : List Row) (cs : List Connection) (l r t : ℕ) : Type 0 where
  left : Above cs l t
  right : Above cs r t
  top : t ≡ top_of cs l r

-- what is laid of both climbs, by any connections that the rows stand for
record Laid (rows : List Row) (cs : List Connection) (old new : List ℕ) (used l r t turn ups : ℕ) : Type 0 where
  trail_is : new ≡ splice old used (ages rows cs r t)
  turn_is : turn ≡ used + length (ages rows cs r t)
  ups-is : ups ≡ length (ages rows cs l t)

met : (c : After-unwrap-meeting) → (cs : List Connection) (n : ℕ) → Climbs cs n c.args.rows.now → c.args.left.0 < n → c.args.right.0 < n →
    Met c.args.rows.now cs c.args.left.0 c.args.right.0 c.unwrap-meeting.result.0
met c = λ cs n k p q.
    let e = sym c.unwrap-meeting.ensures ∙ c.meet.ensures cs n k p q in
    let t = two_at c.args.rows.now k e in
    record { left = t.left; right = t.right; top = top-at cs c.args.left.0 c.args.right.0 e }

met-here : (c : After-unwrap-meeting) → Met c.args.rows.now c.requires.conns c.args.left.0 c.args.right.0 c.unwrap-meeting.result.0
met-here c = (met c) c.requires.conns c.requires.nodes c.requires.climbs c.requires.left_in c.requires.right-in

room : (c : After-unwrap-meeting) → let t = c.unwrap-meeting.result.0 in
    let climb = ages c.args.rows.now c.requires.conns in
    c.args.used + length (climb c.args.right.0 t) + length (climb c.args.left.0 t) ≤ term_limit
room c = let e = (met-here c).top in
    let climb = ages c.args.rows.now c.requires.conns in
    omega (arith, c.requires.few, ap (λ (x : ℕ). length (climb c.args.right.0 x)) e, ap (λ (x : ℕ). length (climb c.args.left.0 x)) e)

laid : (c : After-count_legs) → (cs : List Connection) (n : ℕ) → Climbs cs n c.args.rows.now → c.args.left.0 < n → c.args.right.0 < n →
    Laid c.args.rows.now cs c.args.trail.now c.lay_down-turn.new.trail c.args.used c.args.left.0 c.args.right.0 c.unwrap-meeting.result.0
    c.lay_down-turn.result c.count_legs.result
laid c =
    let above = goal.at.After-count_legs c in
    λ cs n k p q.
    let t = (met above.After-unwrap-meeting) cs n k p q in
    let w = c.lay_down-turn.ensures cs n k q t.right in
    record { trail_is = w.0; turn_is = w.1; ups-is = c.count_legs.ensures cs n k p t.left }

laid-here : (c : After-count_legs) → Laid c.args.rows.now c.requires.conns c.args.trail.now c.lay_down-turn.new.trail c.args.used c.args.left.0 c.args.right.0
    c.unwrap-meeting.result.0 c.lay_down-turn.result c.count_legs.result
laid-here c = (laid c) c.requires.conns c.requires.nodes c.requires.climbs c.requires.left_in c.requires.right-in

pub unwrap-meeting-requires : goal.unwrap-meeting-requires
unwrap-meeting-requires c =
    let q = c.requires in
    ap is_some (c.meet.ensures q.conns q.nodes q.climbs q.left_in q.right-in) ∙ joined-meet q.conns c.args.left.0 c.args.right.0 q.same

pub lay_down-turn-requires : goal.lay_down-turn-requires
lay_down-turn-requires c =
    let above = goal.at.lay_down-turn-requires c in
    let few = room above.After-unwrap-meeting in (
      omega arith,
      record {
        conns = c.requires.conns;
        nodes = c.requires.nodes;
        climbs = c.requires.climbs;
        inside = c.requires.right-in;
        above = (met-here above.After-unwrap-meeting).right;
        few = omega arith;
      },
    )

pub count_legs-requires : goal.count_legs-requires
count_legs-requires c =
    let above = goal.at.count_legs-requires c in
    let few = room above.After-unwrap-meeting in
    record { conns = c.requires.conns; nodes = c.requires.nodes; climbs = c.requires.climbs; inside = c.requires.left_in; above = (met-here above.After-unwrap-meeting).left; few = omega arith }

pub overflow_add-top : goal.overflow_add-top
overflow_add-top c =
    let above = goal.at.overflow_add-top c in
    let w = laid-here above.After-count_legs in omega (arith, w.turn_is, w.ups-is, (room above.After-unwrap-meeting))

pub lay_up-requires : goal.lay_up-requires
lay_up-requires c =
    let above = goal.at.lay_up-requires c in
    let w = laid-here above.After-count_legs in
    let few = room above.After-unwrap-meeting in
    let turn = w.turn_is in
    let ups = w.ups-is in (
      omega arith,
      record {
        conns = c.requires.conns;
        nodes = c.requires.nodes;
        climbs = c.requires.climbs;
        inside = c.requires.left_in;
        above = (met-here above.After-unwrap-meeting).left;
        few = omega arith;
      },
    )

pub returns : goal.returns
returns c =
    let above = goal.at.returns c in
    λ cs n k p q.
    let a = c.args in
    let t = (met above.After-unwrap-meeting) cs n k p q in
    let w = (laid above.After-count_legs) cs n k p q in
    let here = laid-here above.After-count_legs in
    let ds = ages a.rows.now cs a.right.0 c.unwrap-meeting.result.0 in
    let us = ages a.rows.now cs a.left.0 c.unwrap-meeting.result.0 in
    let turn : c.lay_down-turn.result + c.count_legs.result - length us ≡ a.used + length ds = omega (arith, w.turn_is, w.ups-is) in
    laid_out t.top
    (c.lay_up.ensures cs n k p t.left
    ∙ ap₂ (λ (x : List ℕ) (i : ℕ). splice x i (reverse us)) w.trail_is turn
    ∙ splice-more a.trail.now a.used ds (reverse us) (omega (arith, w.turn_is, here.turn_is, (room above.After-unwrap-meeting), c.told-trail)))
    w.turn_is
    (ap (λ (x : ℕ). c.lay_down-turn.result + x) w.ups-is)
