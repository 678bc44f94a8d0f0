use native.Mathlib.Omega.{arith}
use Prim.Native.Nat.{suc, ◌<◌}
use mathlib.Core.Logic.{inl}
use mathlib.Core.Path.{◌≡◌, refl, sym, ◌∙◌}
use Rattle.model.specs.Limits.{node_limit}
use Rattle.paths.specs.Hangs.{depth}
use Rattle.forest.proofs.Climbing.{Settling, depth-few, settle-done, settle-next}
use Rattle.forest.proofs.settle.Goals as goal
use Rattle.forest.proofs.settle.Goals.{At-loop-at, In-loop-at}

settling : (c : At-loop-at) → Settling c.requires.conns c.requires.nodes c.args.rows.now c.args.rows.now c.loop-at.rows c.args.n.0 c.loop-at.at.0 c.loop-at.depth
settling c =
    c.loop-at.invariant c.requires.conns c.requires.nodes c.args.rows.now c.requires.sounded c.requires.inside

small : (c : At-loop-at) → c.loop-at.at.0 < node_limit
small c =
    omega (arith, (settling c).inside, (settling c).sounded.rooted.few)

right : (c : In-loop-at) → c.loop-at.depth ≡ suc (depth c.requires.conns c.loop-at.at.0)
right c =
    let above = goal.at.In-loop-at c in
    (settling above.At-loop-at).here (sym c.depth_of.ensures ∙ c.loop-at-test.true)

pub loop-at-init : goal.loop-at-init
loop-at-init c = λ cs k old s h.
    record { sounded = s; inside = h; here = λ z. c.depth_above-depth.ensures cs k old s h; found = inl refl; kept = λ a q. q }

pub depth_of-requires : goal.depth_of-requires
depth_of-requires c =
    let above = goal.at.depth_of-requires c in
    (small above.At-loop-at)

pub overflow_cast-depth : goal.overflow_cast-depth
overflow_cast-depth c =
    let above = goal.at.overflow_cast-depth c in
    omega (arith, (right above.In-loop-at), depth-few (settling above.At-loop-at).sounded.rooted c.loop-at.at.0 (settling above.At-loop-at).inside)

pub put_depth-requires : goal.put_depth-requires
put_depth-requires c =
    let above = goal.at.put_depth-requires c in
    (small above.At-loop-at)

pub overflow_sub-depth : goal.overflow_sub-depth
overflow_sub-depth c =
    let above = goal.at.overflow_sub-depth c in
    omega (arith, (right above.In-loop-at))

pub next_of-at-requires : goal.next_of-at-requires
next_of-at-requires c =
    let above = goal.at.next_of-at-requires c in
    (small above.At-loop-at)

pub loop-at-smaller : goal.loop-at-smaller
loop-at-smaller c =
    let above = goal.at.loop-at-smaller c in
    omega (arith, (right above.In-loop-at))

pub loop-at-preserved : goal.loop-at-preserved
loop-at-preserved c = λ cs k old s h.
    settle-next (c.loop-at.invariant cs k old s h) _ _ (sym c.depth_of.ensures ∙ c.loop-at-test.true) c.put_depth.ensures c.next_of-at.ensures

pub returns : goal.returns
returns c = λ cs k old s h.
    settle-done (c.loop-at.invariant cs k old s h) (λ q. c.loop-at-test.false (c.depth_of.ensures ∙ q))
