use native.Mathlib.Omega.{arith}
use Prim.Native.Nat.{ℕ, suc, ◌+◌, ◌<◌}
use mathlib.Core.List.{List}
use mathlib.Core.Path.{◌≡◌, sym, ◌∙◌}
use Rattle.forest.specs.declared.Row.{Row}
use Rattle.model.specs.Limits.{node_limit}
use Rattle.model.specs.declared.Connection.{Connection}
use Rattle.paths.specs.Hangs.{depth, next_of}
use Rattle.forest.specs.Rows.{age_in, depth_in, next_in}
use Rattle.forest.specs.Filling.{Sounded}
use Rattle.forest.proofs.Climbing.{Sought, depth-few, next-depth, next-in, top-depth}
use Rattle.forest.proofs.depth_above.Goals as goal
use Rattle.forest.proofs.depth_above.Goals.{At-loop-steps, Start}

-- where the node has a parent, the climb goes on
module _ {cs : List Connection} {k : ℕ} {old rows : List Row} {m at steps : ℕ} (s : Sounded cs k old rows) (w : Sought cs k m at steps) where
  onward : (up : ℕ) → (age_in rows at ≡ 0 → ⊥) → up ≡ next_in rows at → Sought cs k m up (steps + 1)
  onward up z u =
      let v : up ≡ next_of cs at = u ∙ s.tied.next at w.inside in
      let d = next-depth s.rooted at w.inside (λ q. z (s.tied.age at w.inside ∙ q)) in
      rw v record { inside = next-in s.rooted at w.inside; total = omega (arith, d, w.total) }

  at_top : age_in rows at ≡ 0 → steps + 1 ≡ suc (depth cs m)
  at_top z =
      let d = top-depth s.rooted at w.inside (sym (s.tied.age at w.inside) ∙ z) in
      omega (arith, d, w.total)

  at-known : (depth_in rows at ≡ 0 → ⊥) → steps + depth_in rows at ≡ suc (depth cs m)
  at-known z = omega (arith, s.right at w.inside (omega arith), w.total)

sought : (c : At-loop-steps) → Sought c.requires.conns c.requires.nodes c.args.n.0 c.loop-steps.at.0 c.loop-steps.steps
sought c =
    c.loop-steps.invariant c.requires.conns c.requires.nodes _ c.requires.sounded c.requires.inside

small : (c : At-loop-steps) → c.loop-steps.at.0 < node_limit
small c =
    omega (arith, (sought c).inside, c.requires.sounded.rooted.few)

short : (c : Start) → depth c.requires.conns c.args.n.0 < node_limit
short c =
    depth-few c.requires.sounded.rooted _ c.requires.inside

pub depth_of-requires : goal.depth_of-requires
depth_of-requires c =
    let above = goal.at.depth_of-requires c in
    (small above.At-loop-steps)

pub overflow_add-steps : goal.overflow_add-steps
overflow_add-steps c =
    let above = goal.at.overflow_add-steps c in
    omega (arith, (short above.Start), (sought above.At-loop-steps).total)

pub age_of-requires : goal.age_of-requires
age_of-requires c =
    let above = goal.at.age_of-requires c in
    (small above.At-loop-steps)

pub loop-steps-smaller : goal.loop-steps-smaller
loop-steps-smaller c =
    let above = goal.at.loop-steps-smaller c in
    omega (arith, (short above.Start), (sought above.At-loop-steps).total)

pub returns-then-age_of-eq0 : goal.returns-then-age_of-eq0
returns-then-age_of-eq0 c = λ cs k old s h.
    at_top s (c.loop-steps.invariant cs k old s h) (sym c.age_of.ensures ∙ c.if-age_of-eq0.true)

pub loop-steps-preserved : goal.loop-steps-preserved
loop-steps-preserved c = λ cs k old s h.
    onward s (c.loop-steps.invariant cs k old s h) _ (λ q. c.if-age_of-eq0.false (c.age_of.ensures ∙ q)) c.next_of-at.ensures

pub overflow_add-result : goal.overflow_add-result
overflow_add-result c =
    let above = goal.at.overflow_add-result c in
    omega (arith, c.depth_of-2.ensures, (short above.Start), at-known c.requires.sounded (sought above.At-loop-steps) (λ q. c.loop-steps-test.false (c.depth_of.ensures ∙ q)))

pub returns : goal.returns
returns c = λ cs k old s h.
    omega (arith, c.depth_of-2.ensures, at-known s (c.loop-steps.invariant cs k old s h) (λ q. c.loop-steps-test.false (c.depth_of.ensures ∙ q)))
