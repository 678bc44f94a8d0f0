use native.Mathlib.Omega.{arith}
use Prim.Native.Nat.{◌<◌, ◌≤◌}
use mathlib.Core.Path.{◌≡◌, sym, ap, ◌∙◌}
use Rattle.paths.specs.Meet.{meet_of}
use Rattle.paths.proofs.Meets.{meet-done}
use Rattle.forest.specs.Rows.{depth_in}
use Rattle.forest.proofs.Climbing.{Nearing, left-falls, meets-left, meets-nowhere, meets-right, right-falls}
use Rattle.std.proofs.lemmas.Bool.{eqb-true, eqb-false}
use Rattle.forest.proofs.meet.Goals as goal
use Rattle.forest.proofs.meet.Goals.{At-loop-r, Else-depth_of, Else-eq, Then-depth_of, Then-eq}

nearing : (c : At-loop-r) → Nearing c.requires.conns c.requires.nodes c.args.left.0 c.args.right.0 c.loop-r.l.0 c.loop-r.r.0
nearing c =
    c.loop-r.invariant c.requires.conns c.requires.nodes c.requires.climbs c.requires.left_in c.requires.right-in

met : (c : Then-eq) → c.loop-r.l.0 ≡ c.loop-r.r.0
met c = eqb-true _ _ (sym c.eq.ensures ∙ c.if-eq.true)

apart : (c : Else-eq) → c.loop-r.l.0 ≡ c.loop-r.r.0 → ⊥
apart c = eqb-false _ _ (sym c.eq.ensures ∙ c.if-eq.false)

right-deeper : (c : Then-depth_of) → let rows = c.args.rows.now in
    depth_in rows c.loop-r.l.0 < depth_in rows c.loop-r.r.0
right-deeper c =
    omega (arith, c.depth_of.ensures, c.depth_of-in-loop-r.ensures)

left-deeper : (c : Else-depth_of) → let rows = c.args.rows.now in
    depth_in rows c.loop-r.r.0 ≤ depth_in rows c.loop-r.l.0
left-deeper c =
    omega (arith, c.depth_of.ensures, c.depth_of-in-loop-r.ensures)

pub loop-r-smaller-then-depth_of : goal.loop-r-smaller-then-depth_of
loop-r-smaller-then-depth_of c =
    let above = goal.at.loop-r-smaller-then-depth_of c in
    omega (arith, right-falls c.requires.climbs (nearing above.At-loop-r) (apart above.Else-eq) (right-deeper above.Then-depth_of) _ c.next_of-r.ensures)

pub loop-r-preserved-then-depth_of : goal.loop-r-preserved-then-depth_of
loop-r-preserved-then-depth_of c =
    let above = goal.at.loop-r-preserved-then-depth_of c in
    λ cs n k p q.
    meets-right k (c.loop-r.invariant cs n k p q) (apart above.Else-eq) (right-deeper above.Then-depth_of) _ c.next_of-r.ensures

pub loop-r-smaller : goal.loop-r-smaller
loop-r-smaller c =
    let above = goal.at.loop-r-smaller c in
    omega (arith, left-falls c.requires.climbs (nearing above.At-loop-r) (apart above.Else-eq) (λ q. c.if-age_of-eq0.false (c.age_of.ensures ∙ q)) _ c.next_of-l.ensures)

pub loop-r-preserved : goal.loop-r-preserved
loop-r-preserved c =
    let above = goal.at.loop-r-preserved c in
    λ cs n k p q.
    meets-left k (c.loop-r.invariant cs n k p q) (apart above.Else-eq) (left-deeper above.Else-depth_of) (λ q. c.if-age_of-eq0.false (c.age_of.ensures ∙ q)) _ c.next_of-l.ensures

pub returns-then-eq : goal.returns-then-eq
returns-then-eq c =
    let above = goal.at.returns-then-eq c in
    λ cs n k p q.
    let l = c.loop-r in
    sym (meet-done cs l.l.0) ∙ ap (meet_of cs l.l.0) (met above.Then-eq) ∙ (l.invariant cs n k p q).same

pub returns-then-age_of-eq0 : goal.returns-then-age_of-eq0
returns-then-age_of-eq0 c =
    let above = goal.at.returns-then-age_of-eq0 c in
    λ cs n k p q.
    meets-nowhere k (c.loop-r.invariant cs n k p q) (apart above.Else-eq) (left-deeper above.Else-depth_of) (sym c.age_of.ensures ∙ c.if-age_of-eq0.true)
