-- `trail::lay` meets its contract.
use native.Mathlib.Omega.{arith}
use Prim.Native.Nat.{ℕ, ◌-◌}
use mathlib.Core.List.{[], ◌∷◌}
use mathlib.Core.Path.{◌≡◌, sym, ap, ◌∙◌}
use lib.ListN.{length, set}
use Rattle.forest.specs.Rows.{age_in}
use Rattle.laws.specs.Area.{splice}
use Rattle.laws.proofs.Area.{splice-none, splice-one}
use Rattle.trail.specs.Laid.{ages_at}
use Rattle.trail.proofs.Laying.{ages-none, ages-one}
use Rattle.trail.proofs.lay.Goals as goal

pub returns-then-cost_of-eq0 : goal.returns-then-cost_of-eq0
returns-then-cost_of-eq0 c =
    let a = c.args in
    let none = ages-none a.rows.now a.n.0 (sym c.cost_of.ensures ∙ c.if-cost_of-eq0.true) in
    sym (ap (splice a.trail.now a.at) none ∙ splice-none a.trail.now a.at)

pub returns : goal.returns
returns c =
    let one : let a = c.args in ages_at a.rows.now a.n.0 ≡ (age_in a.rows.now a.n.0 - 1) ∷ [] = let a = c.args in ages-one a.rows.now a.n.0 (λ e. c.if-cost_of-eq0.false (c.cost_of.ensures ∙ e)) in
    let a = c.args in
    let n = age_in a.rows.now a.n.0 - 1 in
    ap (λ (x : ℕ). set a.trail.now a.at (x - 1)) c.age_of.ensures
    ∙ splice-one a.trail.now a.at n (omega (arith, ap length (one)))
    ∙ ap (splice a.trail.now a.at) (sym (one))
