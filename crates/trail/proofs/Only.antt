-- No second outcome fits: two results and two trails that meet a public contract of this crate, for the same arguments, are equal.
use native.Mathlib.Omega.{arith}
use Prim.Native.Nat.{ℕ}
use mathlib.Core.Path.{◌≡◌, sym, ap₂, ◌∙◌}
use contract.Lifetimes.{Lfts}
use Rattle.trail.specs.declared.Route.{Route}
use Rattle.trail.proofs.age_on.Reads as age-on
use Rattle.trail.proofs.lay_path.Reads as lay-path

age-on-only : (κs : Lfts 1) (a s s' : _) (r r' : ℕ) → age-on.Post κs a r s → age-on.Post κs a r' s' → r ≡ r'
age-on-only κs a s s' r r' p q = p ∙ sym q

-- the route, and the trail, its second argument, whichever connections the rows stand for
lay-path-only : (κs : Lfts 2) (a s s' : _) (r r' : Route) → lay-path.Pre κs a → lay-path.Post κs a r s → lay-path.Post κs a r' s' →
    (r ≡ r') × (s.1.0.now ≡ s'.1.0.now)
lay-path-only κs a s s' r r' w p q =
    let k = w in
    let x = p k.conns k.nodes k.climbs k.left_in k.right-in in
    let y = q k.conns k.nodes k.climbs k.left_in k.right-in in
    let turn = x.turn_is ∙ sym y.turn_is in (
      ap₂ (λ (i j : ℕ). record { turn = i; top = j }) turn (omega (arith, x.top-is, y.top-is)),
      x.trail_is ∙ sym y.trail_is,
    )
