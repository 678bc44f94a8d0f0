-- Laws of tests that the library lacks: a disjunction that does not hold.
use mathlib.Core.Bool.{Bool, true, false, ◌||◌, true≢false}
use mathlib.Core.Path.{◌≡◌, refl}

-- no part of it holds
pub neither : (a b : Bool) → (a || b) ≡ false → (a ≡ false) × (b ≡ false)
neither true b h = absurd (true≢false h)
neither false b h = (refl, h)

-- and where no part holds, it does not
pub nor : {a b : Bool} → a ≡ false → b ≡ false → (a || b) ≡ false
nor p q = cc
