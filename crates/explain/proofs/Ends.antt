-- What the run comes to at the end of the input, by how many bytes are printed there.
use Prim.Native.Nat.{ℕ}
use mathlib.Core.Bool.{Bool, true, false}
use mathlib.Core.List.{List, [], ◌∷◌}
use mathlib.Core.Path.{◌≡◌, refl, sym, ap}
use native.Mathlib.Omega.{arith}
use lib.ListN.{length}
use Rattle.reader.specs.Fold.{came_to}

pub end-stopped : (text : List ℕ) (bad : Bool) → (length text ≡ 0 → ⊥) → 2 ≡ came_to text bad
end-stopped [] bad h = absurd (h refl)
end-stopped (b ∷ bs) bad h = refl

pub end_refused : (text : List ℕ) (bad : Bool) → length text ≡ 0 → bad ≡ true → 1 ≡ came_to text bad
end_refused [] bad h e = ap (came_to []) (sym e)
end_refused (b ∷ bs) bad h e = absurd (omega arith)

pub end-well : (text : List ℕ) (bad : Bool) → length text ≡ 0 → bad ≡ false → 0 ≡ came_to text bad
end-well [] bad h e = ap (came_to []) (sym e)
end-well (b ∷ bs) bad h e = absurd (omega arith)
