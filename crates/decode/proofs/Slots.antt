-- A frame that says no entry leaves its slot as it was.
use Prim.Native.Nat.{ℕ}
use mathlib.Core.Bool.{false}
use mathlib.Core.List.{List}
use mathlib.Core.Option.{Option, none}
use mathlib.Core.Path.{◌≡◌, refl}
use Rattle.laws.specs.Present.{present}
use Rattle.decode.specs.Slot.{slot_by}

pub nothing_put : {A : Type 0} (words : A → List ℕ) (old : List ℕ) (o : Option A) → o ≡ none → (false ≡ present o) × (old ≡ slot_by words old o)
nothing_put words old o e = (rw e refl, rw e refl)
