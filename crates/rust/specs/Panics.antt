-- What may panic in the Rust: a failed `assert!`, an index out of range, an `unwrap` of nothing, and here also a loop or a call whose rounds ran
-- out (the Rust's own have no bound). Each is `none`.
use Rattle.std.specs.Prelude.{ℕ, zero, suc, Bool, true, false, List, [], ◌∷◌, ◌++◌}
use Rattle.std.proofs.Math.Option.{Option, none, some}

module _ {A B : Type 0} where
  -- one statement and then the rest, which is not reached after a panic
  abbrev pub ◌>>=◌ : Option A → (A → Option B) → Option B
  ◌>>=◌ none f = none
  ◌>>=◌ (some a) f = f a

module _ {B : Type 0} where
  abbrev pub ◌>>◌ : Option (Unit {0}) → Option B → Option B
  ◌>>◌ none b = none
  ◌>>◌ (some u) b = b

module _ {A : Type 0} where
  -- a `Vec` of an element for each of the numbers below n
  unfoldable pub counted : (ℕ → A) → ℕ → List A
  counted f zero = []
  counted f (suc n) = counted f n ++ (f n ∷ [])

-- `assert!(b)`
abbrev pub assert : Bool → Option (Unit {0})
assert true = some tt
assert false = none
