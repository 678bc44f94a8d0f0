-- The ends of a climb, compared by their derive: while they differ the climb goes on.
use Prim.Native.Nat.{ℕ}
use mathlib.Core.Bool.{Bool, true, false, not}
use mathlib.Core.Path.{◌≡◌, sym, ◌∙◌}
use borrow.Author.Tests.{not-true, not-false}
use lib.Dec.{eqb}
use Rattle.std.proofs.lemmas.Bool.{eqb-true, eqb-false}

module _ {differ : Bool} (a b : ℕ) (e : differ ≡ not (eqb a b)) where
  pub apart-yet : differ ≡ true → a ≡ b → ⊥
  apart-yet t = eqb-false a b (not-true (eqb a b) (sym e ∙ t))

  pub arrived : differ ≡ false → a ≡ b
  arrived f = eqb-true a b (not-false (eqb a b) (sym e ∙ f))
