-- The age of a node's parent connection: with one more connection, and where there is none.
use Prim.Native.Nat.{ℕ, suc}
use mathlib.Core.List.{List, [], ◌∷◌}
use mathlib.Core.Path.{◌∙◌, ◌≡◌, refl, sym}
use native.Mathlib.Decide.{ℕ_discrete}
use native.Mathlib.Omega.{arith}
use borrow.Author.Tests.{eq-eqb, ne_eqb}
use lib.ListN.{length}
use Rattle.model.specs.Forest.{cur, parent_of, top}
use Rattle.model.specs.declared.Connection.{Connection}
use Rattle.paths.proofs.Laws.{parent-old}
use Rattle.forest.specs.Rows.{age_of}

module _ (c : Connection) (cs : List Connection) (n : ℕ) where
  pub age-new : n ≡ cur c → age_of (c ∷ cs) n ≡ suc (length cs)
  unfolding age_of
  age-new p = rw (eq-eqb _ _ p)

  pub age-old : (n ≡ cur c → ⊥) → age_of (c ∷ cs) n ≡ age_of cs n
  unfolding age_of
  age-old p = rw (ne_eqb _ _ p)

pub age-top : (cs : List Connection) (n : ℕ) → age_of cs n ≡ 0 → parent_of cs n ≡ top
unfolding parent_of
age-top [] n p = refl
age-top (c ∷ cs) n p =
    elim (ℕ_discrete n (cur c)) [
      | yes q ↦ absurd (omega (arith, age-new c cs n q))
      | no q ↦ parent-old c cs n q ∙ age-top cs n (sym (age-old c cs n q) ∙ p)
    ]
