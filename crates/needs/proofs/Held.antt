-- Numbers of nodes that are held the same: their sums and products are held the same, too.
use Prim.Native.Nat.{ℕ, ◌+◌, ◌*◌, ◌≤◌}
use mathlib.Core.Path.{◌≡◌, ap, ◌∙◌}
use native.Mathlib.Omega.{arith}
use native.Mathlib.Decide.{dec_le, ℕ_discrete}
use native.Mathlib.Nat.{mul_comm, mul-le-mul_left, mul-one}
use Rattle.trees.specs.Sizes.{held_nodes, node_cap}

-- two numbers that are held as the same
abbrev pub Same : ℕ → ℕ → Type 0
Same x y = held_nodes x ≡ held_nodes y

pub same-held : (x : ℕ) → Same (held_nodes x) x
same-held x = omega arith

-- sums of numbers that are held the same are held the same
pub same-plus : (x x' y y' : ℕ) → Same x x' → Same y y' → Same (x + y) (x' + y')
same-plus x x' y y' p q = omega arith

-- what is past the cap is past it after a product, too
past : (x y : ℕ) → node_cap ≤ y → (x ≡ 0 → ⊥) → node_cap ≤ y * x
past x y h z = let p : 1 ≤ x = omega arith in omega (arith, mul-le-mul_left y p, mul-one y)

same-factor : (x y y' : ℕ) → Same y y' → Same (y * x) (y' * x)
same-factor x y y' p =
    elim (dec_le node_cap y) [
      | yes h ↦ elim (ℕ_discrete x 0) [
        | yes z ↦ omega (arith, ap (λ (k : ℕ). y * k) z, ap (λ (k : ℕ). y' * k) z)
        | no z ↦ omega (arith, past x y h z, past x y' (omega arith) z)
      ]
      | no h ↦ let e : y ≡ y' = omega arith in ap (λ (k : ℕ). held_nodes (k * x)) e
    ]

-- and so are products
pub same-times : (x x' y y' : ℕ) → Same x x' → Same y y' → Same (x * y) (x' * y')
same-times x x' y y' p q =
    same-factor y x x' p ∙ ap held_nodes (mul_comm x' y) ∙ same-factor x' y y' q ∙ ap held_nodes (mul_comm y' x')
