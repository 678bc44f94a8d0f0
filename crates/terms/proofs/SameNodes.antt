-- Nodes compared from two places on: where the walk is.
-- Assumes nothing.
use Prim.Native.Nat.{ℕ, suc, ◌+◌, ◌-◌, ◌*◌, ◌<◌}
use mathlib.Core.Bool.{Bool, true, false, ◌&&◌}
use mathlib.Core.List.{List}
use mathlib.Core.Path.{◌≡◌, sym, ap, ◌∙◌}
use native.Mathlib.Omega.{arith}
use Rattle.model.specs.Limits.{flat_words}
use Rattle.terms.specs.Place.{same_at, same_nodes}

-- behind the first k nodes, what is left agrees exactly where all of it does
pub record NodesHere (ws : List ℕ) (i j n k : ℕ) : Type 0 where
  pub same : same_nodes ws (i + flat_words * k) (j + flat_words * k) (n - k) ≡ same_nodes ws i j n

module _ (ws : List ℕ) (i j n : ℕ) where
  -- one turn: the nodes that were read, and what was found of them
  turn : (k : ℕ) → k < n → NodesHere ws i j n k
      → (same_at ws (i + flat_words * k) (j + flat_words * k) && same_nodes ws (i + flat_words * (k + 1)) (j + flat_words * (k + 1)) (n - (k + 1)))
      ≡ same_nodes ws i j n
  unfolding same_nodes
  turn k l h =
      let m : n - k ≡ suc (n - (k + 1)) = omega arith in
      let a : i + flat_words * (k + 1) ≡ i + flat_words * k + flat_words = omega arith in
      let b : j + flat_words * (k + 1) ≡ j + flat_words * k + flat_words = omega arith in
      rw (a, b) (rw m at h.same)

  pub nodes-next : (k : ℕ) → k < n → NodesHere ws i j n k → same_at ws (i + flat_words * k) (j + flat_words * k) ≡ true
      → NodesHere ws i j n (k + 1)
  nodes-next k l h e =
      record { same = ap (λ (x : Bool). x && same_nodes ws (i + flat_words * (k + 1)) (j + flat_words * (k + 1)) (n - (k + 1))) (sym e) ∙ turn k l h }

  pub nodes-off : (k : ℕ) → k < n → NodesHere ws i j n k → same_at ws (i + flat_words * k) (j + flat_words * k) ≡ false
      → false ≡ same_nodes ws i j n
  nodes-off k l h e =
      ap (λ (x : Bool). x && same_nodes ws (i + flat_words * (k + 1)) (j + flat_words * (k + 1)) (n - (k + 1))) (sym e) ∙ turn k l h

  pub nodes-done : (k : ℕ) → n ≡ k → NodesHere ws i j n k → true ≡ same_nodes ws i j n
  unfolding same_nodes
  nodes-done k e h = let z : n - k ≡ 0 = omega arith in rw z at h.same
