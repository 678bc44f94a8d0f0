-- What is left of a row that a flat walk reads, with what holds of it: going down into a node's children.
-- Assumes nothing.
use Prim.Native.Nat.{ℕ, zero, suc, ◌+◌, ◌-◌, ◌*◌, ◌≤◌, ◌<◌}
use mathlib.Core.List.{List}
use mathlib.Core.Path.{◌≡◌}
use native.Mathlib.Omega.{arith}
use lib.ListN.{length}
use Rattle.model.specs.Limits.{flat_words}
use Rattle.model.specs.Term.{Mark, Terms, no_terms, tree, count, join, mark_word}
use Rattle.terms.specs.Place.{RowAt, node_of}
use Rattle.terms.proofs.Place.{row-tree, row_room, row_fits}

-- n terms are left at a place, and P holds of them
pub record Remaining (ws : List ℕ) (pos n : ℕ) (P : Terms → Type 0) : Type 0 where
  pub rest : Terms
  pub is : RowAt ws pos n rest
  pub holds : P rest

-- P of the row at a place turns into Q of what is left behind its first node
abbrev pub GoingDown : List ℕ → ℕ → (Terms → Type 0) → (Terms → Type 0) → Type 0
GoingDown ws pos P Q = (o : ℕ) (m : Mark) (k s : Terms) → (node_of ws pos).mark ≡ mark_word m → P (tree o m k s) → Q (join k s)

module _ (ws : List ℕ) (pos : ℕ) (P Q : Terms → Type 0) where
  down : (n : ℕ) → GoingDown ws pos P Q → (f : Terms) → RowAt ws pos (suc n) f → P f → Remaining ws (pos + flat_words) ((node_of ws pos).count + n) Q
  unfolding count
  down n turn no_terms h p = absurd (omega (arith, h.counted))
  down n turn (tree o m k s) h p =
      let t = row-tree ws pos n o m k s h in
      record { rest = join k s; is = rw (← t.kids) at t.below; holds = turn o m k s t.mark p }

  pub remaining-down : (n : ℕ) → GoingDown ws pos P Q → 0 < n → Remaining ws pos n P → Remaining ws (pos + flat_words) (n - 1 + (node_of ws pos).count) Q
  remaining-down zero turn l h = absurd (omega arith)
  remaining-down (suc n) turn l h =
      let e : suc n - 1 + (node_of ws pos).count ≡ (node_of ws pos).count + n = omega arith in
      rw e (down n turn h.rest h.is h.holds)

module _ (ws : List ℕ) (pos : ℕ) (P : Terms → Type 0) where
  -- room for the next node, and for what is left
  pub remaining-room : (n : ℕ) → 0 < n → Remaining ws pos n P → pos + flat_words ≤ length ws
  remaining-room zero l h = absurd (omega arith)
  remaining-room (suc n) l h = row_room ws pos n h.rest h.is

  pub remaining-few : (n : ℕ) → Remaining ws pos n P → flat_words * n ≤ length ws
  remaining-few n h = row_fits ws pos n h.rest h.is
