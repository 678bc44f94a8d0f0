-- Where the walk to a mark is: what is left of a row from its first mark on is that of the row.
-- Assumes nothing.
use Prim.Native.Nat.{ℕ, suc, ◌+◌, ◌-◌, ◌*◌, ◌≤◌, ◌<◌}
use mathlib.Core.List.{List}
use mathlib.Core.Path.{◌≡◌, refl, sym, ap, ◌∙◌}
use native.Mathlib.Omega.{arith}
use lib.ListN.{length}
use Rattle.model.specs.Limits.{flat_words}
use Rattle.model.specs.Term.{Terms, no_terms, tree, count, size}
use Rattle.terms.specs.Place.{RowAt, node_of}
use Rattle.terms.proofs.Place.{row-tree}
use Rattle.terms.proofs.Rows.{size-join, count_none}
use Rattle.marks.specs.Marks.{HasRow, from_mark, RestOf}
use Rattle.marks.proofs.Remaining.{Remaining, remaining-down, remaining-room, remaining-few}
use Rattle.marks.proofs.First.{from-down, from-here}

-- g is what is left of f behind so many nodes, before its first mark or at it
pub record Before (f : Terms) (nodes : ℕ) (g : Terms) : Type 0 where
  pub first : from_mark g ≡ from_mark f
  pub walked : nodes + size g ≡ size f

pub WalkHere : List ℕ → ℕ → ℕ → ℕ → ℕ → Type 0
WalkHere ws at n nodes pending = (f : Terms) → RowAt ws at n f → Remaining ws (at + flat_words * nodes) pending (Before f nodes)

pub walk_first : (ws : List ℕ) (at n : ℕ) → WalkHere ws at n 0 n
unfolding WalkHere
walk_first ws at n f h =
    let e : at + flat_words * 0 ≡ at = omega arith in
    rw e (record { rest = f; is = h; holds = record { first = refl; walked = omega arith } })

module _ (ws : List ℕ) (at n nodes pending : ℕ) (here : WalkHere ws at n nodes pending) where
  pub walk-next : 0 < pending → (node_of ws (at + flat_words * nodes)).mark ≡ 0
      → WalkHere ws at n (nodes + 1) (pending - 1 + (node_of ws (at + flat_words * nodes)).count)
  unfolding WalkHere size
  walk-next l z f h =
      let e : at + flat_words * (nodes + 1) ≡ at + flat_words * nodes + flat_words = omega arith in
      rw e
      (remaining-down ws (at + flat_words * nodes) (Before f nodes) (Before f (nodes + 1)) pending
      (λ o m k s w b.
      record {
        first = from-down o m k s (sym w ∙ z) ∙ b.first;
        walked = omega (arith, size-join k s, b.walked);
      })
      l (here f h))

  -- what is left, once it begins with its first mark
  left : (f g : Terms) → from_mark g ≡ g → RowAt ws (at + flat_words * nodes) pending g → Before f nodes g → RestOf ws at nodes pending f
  left f g e r b =
      let q : g ≡ from_mark f = sym e ∙ b.first in
      record { left = rw (← q) r; walked = rw (← q) b.walked }

  pub walk-found : 0 < pending → ((node_of ws (at + flat_words * nodes)).mark ≡ 0 → ⊥) → (f : Terms) → RowAt ws at n f → RestOf ws at nodes pending f
  unfolding WalkHere count
  walk-found l z f h = let r = here f h in left f r.rest (begins r.rest r.is) r.is r.holds
    where
      begins : (g : Terms) → RowAt ws (at + flat_words * nodes) pending g → from_mark g ≡ g
      begins no_terms r = absurd (omega (arith, r.counted))
      begins (tree o m k s) r =
          let e : pending ≡ suc (pending - 1) = omega arith in
          let t = row-tree ws (at + flat_words * nodes) (pending - 1) o m k s (rw e at r) in
          from-here o m k s (λ q. z (t.mark ∙ q))

  pub walk-done : pending ≡ 0 → (f : Terms) → RowAt ws at n f → RestOf ws at nodes pending f
  unfolding WalkHere from_mark
  walk-done z f h =
      let r = here f h in
      let e : r.rest ≡ no_terms = count_none r.rest (r.is.counted ∙ z) in
      left f r.rest (ap from_mark e ∙ sym e) r.is r.holds

  pub walk-room : HasRow ws at n → 0 < pending → at + flat_words * nodes + flat_words ≤ length ws
  unfolding WalkHere
  walk-room r l = remaining-room ws (at + flat_words * nodes) _ pending l (here r.terms r.is)

  pub walk-few : HasRow ws at n → flat_words * pending ≤ length ws
  unfolding WalkHere
  walk-few r = remaining-few ws (at + flat_words * nodes) _ pending (here r.terms r.is)
