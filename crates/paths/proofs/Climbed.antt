-- What the two climbs come to: the path of the definitions, and where they meet.
use Prim.Native.Nat.{ℕ, zero, suc, ◌≤◌}
use mathlib.Core.Path.{◌≡◌, refl, sym, ap, ap₂, ◌∙◌}
use mathlib.Core.Bool.{Bool, true, false}
use mathlib.Core.List.{List, [], ◌∷◌, ◌++◌, append_assoc, append-nil}
use native.Mathlib.Omega.{arith}
use Rattle.model.specs.declared.Connection.{Connection}
use Rattle.model.specs.Forest.{nxt, root, walk, Hop, path, Parent, top, below, parent_of}
use Rattle.paths.specs.Hangs.{next_of, depth, Forest}
use Rattle.paths.specs.Meet.{Last, none, last, or_else, last_up, top_of}
use Rattle.paths.proofs.Places.{high, low, place}
use Rattle.paths.proofs.Meets.{last-assoc, last_none, last-at}
use Rattle.paths.proofs.Related.{Steps, related}
use Rattle.paths.proofs.Ways.{climb_by, Lowest, hop, hop-low, ups, downs, meets}

abbrev pub hop_of : List Connection → (ℕ → ℕ → List Hop) → Connection → Bool → List Hop
hop_of _ _ c u = record { conn = c; up = u } ∷ []

-- both ends climb until they meet, at the lowest node that both come to, and what they walk is the path: up from the left,
-- down to the right
pub record Climbed (cs : List Connection) (l r : ℕ) : Type 0 where
  pub i : ℕ
  pub j : ℕ
  pub left-deep : i ≤ depth cs l
  pub right-deep : j ≤ depth cs r
  pub left : climb_by cs i l ≡ top_of cs l r
  pub right : climb_by cs j r ≡ top_of cs l r
  pub whole : path cs l r ≡ ups [] ◌++◌ hop_of cs i l ++ downs [] ◌++◌ hop_of cs j r
  pub lowest : Lowest cs l r i j

-- where the last step up of a path leads
abbrev ends : List Hop → Last
ends [] = none
ends (h ∷ hs) = last (last_up h.conn h.up) (ends hs)

ends-append : (xs ys : List Hop) → ends (xs ++ ys) ≡ last (ends xs) (ends ys)
ends-append [] ys = sym (last_none (ends ys))
ends-append (x ∷ xs) ys =
    ap (last (last_up x.conn x.up)) (ends-append xs ys) ∙ sym (last-assoc (last_up x.conn x.up) (ends xs) (ends ys))

abbrev End : List Hop → Last → Type 0
End xs x = ends xs ≡ x

two : (xs ys : List Hop) (x y : Last) → End xs x → End ys y → End (xs ++ ys) (last x y)
two xs ys x y p q = ends-append xs ys ∙ ap₂ last p q

steps : (cs : List Connection) → Steps [] ◌++◌ hop_of none last (λ _ _. last_up) End refl two cs
steps [] = tt
steps (c ∷ cs) = (λ u. refl, steps cs)

ends-path : (cs : List Connection) (l r : ℕ) → ends (path cs l r) ≡ walk none last (λ _ _. last_up) cs l r
unfolding path
ends-path cs l r = related [] ◌++◌ hop_of none last (λ _ _. last_up) End refl two cs l r (steps cs)

-- the climb from the left makes the steps up, and the climb from the right none
ups-end : (k : ℕ) (cs : List Connection) (n : ℕ) → Forest cs → k ≤ depth cs n → or_else n (ends (ups [] ◌++◌ hop_of cs k n)) ≡ climb_by cs k n
unfolding ups climb_by
ups-end zero cs n f h = refl
ups-end (suc k) cs n f h =
    elim (place cs n f) [
      | high a b ↦ absurd (omega arith)
      | low c o a b t ↦
          ap (λ (x : List Hop). or_else n (ends (x ++ ups [] ◌++◌ hop_of cs k (next_of cs n)))) (hop-low [] ◌++◌ hop_of cs n true a)
          ∙ last-at n (nxt c) (ends (ups [] ◌++◌ hop_of cs k (next_of cs n)))
          ∙ ap (λ (m : ℕ). or_else m (ends (ups [] ◌++◌ hop_of cs k (next_of cs n)))) (sym b)
          ∙ ups-end k cs (next_of cs n) f (omega arith)
    ]

hop-down : (cs : List Connection) (n : ℕ) → ends (hop [] ◌++◌ hop_of cs n false) ≡ none
unfolding hop
hop-down cs n = go (parent_of cs n) refl
  where
    go : (p : Parent) → parent_of cs n ≡ p → ends (hop [] ◌++◌ hop_of cs n false) ≡ none
    go top q = rw q refl
    go (below c o) q = rw q refl

downs-end : (k : ℕ) (cs : List Connection) (n : ℕ) → ends (downs [] ◌++◌ hop_of cs k n) ≡ none
unfolding downs
downs-end zero cs n = refl
downs-end (suc k) cs n =
    ends-append (downs [] ◌++◌ hop_of cs k (next_of cs n)) (hop [] ◌++◌ hop_of cs n false)
    ∙ ap₂ last (downs-end k cs (next_of cs n)) (hop-down cs n)

-- BOTH ENDS CLIMB UNTIL THEY MEET
pub climbed : (cs : List Connection) (l r : ℕ) → Forest cs → root cs l ≡ root cs r → Climbed cs l r
unfolding path top_of
climbed cs l r f j =
    let m = meets [] ◌++◌ hop_of append_assoc (λ x. refl) append-nil cs l r f j in
    let up = ups [] ◌++◌ hop_of cs m.i l in
    let down = downs [] ◌++◌ hop_of cs m.j r in
    let e : top_of cs l r ≡ climb_by cs m.i l =
    ap (or_else l) (sym (ends-path cs l r) ∙ ap ends m.whole ∙ ends-append up down ∙ ap (last (ends up)) (downs-end m.j cs r))
    ∙ ups-end m.i cs l f (omega (arith, m.left)) in
    record {
      i = m.i;
      j = m.j;
      left-deep = omega (arith, m.left);
      right-deep = omega (arith, m.right);
      left = sym e;
      right = sym m.meet ∙ sym e;
      whole = m.whole;
      lowest = m.lowest;
    }
