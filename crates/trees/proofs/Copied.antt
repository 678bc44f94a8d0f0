-- The loop that copies nodes in the area without their marks.
use Prim.Native.Nat.{ℕ, ◌+◌, ◌*◌, ◌-◌, ◌/◌, ◌≤◌, ◌<◌}
use native.Mathlib.Omega.{arith}
use mathlib.Core.Path.{◌≡◌, sym, ap, ap₂, ◌∙◌}
use mathlib.Core.List.{List, [], ◌∷◌}
use lib.ListN.{length, get_or}
use Rattle.model.specs.Limits.{flat_words}
use Rattle.laws.specs.Area.{splice, part}
use Rattle.trees.specs.Area.{WholeNodes, bare}
use Rattle.laws.proofs.Area.{length-splice, splice-before, length_part, part_none, splice-none, splice-more}
use Rattle.trees.proofs.Bare.{length-bare, bare-more}

-- the first k nodes from a place are copied
pub record Copied (old : List ℕ) (from at : ℕ) (new : List ℕ) (k : ℕ) : Type 0 where
  pub is : new ≡ splice old at (bare (part old from (flat_words * k)))

pub copied_none : (old : List ℕ) (from at : ℕ) → Copied old from at old 0
unfolding bare
copied_none old from at =
    record { is = sym (splice-none old at) ∙ ap (λ (l : List ℕ). splice old at (bare l)) (sym (part_none old from)) }

-- room for the nodes that stand from a place up to another, behind that
module _ {old : List ℕ} {from to at : ℕ} (forward : from ≤ to) (apart : to ≤ at) (nodes : WholeNodes (to - from))
    (fits : at + (to - from) ≤ length old) {new : List ℕ} {k : ℕ} (c : Copied old from at new k) (most : k ≤ (to - from) / flat_words) where
  u : List ℕ
  u = bare (part old from (flat_words * k))

  long : length u ≡ flat_words * k
  unfolding u
  long = length-bare (part old from (flat_words * k)) ∙ length_part old from (flat_words * k) (omega arith)

  pub copied-length : length new ≡ length old
  unfolding u
  copied-length = ap length c.is ∙ length-splice old at u (omega (arith, long))

  -- what is still to be copied is as it was
  kept : (i : ℕ) → i < at → get_or new i 0 ≡ get_or old i 0
  unfolding u
  kept i g = ap (λ (l : List ℕ). get_or l i 0) c.is ∙ splice-before old at u (omega (arith, long)) i g

  -- one node more, where it was read and written
  pub copied_more : {new' : List ℕ} {o n : ℕ} → k < (to - from) / flat_words → o ≡ get_or new (from + flat_words * k) 0 →
      n ≡ get_or new (from + flat_words * k + 1) 0 → new' ≡ splice new (at + flat_words * k) (o ∷ n ∷ 0 ∷ 0 ∷ []) → Copied old from at new' (k + 1)
  unfolding u
  copied_more h o_is n-is New-is =
      let i = from + flat_words * k in
      let more : flat_words * k + flat_words ≡ flat_words * (k + 1) = omega arith in
      let there : at + flat_words * k ≡ at + length u = omega (arith, long) in
      let node : ℕ → ℕ → List ℕ = λ a b. a ∷ b ∷ 0 ∷ 0 ∷ [] in
      record {
        is = New-is
            ∙ ap₂ (λ (a b : ℕ). splice new (at + flat_words * k) (node a b)) (o_is ∙ kept i (omega arith)) (n-is ∙ kept (i + 1) (omega arith))
            ∙ ap₂ (λ (s : List ℕ) (p : ℕ). splice s p (node (get_or old i 0) (get_or old (i + 1) 0))) c.is there
            ∙ splice-more old at u (node (get_or old i 0) (get_or old (i + 1) 0)) (omega (arith, long))
            ∙ ap (splice old at) (sym (bare-more old from (flat_words * k) (omega arith) (omega arith)))
            ∙ ap (λ (m : ℕ). splice old at (bare (part old from m))) more;
      }

  pub copied_all : (to - from) / flat_words ≤ k → new ≡ splice old at (bare (part old from (to - from)))
  copied_all h =
      let e : flat_words * k ≡ to - from = omega arith in
      c.is ∙ ap (λ (m : ℕ). splice old at (bare (part old from m))) e
