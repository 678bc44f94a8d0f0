-- The two passes over the variables of a run of slots, turn by turn.
-- Assumes nothing.
use Prim.Native.Nat.{ℕ, ◌+◌, ◌*◌, ◌-◌, ◌<◌}
use mathlib.Core.Bool.{Bool, true, false, ◌&&◌, ◌||◌}
use mathlib.Core.List.{List}
use mathlib.Core.Path.{◌≡◌, refl, ap, sym, ◌∙◌}
use native.Mathlib.Decide.{ℕ_discrete}
use native.Mathlib.Omega.{arith}
use borrow.Author.Tests.{eq-eqb, ne_eqb}
use lib.ListN.{length, get_or, set, length-set}
use lib.Seq.{get_or-set_same, get_or-set_other}
use mathlib.Core.Option.{Option as Maybe}
use Rattle.model.specs.Pattern.{Item as Said}
use Rattle.model.specs.Tables.{item_words}
use Rattle.model.specs.Limits.{variable_limit}
use Rattle.std.specs.Prelude.{Option, Some, None}
use Rattle.rule_table.specs.declared.Item.{Item}
use Rattle.rule_table.specs.declared.Item.TheVariants.{Variable, Operator}
use Rattle.rule_table.specs.Slots.{item_at, slot_of, variable_in, holds, holds_from, Standing, known, known_from}
use Rattle.rule_table.proofs.Slots.{holds-turn, known-turn, variable-small}

-- a slot that holds a variable, and one that holds none
with-variable : (s : Option Item) (x : ℕ) → Some x ≡ variable_in s → s ≡ Some (Variable x)
with-variable (Some (Variable y)) x e = cc
with-variable (Some (Operator o c)) x e = let z : ◌≡◌ {A = ℕ} 0 1 = cc in absurd (omega arith)
with-variable None x e = let z : ◌≡◌ {A = ℕ} 0 1 = cc in absurd (omega arith)

holds-none : (s : Option Item) (x : ℕ) → None ≡ variable_in s → holds x s ≡ false
holds-none (Some (Variable y)) x e = let z : ◌≡◌ {A = ℕ} 0 1 = cc in absurd (omega arith)
holds-none (Some (Operator o c)) x e = refl
holds-none None x e = refl

known-none : (s : Option Item) (on : List Bool) → None ≡ variable_in s → known on s ≡ true
known-none (Some (Variable y)) on e = let z : ◌≡◌ {A = ℕ} 0 1 = cc in absurd (omega arith)
known-none (Some (Operator o c)) on e = refl
known-none None on e = refl

pub variable-below : (i : Maybe Said) (x : ℕ) → Some x ≡ variable_in (slot_of i) → x < variable_limit
variable-below i x e = variable-small i x (with-variable (slot_of i) x e)

-- which variables stand in the slots: those marked, and those of the slots behind the first k
pub record Marking (ws : List ℕ) (at n : ℕ) (on : List Bool) (k : ℕ) : Type 0 where
  pub size : length on ≡ variable_limit
  pub goes : (x : ℕ) → x < variable_limit → get_or on x false || holds_from ws (at + item_words * k) (n - k) x ≡ holds_from ws at n x

or-true : (a b : Bool) → true ≡ a || (true || b)
or-true true b = refl
or-true false b = refl

module _ (ws : List ℕ) (at n : ℕ) (on : List Bool) (k : ℕ) (m : Marking ws at n on k) where
  abbrev still : ℕ → Bool
  still x = holds_from ws (at + item_words * (k + 1)) (n - (k + 1)) x

  abbrev slot : Option Item
  slot = slot_of (item_at ws (at + item_words * k))

  slot_turn : k < n → (x : ℕ) → x < variable_limit → get_or on x false || (holds x slot || still x) ≡ holds_from ws at n x
  slot_turn h x l = ap (λ (b : Bool). get_or on x false || b) (sym (holds-turn ws at n k h x)) ∙ m.goes x l

  marked : (y : ℕ) → Some y ≡ variable_in slot → k < n → (x : ℕ) → x < variable_limit
      → get_or (set on y true) x false || still x ≡ holds_from ws at n x
  marked y e h x l =
      let t = rw (with-variable slot y e) at (slot_turn h x l) in
      elim (ℕ_discrete x y) [
        | yes p ↦
            let v = variable-below (item_at ws (at + item_words * k)) y e in
            let s : get_or (set on y true) x false ≡ true = rw p (get_or-set_same on y true false (omega (arith, m.size))) in
            rw s (or-true (get_or on x false) (still x) ∙ rw (eq-eqb x y p) at t)
        | no p ↦ rw (get_or-set_other on y x true false p) (rw (ne_eqb x y p) at t)
      ]

  pub marking-variable : (y : ℕ) → Some y ≡ variable_in slot → k < n → Marking ws at n (set on y true) (k + 1)
  marking-variable y e h = record { size = length-set on y true ∙ m.size; goes = marked y e h }

  pub marking-other : None ≡ variable_in slot → k < n → Marking ws at n on (k + 1)
  marking-other e h = record { size = m.size; goes = λ x l. rw (holds-none slot x e) at (slot_turn h x l) }

  pub marking-done : n ≡ k → Standing ws at n on
  unfolding holds_from
  marking-done e x l = let z : n - k ≡ 0 = omega arith in or-false (get_or on x false) ∙ (rw z at (m.goes x l))
    where
      or-false : (a : Bool) → a ≡ a || false
      or-false true = refl
      or-false false = refl

-- whether each variable in the slots is one of those given: the slots behind the first k decide as all of them do
pub record Checking (ws : List ℕ) (at n : ℕ) (on : List Bool) (k : ℕ) : Type 0 where
  pub goes : known_from on ws (at + item_words * k) (n - k) ≡ known_from on ws at n

module _ (ws : List ℕ) (at n : ℕ) (on : List Bool) (k : ℕ) (m : Checking ws at n on k) where
  abbrev found : Option Item
  found = slot_of (item_at ws (at + item_words * k))

  known_slot : k < n → known on found && known_from on ws (at + item_words * (k + 1)) (n - (k + 1)) ≡ known_from on ws at n
  known_slot h = sym (known-turn ws at n k h on) ∙ m.goes

  pub checking-known : (x : ℕ) → Some x ≡ variable_in found → get_or on x false ≡ true → k < n → Checking ws at n on (k + 1)
  checking-known x e l h = record { goes = rw (with-variable found x e, l) at (known_slot h) }

  pub checking-unknown : (x : ℕ) → Some x ≡ variable_in found → get_or on x false ≡ false → k < n → false ≡ known_from on ws at n
  checking-unknown x e l h = rw (with-variable found x e, l) at (known_slot h)

  pub checking-other : None ≡ variable_in found → k < n → Checking ws at n on (k + 1)
  checking-other e h = record { goes = rw (known-none found on e) at (known_slot h) }

  pub checking-done : n ≡ k → true ≡ known_from on ws at n
  unfolding known_from
  checking-done e = let z : n - k ≡ 0 = omega arith in rw z at m.goes
