-- What the strict checker tests decides what document 01 says: each test holds exactly where its condition does.
-- Assumes nothing.
use Prim.Native.Nat.{◌≤◌}
use mathlib.Core.Bool.{Bool, true, false, not, ◌||◌, true≢false}
use mathlib.Core.List.{List}
use mathlib.Core.Logic.{◌⊎◌, inl, inr}
use mathlib.Core.Option.{Option, none, some, none-ne-some}
use mathlib.Core.Path.{◌≡◌, refl, sym, ◌∙◌}
use native.Mathlib.Omega.{arith}
use native.Mathlib.Decide.{ℕ_discrete}
use borrow.Author.Tests.{eq-eqb, ne_eqb}
use lib.Dec.{eqb}
use Rattle.model.specs.Term.{Mark, unmarked, marked, Terms, no_terms, tree, marks}
use Rattle.model.specs.Rule.{Rule, listed, is_listed}
use Rattle.model.specs.Step.{Step, step, some_mark, is_mark, names_unlisted, unlisted}
use Rattle.terms.specs.Place.{Decides}
use Rattle.checker.specs.Fault.{Somewhere, Marks, Unknown, NotOne}
use Rattle.terms.proofs.Marks.{no-mark, none_found}
use Rattle.checker.proofs.Positions.{one_place, two-marks}
use Rattle.checker.proofs.Steps.{step-sound, step-complete}

-- a test of one of two conditions, and of both
either : (a b : Bool) (P Q : Type 0) → Decides a P → Decides b Q → Decides (a || b) (P ⊎ Q)
either true b P Q p q = inl p
either false true P Q p q = inr q
either false false P Q p q = neither
  where
    neither : P ⊎ Q → ⊥
    neither (inl x) = p x
    neither (inr x) = q x

pub opposite : (a : Bool) (P : Type 0) → Decides a P → Decides (not a) (P → ⊥)
opposite true P p = λ n. n p
opposite false P p = p

somewhere : (p : Mark → Bool) (P : Mark → Type 0) → ((m : Mark) → Decides (p m) (P m)) → (f : Terms) → Decides (some_mark p f) (Somewhere P f)
unfolding some_mark Somewhere
somewhere p P d no_terms = λ x. x
somewhere p P d (tree o m k s) =
    either (p m) _ _ _ (d m) (either (some_mark p k) (some_mark p s) _ _ (somewhere p P d k) (somewhere p P d s))

a-mark : (m : Mark) → Decides (is_mark m) (Marks m)
a-mark unmarked = λ x. x
a-mark (marked d r) = tt

unknown : (rs : List Rule) (m : Mark) → Decides (names_unlisted rs m) (Unknown rs m)
unknown rs unmarked = λ x. x
unknown rs (marked d r) = by (listed rs r)
  where
    by : (o : Option Rule) → Decides (not (is_listed o)) (o ≡ none)
    by none = refl
    by (some x) = λ e. none-ne-some x (sym e)

pub is-marked : (t : Terms) → Decides (some_mark is_mark t) (Somewhere Marks t)
is-marked = somewhere is_mark Marks a-mark

-- a term has no mark, or more than one, exactly where it has not one
some-where : (t : Terms) → 1 ≤ marks t → Somewhere Marks t
some-where t h = by (some_mark is_mark t) refl
  where
    by : (b : Bool) → some_mark is_mark t ≡ b → Somewhere Marks t
    by true e = rw e at (is-marked t)
    by false e = absurd (omega (arith, none_found t e))

none-where : (t : Terms) → marks t ≡ 0 → Somewhere Marks t → ⊥
none-where t z = rw (no-mark is_mark refl t z) at (is-marked t)

one_found : (t : Terms) → marks t ≡ 1 → NotOne t → ⊥
one_found t h (inl x) = x (some-where t (omega arith))
one_found t h (inr x) = x.apart (one_place t (omega arith) x.first x.second x.way x.way' x.number x.number' x.is_first x.is_second)

other-found : (t : Terms) → (marks t ≡ 1 → ⊥) → NotOne t
other-found t h =
    elim (ℕ_discrete (marks t) 0) [
      | yes z ↦ inl (none-where t z)
      | no z ↦ inr (two-marks t (omega arith))
    ]

pub not-one : (t : Terms) → Decides (not (eqb (marks t) 1)) (NotOne t)
not-one t =
    elim (ℕ_discrete (marks t) 1) [
      | yes e ↦ rw (eq-eqb (marks t) 1 e) (one_found t e)
      | no e ↦ rw (ne_eqb (marks t) 1 e) (other-found t e)
    ]

pub is-unlisted : (rs : List Rule) (t : Terms) → Decides (unlisted rs t) (Somewhere (Unknown rs) t)
unfolding unlisted
is-unlisted rs = somewhere (names_unlisted rs) (Unknown rs) (unknown rs)

pub is-step : (rs : List Rule) (s t : Terms) → Decides (step rs s t) (Step rs s t)
is-step rs s t = by (step rs s t) refl
  where
    by : (b : Bool) → step rs s t ≡ b → Decides b (Step rs s t)
    by true e = step-sound rs s t e
    by false e = λ h. true≢false (sym (step-complete rs s t h) ∙ e)
