-- The computed step is the declared one: `step` holds exactly where `Step` does.
use Prim.Native.Nat.{ℕ, ◌≤◌}
use mathlib.Core.Bool.{Bool, true, false, not, ◌&&◌, and-eq-true_iff, true≢false}
use mathlib.Core.List.{List}
use mathlib.Core.Option.{Option, none, some}
use mathlib.Core.Path.{◌≡◌, refl, sym, ◌∙◌, ap, subst}
use native.Mathlib.Omega.{arith}
use borrow.Author.Tests.{eqb-true, eq-eqb}
use Rattle.model.specs.Term.{Mark, unmarked, marked, Terms, no_terms, tree, marks}
use Rattle.model.specs.Rule.{Rule, listed, is_listed}
use Rattle.model.specs.Step.{left_of, right_of, ByRule, Allowed, Step, fits_rule, allowed, step, some_mark, names_unlisted, unlisted}
use Rattle.model.specs.Pattern.{Patterns, Instance, fits}
use Rattle.laws.proofs.Truth.{nor}
use Rattle.terms.specs.Place.{Decides}
use Rattle.terms.proofs.Marks.{no-mark}
use Rattle.matching.proofs.Matching.{fits-decides}

and : {a b : Bool} → a ≡ true → b ≡ true → (a && b) ≡ true
and p q = cc

-- the computed match, both ways
pub fits-instance : (l r : Patterns) (s t : Terms) → fits l r s t ≡ true → Instance l r s t
fits-instance l r s t e = subst (λ (b : Bool). Decides b (Instance l r s t)) e (fits-decides l r s t)

pub instance-fits : (l r : Patterns) (s t : Terms) → Instance l r s t → fits l r s t ≡ true
instance-fits l r s t i = go (fits l r s t) refl
  where
    go : (b : Bool) → fits l r s t ≡ b → fits l r s t ≡ true
    go true e = e
    go false e = absurd (subst (λ (b : Bool). Decides b (Instance l r s t)) e (fits-decides l r s t) i)

fits-rule : (rs : List Rule) (n : ℕ) (o : Option Rule) (s t : Terms) → listed rs n ≡ o → fits_rule o s t ≡ true → ByRule rs n s t
fits-rule rs n none s t e h = absurd (true≢false (sym h))
fits-rule rs n (some r) s t e h = record { rule = r; is_in = e; fit = fits-instance r.left r.right s t h }

rule_fits : (rs : List Rule) (n : ℕ) (s t : Terms) → ByRule rs n s t → fits_rule (listed rs n) s t ≡ true
rule_fits rs n s t b =
    ap (λ (o : Option Rule). fits_rule o s t) b.is_in ∙ instance-fits b.rule.left b.rule.right s t b.fit

pub allowed-sound : (rs : List Rule) (m : Mark) (s t : Terms) → allowed rs m s t ≡ true → Allowed rs m s t
unfolding allowed
allowed-sound rs unmarked s t h = absurd (true≢false (sym h))
allowed-sound rs (marked d n) s t h = fits-rule rs n (listed rs n) (left_of d s t) (right_of d s t) refl h

pub allowed-complete : (rs : List Rule) (m : Mark) (s t : Terms) → Allowed rs m s t → allowed rs m s t ≡ true
unfolding allowed
allowed-complete rs unmarked s t h = absurd h
allowed-complete rs (marked d n) s t h = rule_fits rs n (left_of d s t) (right_of d s t) h

pub step-sound : (rs : List Rule) (s t : Terms) → step rs s t ≡ true → Step rs s t
unfolding step Step
step-sound rs no_terms no_terms h = tt
step-sound rs no_terms (tree o m k s) h = true≢false (sym h)
step-sound rs (tree o m k s) no_terms h = true≢false (sym h)
step-sound rs (tree o m k s) (tree o' unmarked k' s') h =
    let (a, b) = (and-eq-true_iff _ _).0 h in
    let (c, d) = (and-eq-true_iff _ _).0 b in
    (eqb-true o o' a, step-sound rs k k' c, step-sound rs s s' d)
step-sound rs (tree o m k s) (tree o' (marked d n) k' s') h =
    let (a, b) = (and-eq-true_iff _ _).0 h in (allowed-sound rs (marked d n) _ _ a, step-sound rs s s' b)

pub step-complete : (rs : List Rule) (s t : Terms) → Step rs s t → step rs s t ≡ true
unfolding step Step
step-complete rs no_terms no_terms h = refl
step-complete rs no_terms (tree o m k s) h = absurd h
step-complete rs (tree o m k s) no_terms h = absurd h
step-complete rs (tree o m k s) (tree o' unmarked k' s') h =
    and (eq-eqb o o' h.0) (and (step-complete rs k k' h.1) (step-complete rs s s' h.2))
step-complete rs (tree o m k s) (tree o' (marked d n) k' s') h =
    and (allowed-complete rs (marked d n) _ _ h.0) (step-complete rs s s' h.1)

by-listed : (rs : List Rule) (n : ℕ) (s t : Terms) → ByRule rs n s t → not (is_listed (listed rs n)) ≡ false
by-listed rs n s t b = ap (λ (o : Option Rule). not (is_listed o)) b.is_in

-- what steps, with no second mark, names listed rules alone: so 16 is never given for it
pub step-listed : (rs : List Rule) (s t : Terms) → Step rs s t → marks t ≤ 1 → unlisted rs t ≡ false
unfolding Step marks unlisted some_mark
step-listed rs no_terms no_terms h e = refl
step-listed rs no_terms (tree o m k s) h e = absurd h
step-listed rs (tree o m k s) no_terms h e = absurd h
step-listed rs (tree o m k s) (tree o' unmarked k' s') h e =
    nor (step-listed rs k k' h.1 (omega arith)) (step-listed rs s s' h.2 (omega arith))
step-listed rs (tree o m k s) (tree o' (marked d n) k' s') h e =
    nor (by-listed rs n _ _ h.0) (nor (no-mark (names_unlisted rs) refl k' (omega arith)) (no-mark (names_unlisted rs) refl s' (omega arith)))
