-- The model's `fits` says whether there is a substitution: matching binds what every substitution has to give, and no more.
-- Assumes nothing.
use Prim.Native.Nat.{ℕ}
use mathlib.Core.Bool.{Bool, true, false, false≢true}
use mathlib.Core.Option.{Option, none, some, none-ne-some}
use mathlib.Core.Path.{◌≡◌, refl, ap, sym, ◌∙◌}
use mathlib.Core.Logic.{◌↔◌}
use native.Mathlib.Omega.{arith}
use native.Mathlib.Decide.{ℕ_discrete}
use borrow.Author.Tests.{eq-eqb, ne_eqb, eqb-true, eqb-false}
use Rattle.model.specs.Term.{Mark, unmarked, Terms, no_terms, tree, Term, one, strip, stripped, same_op, same}
use Rattle.model.specs.Pattern.{Patterns, no_patterns, var, app, Substitution, inst, Instance, Bound, unbound, bind, keep_if, meet, and_then, match, found, fits}
use Rattle.terms.specs.Place.{Decides}
use Rattle.terms.proofs.Rows.{strip-one}
use Rattle.terms.proofs.Same.{same-equal}
use Rattle.matching.proofs.Item.{var-means}

-- σ gives every variable that is bound its term, marks aside
AgreesB : Bound → Substitution → Type 0
AgreesB b σ = (x : ℕ) (t : Term) → b x ≡ some t → stripped t ≡ σ x

-- from b on a part of a match finds what is bound then: the substitutions that agree with it are those that agreed with b and
-- meet the condition C; or there are none
abbrev Finds : Option Bound → Bound → (Substitution → Type 0) → Type 0
Finds none b C = (σ : Substitution) → AgreesB b σ → C σ → ⊥
Finds (some c) b C = (σ : Substitution) → AgreesB c σ ↔ (AgreesB b σ × C σ)

-- the same under an equal condition
finds-by : (r : Option Bound) (b : Bound) (C D : Substitution → Type 0) → ((σ : Substitution) → C σ ↔ D σ) → Finds r b C → Finds r b D
finds-by none b C D e h = λ σ ag d. h σ ag ((e σ).1 d)
finds-by (some c) b C D e h = λ σ. ((λ a. let p = (h σ).0 a in (p.0, (e σ).0 p.1)), λ p. (h σ).1 (p.0, (e σ).1 p.1))

-- one part behind another
finds-behind : (b c : Bound) (C D : Substitution → Type 0) → Finds (some c) b C → (r : Option Bound) → Finds r c D
    → Finds r b (λ σ. C σ × D σ)
finds-behind b c C D h none i = λ σ ag p. i σ ((h σ).1 (ag, p.0)) p.1
finds-behind b c C D h (some e) i = λ σ. (
  (λ a. let p = (i σ).0 a in let q = (h σ).0 p.0 in (q.0, (q.1, p.1))),
  λ p. (i σ).1 ((h σ).1 (p.0, p.1.0), p.1.1),
)

finds-then : (r : Option Bound) (g : Bound → Option Bound) (b : Bound) (C D : Substitution → Type 0) → Finds r b C
    → ((c : Bound) → Finds (g c) c D) → Finds (and_then r g) b (λ σ. C σ × D σ)
finds-then none g b C D h i = λ σ ag p. h σ ag p.0
finds-then (some c) g b C D h i = finds-behind b c C D h (g c) (i c)

strip-of : (t u : Term) → stripped t ≡ stripped u → strip (one t) ≡ strip (one u)
unfolding strip
strip-of t u e = ap one e

-- a variable that is not bound yet
module _ (b : Bound) (x : ℕ) (t : Term) where
  bind-here : bind b x t x ≡ some t
  bind-here = rw (eq-eqb x x refl, bind)

  bind-off : (y : ℕ) → (y ≡ x → ⊥) → bind b x t y ≡ b y
  bind-off y f = rw (ne_eqb y x f, bind)

  bind-agrees : (σ : Substitution) → AgreesB b σ → stripped t ≡ σ x → (y : ℕ) → Dec (y ≡ x) → (u : Term) → bind b x t y ≡ some u
      → stripped u ≡ σ y
  unfolding AgreesB
  bind-agrees σ ag p y (yes q) u e =
      let z : some t ≡ some u = sym bind-here ∙ rw q at e in
      let w : t ≡ u = cc in
      rw (q, ← w) p
  bind-agrees σ ag p y (no f) u e = ag y u (sym (bind-off y f) ∙ e)

  keeps : (σ : Substitution) → b x ≡ none → AgreesB (bind b x t) σ → (y : ℕ) → Dec (y ≡ x) → (u : Term) → b y ≡ some u → stripped u ≡ σ y
  unfolding AgreesB
  keeps σ n ag y (yes q) u e =
      let z : none ≡ some u = sym n ∙ rw q at e in
      let w : ◌≡◌ {A = ℕ} 0 1 = cc in
      absurd (omega arith)
  keeps σ n ag y (no f) u e = ag y u (bind-off y f ∙ e)

  -- one that is bound is compared
  kept : (u : Term) → b x ≡ some u → (r : Bool) → same (strip (one u)) (strip (one t)) ≡ r → Finds (keep_if r b) b (λ σ. stripped t ≡ σ x)
  unfolding AgreesB
  kept u n true e = λ σ. (
    (λ ag. (ag, sym (strip-one u t ((same-equal (strip (one u)) (strip (one t))).0 e)) ∙ ag x u n)),
    λ p. p.0,
  )
  kept u n false e = λ σ ag p.
      let q : stripped u ≡ stripped t = ag x u n ∙ sym p in
      false≢true (sym e ∙ (same-equal (strip (one u)) (strip (one t))).1 (strip-of u t q))

  meet-finds : (o : Option Term) → b x ≡ o → Finds (meet o b x t) b (λ σ. stripped t ≡ σ x)
  unfolding AgreesB
  meet-finds none n = λ σ. (
    (λ ag. ((λ y. keeps σ n ag y (ℕ_discrete y x)), ag x t bind-here)),
    λ p. λ y. bind-agrees σ p.0 p.1 y (ℕ_discrete y x),
  )
  meet-finds (some u) n = kept u n (same (strip (one u)) (strip (one t))) refl

-- an operator: the same, and the children and the rows behind are matched one after the other
app-means : (σ : Substitution) (o : ℕ) (k s : Patterns) (m : Mark) (k' f : Terms)
    → ((strip k' ≡ inst σ k) × (strip f ≡ inst σ s)) ↔ (strip (tree o m k' f) ≡ inst σ (app o k s))
unfolding strip inst
app-means σ o k s m k' f = (
  (λ p. rw (p.0, p.1)),
  λ e. let p : strip k' ≡ inst σ k = cc in let q : strip f ≡ inst σ s = cc in (p, q),
)

apart : (σ : Substitution) (o o' : ℕ) (k s : Patterns) (m : Mark) (k' f : Terms) → strip (tree o' m k' f) ≡ inst σ (app o k s) → o ≡ o'
unfolding strip inst
apart σ o o' k s m k' f e = cc

-- matching a row finds the substitutions that make it
abbrev Makes : Patterns → Terms → Substitution → Type 0
Makes q f σ = strip f ≡ inst σ q

op-finds : (b : Bound) (o o' : ℕ) (k s : Patterns) (m : Mark) (k' f : Terms) → ((c : Bound) → Finds (match k k' c) c (Makes k k'))
    → ((c : Bound) → Finds (match s f c) c (Makes s f)) → (r : Bool) → same_op o o' ≡ r
    → Finds (and_then (keep_if r b) (λ c. and_then (match k k' c) (match s f))) b (Makes (app o k s) (tree o' m k' f))
op-finds b o o' k s m k' f h i false e = λ σ ag p. eqb-false o o' e (apart σ o o' k s m k' f p)
op-finds b o o' k s m k' f h i true e =
    finds-by (and_then (match k k' b) (match s f)) b (λ σ. Makes k k' σ × Makes s f σ) (Makes (app o k s) (tree o' m k' f))
    (λ σ. rw (eqb-true o o' e) (app-means σ o' k s m k' f))
    (finds-then (match k k' b) (match s f) b (Makes k k') (Makes s f) (h b) i)

match-finds : (q : Patterns) (f : Terms) (b : Bound) → Finds (match q f b) b (Makes q f)
unfolding match strip inst
match-finds no_patterns no_terms b = λ σ. (λ ag. (ag, refl), λ p. p.0)
match-finds no_patterns (tree o m k f) b = λ σ ag e. let z : ◌≡◌ {A = ℕ} 0 1 = cc in omega arith
match-finds (var x s) no_terms b = λ σ ag e. let z : ◌≡◌ {A = ℕ} 0 1 = cc in omega arith
match-finds (var x s) (tree o m k f) b =
    let t : Term = record { op = o; mark = m; kids = k } in
    finds-by (and_then (meet (b x) b x t) (match s f)) b (λ σ. (stripped t ≡ σ x) × Makes s f σ) (Makes (var x s) (tree o m k f))
    (λ σ. let v = var-means σ x s t f in (v.1, v.0))
    (finds-then (meet (b x) b x t) (match s f) b (λ σ. stripped t ≡ σ x) (Makes s f) (meet-finds b x t (b x) refl) (match-finds s f))
match-finds (app o k s) no_terms b = λ σ ag e. let z : ◌≡◌ {A = ℕ} 0 1 = cc in omega arith
match-finds (app o k s) (tree o' m k' f) b = op-finds b o o' k s m k' f (match-finds k k') (match-finds s f) (same_op o o') refl

-- what is bound has a substitution
given_by : Option Term → Term
given_by none = record { op = 0; mark = unmarked; kids = no_terms }
given_by (some t) = stripped t

given : (b : Bound) → AgreesB b (λ x. given_by (b x))
unfolding AgreesB given_by
given b x t e = rw e

none-agrees : (σ : Substitution) → AgreesB unbound σ
unfolding AgreesB
none-agrees σ x t e = absurd (none-ne-some _ e)

decided : (l r : Patterns) (s t : Terms) (o : Option Bound) → Finds o unbound (λ σ. Makes l s σ × Makes r t σ)
    → Decides (found o) (Instance l r s t)
decided l r s t none h = λ i. h i.σ (none-agrees i.σ) (i.left, i.right)
decided l r s t (some c) h =
    let p = (h (λ x. given_by (c x))).0 (given c) in
    record { σ = λ x. given_by (c x); left = p.1.0; right = p.1.1 }

pub fits-decides : (l r : Patterns) (s t : Terms) → Decides (fits l r s t) (Instance l r s t)
unfolding fits
fits-decides l r s t =
    decided l r s t (and_then (match l s unbound) (match r t))
    (finds-then (match l s unbound) (match r t) unbound (Makes l s) (Makes r t) (match-finds l s unbound) (match-finds r t))
