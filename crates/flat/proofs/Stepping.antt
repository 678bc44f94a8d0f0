-- Laws of the checker's step: the earlier term's marks play no part, equal unmarked rows step, and rows step side by side; and
-- of terms that each step from the one before.
use Prim.Native.Nat.{ℕ}
use mathlib.Core.Path.{◌≡◌, refl, sym, ◌∙◌}
use mathlib.Core.List.{List}
use native.Mathlib.Omega.{arith}
use Rattle.model.specs.declared.Direction.{Direction}
use Rattle.model.specs.declared.Direction.TheVariants.{Forward, Backward}
use Rattle.model.specs.Term.{Mark, unmarked, marked, Terms, no_terms, tree, join, strip, marks}
use Rattle.model.specs.Rule.{Rule}
use Rattle.model.specs.Step.{ByRule, Allowed, Step}
use Rattle.model.specs.Verdict.{Later, Chain}
use Rattle.model.specs.Flat.{within}
use Rattle.flat.specs.Marks.{OneMarkEach}
use Rattle.flat.specs.Ends.{last_or}

module _ (rs : List Rule) where
  by-rule-alike : (n : ℕ) (s s' t t' : Terms) → strip s ≡ strip s' → strip t ≡ strip t' → ByRule rs n s t → ByRule rs n s' t'
  by-rule-alike n s s' t t' p q r =
      record {
        rule = r.rule;
        is_in = r.is_in;
        fit = record { σ = r.fit.σ; left = sym p ∙ r.fit.left; right = sym q ∙ r.fit.right };
      }

  pub allowed-alike : (d : Direction) (n : ℕ) (s s' t t' : Terms) → strip s ≡ strip s' → strip t ≡ strip t' → Allowed rs (marked d n) s t →
      Allowed rs (marked d n) s' t'
  allowed-alike Forward n s s' t t' p q r = by-rule-alike n s s' t t' p q r
  allowed-alike Backward n s s' t t' p q r = by-rule-alike n t t' s s' q p r

  -- "the earlier one's marks ignored"
  pub step-alike : (s s' t : Terms) → strip s ≡ strip s' → Step rs s t → Step rs s' t
  unfolding Step strip
  step-alike no_terms no_terms t p h = h
  step-alike no_terms (tree o m k s) t p h = let z : ◌≡◌ {A = ℕ} 0 1 = cc in absurd (omega arith)
  step-alike (tree o m k s) no_terms t p h = let z : ◌≡◌ {A = ℕ} 0 1 = cc in absurd (omega arith)
  step-alike (tree o m k s) (tree o' m' k' s') no_terms p h = h
  step-alike (tree o m k s) (tree o' m' k' s') (tree q unmarked l t) p h =
      let eo : o ≡ o' = cc in
      let ek : strip k ≡ strip k' = cc in
      let es : strip s ≡ strip s' = cc in
      (sym eo ∙ h.0, step-alike k k' l ek h.1, step-alike s s' t es h.2)
  step-alike (tree o m k s) (tree o' m' k' s') (tree q (marked d n) l t) p h =
      let e : tree o unmarked (strip k) no_terms ≡ tree o' unmarked (strip k') no_terms = cc in
      let es : strip s ≡ strip s' = cc in
      (allowed-alike d n _ _ _ _ e refl h.0, step-alike s s' t es h.1)

  step-self : (f : Terms) → marks f ≡ 0 → Step rs f f
  unfolding Step marks
  step-self no_terms h = tt
  step-self (tree o unmarked k s) h = (refl, step-self k (omega arith), step-self s (omega arith))
  step-self (tree o (marked d n) k s) h = absurd (omega arith)

  step-join : (f f' g g' : Terms) → Step rs f f' → Step rs g g' → Step rs (join f g) (join f' g')
  unfolding Step join
  step-join no_terms no_terms g g' h i = i
  step-join no_terms (tree o m k s) g g' h i = absurd h
  step-join (tree o m k s) no_terms g g' h i = absurd h
  step-join (tree o m k s) (tree o' unmarked k' s') g g' h i = (h.0, h.1, step-join s s' g g' h.2 i)
  step-join (tree o m k s) (tree o' (marked d n) k' s') g g' h i = (h.0, step-join s s' g g' h.1 i)

  -- each term of a row steps from the one before, the first from s
  unfoldable pub Stepping : Terms → Terms → Type 0
  unfolding Step
  Stepping s no_terms = Unit {0}
  Stepping s (tree o m k f) = Step rs s (tree o m k no_terms) × Stepping (tree o m k no_terms) f

  pub stepping-alike : (s t f : Terms) → strip s ≡ strip t → Stepping s f → Stepping t f
  unfolding Stepping
  stepping-alike s t no_terms p h = tt
  stepping-alike s t (tree o m k f) p h = (step-alike s t (tree o m k no_terms) p h.0, h.1)

  pub stepping-join : (s f g : Terms) → Stepping s f → Stepping (last_or s f) g → Stepping s (join f g)
  unfolding Stepping last_or join
  stepping-join s no_terms g h i = i
  stepping-join s (tree o m k f) g h i = (h.0, stepping-join (tree o m k no_terms) f g h.1 i)

  -- a child's run within its node, the other children held
  module _ (o : ℕ) (before behind : Terms) (b : marks before ≡ 0) (h : marks behind ≡ 0) where
    step-within : (p q : ℕ) (m n : Mark) (k l : Terms) → Step rs (tree p m k no_terms) (tree q n l no_terms) →
        Step rs (tree o unmarked (join before (tree p m k behind)) no_terms)
        (tree o unmarked (join before (tree q n l behind)) no_terms)
    unfolding Step join
    step-within p q m n k l i = (
      refl,
      step-join before before (tree p m k behind) (tree q n l behind) (step-self before b)
          (step-join (tree p m k no_terms) (tree q n l no_terms) behind behind i (step-self behind h)),
      tt,
    )

    pub stepping-within : (p : ℕ) (m : Mark) (k f : Terms) → Stepping (tree p m k no_terms) f →
        Stepping (within o before behind (tree p m k no_terms)) (within o before behind f)
    unfolding Stepping within
    stepping-within p m k no_terms i = tt
    stepping-within p m k (tree q n l f) i = (step-within p q m n k l i.0, stepping-within q n l f i.1)

  -- with one mark each they are a chain, as the checker wants it
  pub stepping-chain : (s f : Terms) → OneMarkEach f → Stepping s f → Chain rs s f
  unfolding Stepping Chain OneMarkEach
  stepping-chain s no_terms e h = tt
  stepping-chain s (tree o m k f) e h =
      let here : Later rs s (tree o m k no_terms) = record { one_mark = e.0; arises = h.0 } in
      (here, stepping-chain (tree o m k no_terms) f e.1 h.1)
