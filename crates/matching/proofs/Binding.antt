-- What one variable says of every substitution.
-- Assumes nothing.
use Prim.Native.Nat.{ℕ, ◌<◌}
use mathlib.Core.List.{List}
use mathlib.Core.Path.{◌≡◌, refl, ap, sym, ◌∙◌}
use native.Mathlib.Omega.{arith}
use native.Mathlib.Decide.{ℕ_discrete}
use lib.ListN.{length-set}
use lib.Seq.{get_or-set_same, get_or-set_other}
use Rattle.model.specs.declared.Bindings.{Bindings}
use Rattle.model.specs.Limits.{variable_limit}
use Rattle.model.specs.Term.{Term, stripped}
use Rattle.model.specs.Pattern.{Substitution}
use Rattle.terms.specs.Place.{TermAt, EndsAt}
use Rattle.terms.proofs.Rows.{one-long}
use Rattle.terms.proofs.Place.{term-length, term-same}
use Rattle.std.specs.Prelude.{Some}
use Rattle.matching.specs.Match.{span_of, with_span, IsBound, TermOf, Valid, Agrees, BindBy}

module _ (ws : List ℕ) (b : Bindings) (x at e : ℕ) (l : x < variable_limit) (v : Valid ws b) (t : Term) (ht : TermAt ws at e t) where
  -- a variable that is bound
  pub bind-same : (bd : IsBound b x) → stripped (v.terms x l bd).term ≡ stripped t
      → BindBy (Some (record { at = e; more = 0; bound = b })) ws x b e t
  bind-same bd d =
      let w = v.terms x l bd in
      record { ends = refl; leaf = refl; valid = v; same = λ σ. (λ ag. (ag, sym d ∙ ag x l bd w.term w.is), λ p. p.0) }

  -- one that is not
  with-x : Bindings
  with-x = with_span b x (record { start = at; end = e })

  at_x : span_of with-x x ≡ record { start = at; end = e }
  unfolding with-x
  at_x = get_or-set_same b.spans x _ _ (omega (arith, v.size))

  off-x : (y : ℕ) → (y ≡ x → ⊥) → span_of with-x y ≡ span_of b y
  unfolding with-x
  off-x y f = get_or-set_other b.spans x y _ _ f

  x-terms : (y : ℕ) → Dec (y ≡ x) → y < variable_limit → IsBound with-x y → EndsAt ws (span_of with-x y).start (span_of with-x y).end
  x-terms y (yes p) ly bd = rw (p, at_x) (record { term = t; is = ht })
  x-terms y (no f) ly bd = rw (off-x y f) (v.terms y ly (rw (off-x y f) at bd))

  x-valid : Valid ws with-x
  unfolding with-x
  x-valid = record { size = length-set b.spans x _ ∙ v.size; terms = λ y. x-terms y (ℕ_discrete y x) }

  x-agrees : (σ : Substitution) → Agrees ws b σ → stripped t ≡ σ x → (y : ℕ) → Dec (y ≡ x) → y < variable_limit → IsBound with-x y
      → (u : Term) → TermOf ws with-x y u → stripped u ≡ σ y
  x-agrees σ ag p y (yes q) ly bd u hu = rw q (ap stripped (term-same ws at e e u t (rw (q, at_x) at hu) ht) ∙ p)
  x-agrees σ ag p y (no f) ly bd u hu = ag y ly (rw (off-x y f) at bd) u (rw (off-x y f) at hu)

  pub bind-new : (IsBound b x → ⊥)
      → BindBy (Some (record { at = e; more = 0; bound = with_span b x (record { start = at; end = e }) })) ws x b e t
  unfolding with-x
  bind-new no-x =
      record {
        ends = refl;
        leaf = refl;
        valid = x-valid;
        same = λ σ. (
          (λ ag. (
            (λ y ly bd u hu. let f : y ≡ x → ⊥ = λ q. no-x (rw q at bd) in ag y ly (rw (off-x y f) bd) u (rw (off-x y f) hu)),
            ag x l (rw at_x (omega (arith, term-length ws at e t ht, one-long t))) t (rw at_x ht),
          )),
          λ p. λ y. x-agrees σ p.0 p.1 y (ℕ_discrete y x),
        );
      }
