-- That a term stands at a place has one proof at most: so a type's field that holds it truncated gives it back. Assumes nothing.
use Prim.Native.Nat.{ℕ}
use mathlib.Core.HLevel.{is_prop→PathP, Unit-prop}
use mathlib.Core.List.{List}
use mathlib.Core.Logic.{∥∥₁_elim}
use Rattle.std.proofs.Math.Bridge.{le_prop}
use Rattle.std.proofs.Props.{props}
use mathlib.Core.Path.{◌≡◌}
use lib.Seq.{slice}
use Rattle.model.specs.Term.{Terms, no_terms, tree, Term, Narrow, one, words}
use Rattle.terms.specs.Place.{TermAt, Well}
use Rattle.terms.proofs.Place.{end_same, term-same}

narrow-prop : (f : Terms) → IsProp (Narrow f)
unfolding Narrow
narrow-prop no_terms = Unit-prop
narrow-prop (tree o m k s) = hlevel (props, le_prop, narrow-prop k, narrow-prop s)

term_at-prop : (ws : List ℕ) (at e : ℕ) (t : Term) → IsProp (TermAt ws at e t)
term_at-prop ws at e t x y =
    let spelled-prop : IsProp (slice at e ws ≡ words (one t)) = hlevel props in
    λ i. record {
      narrow = narrow-prop (one t) x.narrow y.narrow i;
      within = le_prop x.within y.within i;
      spelled = spelled-prop x.spelled y.spelled i;
    }

well-prop : (ws : List ℕ) (at : ℕ) → IsProp (Well ws at)
well-prop ws at x y =
    let e = end_same ws at x.end y.end x.term y.term x.is y.is in
    let t = term-same ws at x.end y.end x.term y.term x.is y.is in
    λ i. record {
      end = e i;
      term = t i;
      is = is_prop→PathP (λ j. TermAt ws at (e j) (t j)) (λ j. term_at-prop ws at (e j) (t j)) x.is y.is i;
    }

pub well-of : {ws : List ℕ} {at : ℕ} → ∥ Well ws at ∥₁ → Well ws at
well-of {ws} {at} w = ∥∥₁_elim w (well-prop ws at) (λ x. x)
