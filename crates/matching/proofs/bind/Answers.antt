-- `matching::bind` meets its contract: a bound variable is compared, and another takes the term that was found.
-- Assumes nothing.
use native.Mathlib.Omega.{arith}
use Prim.Native.Nat.{◌<◌}
use mathlib.Core.Path.{sym, subst}
use Rattle.model.specs.declared.Span.{Span}
use Rattle.terms.specs.Place.{EndsAt}
use Rattle.terms.proofs.Place.{end_same}
use Rattle.matching.specs.Match.{IsBound}
use Rattle.matching.proofs.Binding.{bind-same, bind-new}
use Rattle.matching.proofs.bind.Goals as goal
use Rattle.matching.proofs.bind.Goals.{Then-from-s}

-- what the variable is bound to
bound : (c : Then-from-s) → IsBound c.args.b c.args.x
bound c = rw c.span_of-s.ensures at c.if-from-s.true

abbrev old : (c : Then-from-s) → EndsAt c.args.words.now c.span_of-s.result.start c.span_of-s.result.end
old c = rw c.span_of-s.ensures (c.requires.valid.terms c.args.x c.requires.x_lt_variable_limit (bound c))

pub returns-then-from-s : goal.returns-then-from-s
returns-then-from-s c = λ e t ht.
    let a = c.args in
    let above = (goal.at.returns-then-from-s c).Then-from-s in
    let w = old above in
    rw (end_same a.words.now a.at _ e c.end_of-e.ensures.term t c.end_of-e.ensures.is ht)
    (bind-same a.words.now a.b a.x a.at e c.requires.x_lt_variable_limit c.requires.valid t ht (bound above)
    (rw c.if-not-same.false at (c.same_term-same.ensures _ e w.term t w.is ht)))

pub returns : goal.returns
returns c = λ e t ht.
    let a = c.args in
    let free : IsBound a.b a.x → ⊥ = λ l.
    let k = subst (λ (p : Span). p.start < p.end) (sym c.span_of-s.ensures) l in
    omega (arith, c.if-from-s.false) in
    rw (c.with_span.ensures, end_same a.words.now a.at _ e c.end_of-e.ensures.term t c.end_of-e.ensures.is ht)
    (bind-new a.words.now a.b a.x a.at e c.requires.x_lt_variable_limit c.requires.valid t ht free)
