-- A rule fits when the left side is matched with nothing bound, and then the right side with what that bound.
-- Assumes nothing.
use Prim.Native.Nat.{ℕ, ◌<◌}
use mathlib.Core.List.{List}
use mathlib.Core.Path.{◌≡◌, refl, ap}
use native.Mathlib.Omega.{arith}
use native.Mathlib.Decide.{dec_lt}
use lib.ListN.{replicate, get_or-replicate}
use Rattle.model.specs.declared.Span.{Span}
use Rattle.model.specs.declared.Bindings.{Bindings}
use Rattle.model.specs.Limits.{variable_limit}
use Rattle.model.specs.Term.{unmarked, no_terms, Term, one, stripped}
use Rattle.model.specs.Pattern.{Patterns, Substitution, Instance, fits}
use Rattle.terms.specs.Place.{TermAt, Well, Decides}
use Rattle.terms.proofs.Place.{term-row, term-same}
use Rattle.terms.proofs.Only.{one_answer}
use mathlib.Core.Bool.{Bool, false}
use Rattle.std.specs.Prelude.{Option, Some, None, is_some}
use Rattle.rule_table.specs.Slots.{PatternsAt, Side}
use Rattle.matching.proofs.Matching.{fits-decides}
use Rattle.matching.specs.Match.{span_of, IsBound, TermOf, Valid, Agrees, Rows, SideMeans, MatchBy, MatchIs, FitIs}

-- nothing is bound yet
abbrev pub none_bound : Bindings
none_bound = record { spans = replicate variable_limit (record { start = 0; end = 0 }) }

none-bound : (x : ℕ) → IsBound none_bound x → x < variable_limit → ⊥
none-bound x b l =
    let z : Span = record { start = 0; end = 0 } in
    omega (arith, rw (get_or-replicate variable_limit x z z l) at b)

pub none-valid : (ws : List ℕ) → Valid ws none_bound
none-valid ws = record { size = refl; terms = λ x l b. absurd (none-bound x b l) }

none-agrees : (ws : List ℕ) (σ : Substitution) → Agrees ws none_bound σ
none-agrees ws σ x l b = absurd (none-bound x b l)

-- what is bound has a substitution
module _ (ws : List ℕ) (b : Bindings) (v : Valid ws b) where
  choose : (x : ℕ) → Dec (x < variable_limit) → Dec (IsBound b x) → Term
  choose x (yes l) (yes bd) = stripped (v.terms x l bd).term
  choose x (yes l) (no f) = record { op = 0; mark = unmarked; kids = no_terms }
  choose x (no f) d = record { op = 0; mark = unmarked; kids = no_terms }

  chosen : (x : ℕ) (p : Dec (x < variable_limit)) (d : Dec (IsBound b x)) → x < variable_limit → IsBound b x
      → (t : Term) → TermOf ws b x t → stripped t ≡ choose x p d
  unfolding choose
  chosen x (yes l) (yes bd) l' bd' t ht = let w = v.terms x l bd in ap stripped (term-same ws _ _ _ t w.term ht w.is)
  chosen x (yes l) (no f) l' bd' t ht = absurd (f bd')
  chosen x (no f) d l' bd' t ht = absurd (f l')

  record Given : Type 0 where
    σ : Substitution
    agrees : Agrees ws b σ

  some-agrees : Given
  some-agrees =
      record {
        σ = λ x. choose x (dec_lt x variable_limit) (dec_lt (span_of b x).start (span_of b x).end);
        agrees = λ x. chosen x (dec_lt x variable_limit) (dec_lt (span_of b x).start (span_of b x).end);
      }

-- one pattern, and one term
pub side-rows : (ps ws : List ℕ) (at : ℕ) (s : Side ps) (w : Well ws at) → Rows ps 0 1 ws at
side-rows ps ws at s w =
    record { patterns = s.pattern; terms = one w.term; is_p = s.is; is_t = term-row ws at w.end w.term w.is }

module _ (pl pr ws : List ℕ) (a b : ℕ) where
  -- the left side is not met
  pub fit-off : MatchIs pl 0 1 ws a none_bound None → FitIs pl pr ws a b false
  fit-off first l l' hl hl' e e' t u ht hu i =
      first l (one t) hl (term-row ws a e t ht) i.σ (record { agrees = none-agrees ws i.σ; makes = i.left })

  -- it is, and m is bound
  module _ (m : Bindings) (first : MatchIs pl 0 1 ws a none_bound (Some m)) where
    pub left-valid : Side pl → Well ws a → Valid ws m
    left-valid s w = (first s.pattern (one w.term) s.is (term-row ws a w.end w.term w.is)).valid

    fit-go : (r : Option Bindings) (l l' : Patterns) (t u : Term) → SideMeans ws none_bound m l (one t)
        → MatchBy r ws m l' (one u) → Decides (is_some r) (Instance l l' (one t) (one u))
    fit-go (Some k) l l' t u f s =
        let w = some-agrees ws k s.valid in
        let y = (s.same w.σ).0 w.agrees in
        record { σ = w.σ; left = ((f.same w.σ).0 y.agrees).makes; right = y.makes }
    fit-go None l l' t u f s = λ i.
        s i.σ
        (record { agrees = (f.same i.σ).1 (record { agrees = none-agrees ws i.σ; makes = i.left }); makes = i.right })

    pub fit_on : (r : Option Bindings) → MatchIs pr 0 1 ws b m r → FitIs pl pr ws a b (is_some r)
    fit_on r second l l' hl hl' e e' t u ht hu =
        fit-go r l l' t u (first l (one t) hl (term-row ws a e t ht)) (second l' (one u) hl' (term-row ws b e' u hu))

-- the answer is the model's
pub fit_is : (pl pr ws : List ℕ) (a b : ℕ) (r : Bool) → FitIs pl pr ws a b r → (l l' : Patterns) → PatternsAt pl 0 1 l
    → PatternsAt pr 0 1 l'
    → (e e' : ℕ) (t u : Term) → TermAt ws a e t → TermAt ws b e' u → r ≡ fits l l' (one t) (one u)
fit_is pl pr ws a b r h l l' hl hl' e e' t u ht hu =
    one_answer r (fits l l' (one t) (one u)) _ (h l l' hl hl' e e' t u ht hu) (fits-decides l l' (one t) (one u))
