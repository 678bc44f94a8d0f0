-- What is bound, and what a match says of every substitution.
-- Assumes nothing.
use Rattle.std.specs.Prelude.{ℕ, suc, ◌+◌, ◌<◌, List, Bool, true, false, ◌≡◌, ◌↔◌, Option, Some, None, length, get_or, set}
use Rattle.model.specs.declared.Span.{Span}
use Rattle.model.specs.declared.Bindings.{Bindings}
use Rattle.model.specs.Limits.{variable_limit, flat_words}
use Rattle.model.specs.Tables.{item_words}
use Rattle.model.specs.Term.{Terms, Term, one, strip, stripped}
use Rattle.model.specs.Pattern.{Patterns, Substitution, inst, Instance}
use Rattle.terms.specs.Place.{node_of, same_head, TermAt, RowAt, EndsAt, Decides}
use Rattle.rule_table.specs.Slots.{PatternsAt}
use Rattle.matching.specs.declared.ItemFit.{ItemFit}

-- "each bound to one subterm's start and end"; an empty span is not bound
abbrev pub span_of : Bindings → ℕ → Span
span_of b x = get_or b.spans x (record { start = 0; end = 0 })

abbrev pub with_span : Bindings → ℕ → Span → Bindings
with_span b x s = record { spans = set b.spans x s }

abbrev pub IsBound : Bindings → ℕ → Type 0
IsBound b x = (span_of b x).start < (span_of b x).end

-- the term t stands at x's span
abbrev pub TermOf : List ℕ → Bindings → ℕ → Term → Type 0
TermOf ws b x t = TermAt ws (span_of b x).start (span_of b x).end t

-- every variable that is bound is bound to a term
pub record Valid (ws : List ℕ) (b : Bindings) : Type 0 where
  pub size : length b.spans ≡ variable_limit
  pub terms : (x : ℕ) → x < variable_limit → IsBound b x → EndsAt ws (span_of b x).start (span_of b x).end

-- σ gives every variable that is bound its term, marks aside
abbrev pub Agrees : List ℕ → Bindings → Substitution → Type 0
Agrees ws b σ = (x : ℕ) → x < variable_limit → IsBound b x → (t : Term) → TermOf ws b x t → stripped t ≡ σ x

-- σ agrees with what is bound, and makes the patterns the terms, marks aside
pub record Means (ws : List ℕ) (b : Bindings) (f : Terms) (q : Patterns) (σ : Substitution) : Type 0 where
  pub agrees : Agrees ws b σ
  pub makes : strip f ≡ inst σ q

-- n patterns from the item on, and as many terms from `at` on
pub record Rows (ps : List ℕ) (item n : ℕ) (ws : List ℕ) (at : ℕ) : Type 0 where
  pub patterns : Patterns
  pub terms : Terms
  pub is_p : PatternsAt ps item n patterns
  pub is_t : RowAt ws at n terms

-- at least one of each
pub record SomeRows (ps : List ℕ) (item : ℕ) (ws : List ℕ) (at : ℕ) : Type 0 where
  pub left : ℕ
  pub rows : Rows ps item (suc left) ws at

-- a variable x that met the term t, which ends at e: what is bound then agrees with the same substitutions that give x the term
pub record BindMeans (ws : List ℕ) (x : ℕ) (b : Bindings) (r : ItemFit) (e : ℕ) (t : Term) : Type 0 where
  pub ends : r.at ≡ e
  pub leaf : r.more ≡ 0
  pub valid : Valid ws r.bound
  pub same : (σ : Substitution) → Agrees ws r.bound σ ↔ (Agrees ws b σ × (stripped t ≡ σ x))

abbrev pub BindBy : Option ItemFit → List ℕ → ℕ → Bindings → ℕ → Term → Type 0
BindBy (Some r) ws x b e t = BindMeans ws x b r e t
BindBy None ws x b e t = (σ : Substitution) → Agrees ws b σ → stripped t ≡ σ x → ⊥

abbrev pub BindIs : List ℕ → ℕ → ℕ → Bindings → Option ItemFit → Type 0
BindIs ws x at b r = (e : ℕ) (t : Term) → TermAt ws at e t → BindBy r ws x b e t

-- an operator o with n children that met the node at `at`: they agree, and the children follow
abbrev pub fit_if : Bool → ItemFit → Option ItemFit
fit_if true r = Some r
fit_if false r = None

abbrev pub op_step : List ℕ → ℕ → ℕ → ℕ → Bindings → Option ItemFit
op_step ws o n at b = fit_if (same_head (node_of ws at) o n) (record { at = at + flat_words; more = n; bound = b })

-- one item of rows q and f: what is left to match is met by the same substitutions
pub record ItemMeans (ps : List ℕ) (item : ℕ) (ws : List ℕ) (b : Bindings) (r : ItemFit) (n : ℕ) (q : Patterns) (f : Terms) : Type 0 where
  pub valid : Valid ws r.bound
  pub rows : Rows ps (item + item_words) (r.more + n) ws r.at
  pub same : (σ : Substitution) → Means ws r.bound rows.terms rows.patterns σ ↔ Means ws b f q σ

abbrev pub ItemBy : Option ItemFit → List ℕ → ℕ → List ℕ → Bindings → ℕ → Patterns → Terms → Type 0
ItemBy (Some r) ps item ws b n q f = ItemMeans ps item ws b r n q f
ItemBy None ps item ws b n q f = (σ : Substitution) → Means ws b f q σ → ⊥

abbrev pub ItemIs : List ℕ → ℕ → List ℕ → ℕ → Bindings → Option ItemFit → Type 0
ItemIs ps item ws at b r =
    (n : ℕ) (q : Patterns) (f : Terms) → PatternsAt ps item (suc n) q → RowAt ws at (suc n) f
    → ItemBy r ps item ws b n q f

-- the whole: the substitutions that agree with what is bound then are those that agreed before and make the patterns the
-- terms; or there are none
pub record SideMeans (ws : List ℕ) (b b' : Bindings) (q : Patterns) (f : Terms) : Type 0 where
  pub valid : Valid ws b'
  pub same : (σ : Substitution) → Agrees ws b' σ ↔ Means ws b f q σ

abbrev pub MatchBy : Option Bindings → List ℕ → Bindings → Patterns → Terms → Type 0
MatchBy (Some b') ws b q f = SideMeans ws b b' q f
MatchBy None ws b q f = (σ : Substitution) → Means ws b f q σ → ⊥

abbrev pub MatchIs : List ℕ → ℕ → ℕ → List ℕ → ℕ → Bindings → Option Bindings → Type 0
MatchIs ps item n ws at b r =
    (q : Patterns) (f : Terms) → PatternsAt ps item n q → RowAt ws at n f → MatchBy r ws b q f

-- r says whether the terms at a and b are an instance of the rule whose sides stand in pl and pr
abbrev pub FitIs : List ℕ → List ℕ → List ℕ → ℕ → ℕ → Bool → Type 0
FitIs pl pr ws a b r =
    (l l' : Patterns) → PatternsAt pl 0 1 l → PatternsAt pr 0 1 l'
    → (e e' : ℕ) (t u : Term) → TermAt ws a e t → TermAt ws b e' u → Decides r (Instance l l' (one t) (one u))
