-- What the checker's parts answer, over an accepted rule table whose rules are rs.
-- Assumes nothing.
use Rattle.std.specs.Prelude.{ℕ, Bool, true, false, not, List, ◌≡◌, eqb, Result, Ok, Err}
use Rattle.std.proofs.Math.Option.{some}
use Rattle.model.specs.declared.Refusal.{Refusal}
use Rattle.model.specs.declared.Refusal.TheVariants.{NotOneMark, RuleUnlisted, NoStep}
use Rattle.model.specs.declared.Direction.{Direction}
use Rattle.model.specs.Judged.{good, Judgement}
use Rattle.model.specs.Term.{marked, Terms, no_terms, tree, Term, one, marks}
use Rattle.model.specs.Pattern.{fits}
use Rattle.model.specs.Rule.{Rule}
use Rattle.model.specs.Tables.{rule_entry, rule_table}
use Rattle.model.specs.Step.{left_of, right_of, step, unlisted}
use Rattle.model.specs.Verdict.{Verdict, chain_verdict, terms_verdict, verdict}
use Rattle.terms.specs.Place.{TermAt, RowAt, EndsAt}
use Rattle.marks.specs.Marks.{OneAt}

-- r says whether the rule of entry i makes the term at a its left side and the term at b its right side
abbrev pub EntryFits : List ℕ → ℕ → List ℕ → ℕ → ℕ → Bool → Type 0
EntryFits rws i ws a b r =
    (x : Rule) → rule_entry rws i ≡ some x → (e e' : ℕ) (t u : Term) → TermAt ws a e t → TermAt ws b e' u
    → r ≡ fits x.left x.right (one t) (one u)

-- whether a rule, read one way, allows a term t to follow a term s
abbrev pub fits_by : Rule → Direction → Terms → Terms → Bool
fits_by x d s t = fits x.left x.right (left_of d s t) (right_of d s t)

-- and whether, read as the mark at its root says, it allows the term at b to follow the term at a
abbrev pub MarkFits : List ℕ → ℕ → List ℕ → ℕ → ℕ → Bool → Type 0
MarkFits rws i ws a b r =
    (x : Rule) → rule_entry rws i ≡ some x → (e e' : ℕ) (t u : Term) → TermAt ws a e t → TermAt ws b e' u
    → (d : Direction) (n : ℕ) → u.mark ≡ marked d n → r ≡ fits_by x d (one t) (one u)

-- a term from `at` to `end` with one mark, behind so many nodes, stands behind a term
pub record Marked (ws : List ℕ) (before at nodes end : ℕ) : Type 0 where
  pub earlier : Term
  pub is_e : TermAt ws before at earlier
  pub later : Term
  pub is_l : TermAt ws at end later
  pub mark : OneAt ws at end nodes end later

-- r says whether the term at b is a step from the term at a
abbrev pub StepIs : List ℕ → List ℕ → ℕ → ℕ → Bool → Type 0
StepIs rws ws a b r =
    (rs : List Rule) → rule_table rws ≡ good rs → (e e' : ℕ) (t u : Term) → TermAt ws a e t → TermAt ws b e' u
    → r ≡ step rs (one t) (one u)

-- by 15, 16, 17 in this order: the first that holds, if one does
abbrev pub fault_if : Bool → Refusal → Judgement → Judgement
fault_if true r j = Err r
fault_if false r j = j

unfoldable pub fault_of : List Rule → Terms → Terms → Judgement
unfolding step marks unlisted
fault_of rs s t = fault_if (not (eqb (marks t) 1)) NotOneMark (fault_if (unlisted rs t) RuleUnlisted (fault_if (not (step rs s t)) NoStep (Ok tt)))

abbrev pub FaultIs : List ℕ → List ℕ → ℕ → ℕ → Judgement → Type 0
FaultIs rws ws before at r =
    (rs : List Rule) → rule_table rws ≡ good rs → (e e' : ℕ) (s t : Term) → TermAt ws before e s → TermAt ws at e' t
    → r ≡ fault_of rs (one s) (one t)

-- a later term has no fault, and ends there; or it has one
abbrev pub FollowsIs : List ℕ → List ℕ → ℕ → ℕ → Result ℕ Refusal → Type 0
FollowsIs rws ws before at (Ok e) = EndsAt ws at e × FaultIs rws ws before at (Ok tt)
FollowsIs rws ws before at (Err r) = FaultIs rws ws before at (Err r)

-- the verdict on the later terms of a row, and on the row
abbrev pub chain_of : List Rule → Terms → Verdict
chain_of rs no_terms = Ok 0
chain_of rs (tree o m k f) = chain_verdict rs 1 (tree o m k no_terms) f

abbrev pub ChainIs : List ℕ → List ℕ → ℕ → Verdict → Type 0
ChainIs rws ws n r = (rs : List Rule) → rule_table rws ≡ good rs → (f : Terms) → RowAt ws 0 n f → r ≡ chain_of rs f

abbrev pub TermsIs : List ℕ → List ℕ → ℕ → Verdict → Type 0
TermsIs rws ws n r = (rs : List Rule) → rule_table rws ≡ good rs → (f : Terms) → RowAt ws 0 n f → r ≡ terms_verdict rs (some f)

-- the whole: what the strict checker says
abbrev pub VerdictIs : List ℕ → List ℕ → Verdict → Type 0
VerdictIs rws ws r = (rs : List Rule) → rule_table rws ≡ good rs → r ≡ verdict rs ws
