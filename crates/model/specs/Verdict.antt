-- What the strict checker says of words, over accepted rules: declaratively, and computed in document 01's order.
use Rattle.std.specs.Prelude.{ℕ, suc, ◌≤◌, List, Bool, true, false, not, ◌≡◌, eqb, ltb, length, Result, Ok, Err}
use Rattle.std.proofs.Math.Option.{Option, none, some}
use Rattle.model.specs.declared.Refusal.{Refusal}
use Rattle.model.specs.declared.Refusal.TheVariants.{NoWords, NoTerms, FirstMarked, NotOneMark, RuleUnlisted, NoStep, TooLong}
use Rattle.model.specs.declared.Rejection.{Rejection}
use Rattle.model.specs.Limits.{term_limit, word_limit}
use Rattle.model.specs.Term.{Terms, no_terms, tree, count, marks, read, Reads}
use Rattle.model.specs.Refusal.{number}
use Rattle.model.specs.Rule.{Rule}
use Rattle.model.specs.Step.{Step, step, some_mark, is_mark, unlisted}

-- Demand 2 as A10 leaves it ("one or more" marked places became one): each later term arises from the one before by an instance of a listed
-- rule at its one marked place and is the same elsewhere. `checker/proofs/Book.antt` `later-book`: that is one rewrite of the book's, at the
-- mark's place, by the rule that it names.
pub record Later (rs : List Rule) (s t : Terms) : Type 0 where
  pub one_mark : marks t ≡ 1
  pub arises : Step rs s t

unfoldable pub Chain : List Rule → Terms → Terms → Type 0
Chain rs s no_terms = Unit {0}
Chain rs s (tree o m k f) = Later rs s (tree o m k no_terms) × Chain rs (tree o m k no_terms) f

-- a flat proof: its first term is unmarked, and each later one arises from the one before
unfoldable pub Strict : List Rule → Terms → Type 0
unfolding Chain
Strict rs no_terms = ⊥
Strict rs (tree o m k f) = (some_mark is_mark (tree o m k no_terms) ≡ false) × Chain rs (tree o m k no_terms) f

-- "keeps 01's form and limits", and is a flat proof of n terms
pub record Proves (rs : List Rule) (ws : List ℕ) (n : ℕ) : Type 0 where
  pub terms : Terms
  pub form : Reads ws terms
  pub counted : count terms ≡ n
  pub few_words : length ws ≤ word_limit
  pub few_terms : n ≤ term_limit
  pub strict : Strict rs terms

-- What the checker answers: the count of terms, or the refusal and the term's place.
abbrev pub Verdict : Type 0
Verdict = Result ℕ Rejection

abbrev pub rejection : Refusal → ℕ → Rejection
rejection r k = record { refusal = r; place = k }

-- Computed: the refusal where its condition holds, at the place, else what comes behind it.
abbrev pub reject_if : Bool → Refusal → ℕ → Verdict → Verdict
reject_if true r k v = Err (rejection r k)
reject_if false r k v = v

-- "then each later term in order by 15, 18, 16, 17", of which A10 leaves 15, 16, 17: the term at place k, behind the term s, and what comes
-- behind it. 15 is a term without exactly one mark, and 18 nobody's number.
unfoldable pub later_verdict : List Rule → ℕ → Terms → Terms → Verdict → Verdict
unfolding step marks unlisted
later_verdict rs k s t v =
    reject_if (not (eqb (marks t) 1)) NotOneMark k
    (reject_if (unlisted rs t) RuleUnlisted k
    (reject_if (not (step rs s t)) NoStep k v))

unfoldable pub chain_verdict : List Rule → ℕ → Terms → Terms → Verdict
unfolding later_verdict
chain_verdict rs k s no_terms = Ok k
chain_verdict rs k s (tree o m ks f) =
    later_verdict rs k s (tree o m ks no_terms) (chain_verdict rs (suc k) (tree o m ks no_terms) f)

-- "19 for terms, 14"; no terms at all are words of no proof, 12
unfoldable pub terms_verdict : List Rule → Option Terms → Verdict
unfolding chain_verdict some_mark count
terms_verdict rs none = Err (rejection NoTerms 0)
terms_verdict rs (some no_terms) = Err (rejection NoWords 0)
terms_verdict rs (some (tree o m k f)) =
    reject_if (ltb term_limit (suc (count f))) TooLong 0
    (reject_if (some_mark is_mark (tree o m k no_terms)) FirstMarked 0
    (chain_verdict rs 1 (tree o m k no_terms) f))

-- "19 for words, 12, 13": words that are none read as no terms
unfoldable pub verdict : List Rule → List ℕ → Verdict
unfolding terms_verdict read
verdict rs ws = reject_if (ltb word_limit (length ws)) TooLong 0 (terms_verdict rs (read ws))

-- document 01's number and value for each case: "Success is number 0", with the count of terms; else the number and the place
pub record Report : Type 0 where
  pub number : ℕ
  pub value : ℕ

abbrev pub report_of : Verdict → Report
report_of (Ok n) = record { number = 0; value = n }
report_of (Err e) = record { number = number e.refusal; value = e.place }
