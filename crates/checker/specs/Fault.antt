-- Why the strict checker rejects words, in the words of document 01: each refusal (model/specs/Refusal.antt has its number), with its
-- place, where its condition is the first to hold.
-- Nothing here is computed but where a node's mark is looked for, and the subterm at a position; `checker/proofs/Faults.antt` has that `verdict`
-- rejects just so.
-- Assumes nothing.
use Rattle.std.specs.Prelude.{ℕ, zero, suc, ◌≤◌, ◌<◌, List, [], ◌⊎◌, ◌≡◌, length}
use Rattle.std.proofs.Math.Option.{none}
use Rattle.model.specs.declared.Direction.{Direction}
use Rattle.model.specs.declared.Refusal.{Refusal}
use Rattle.model.specs.declared.Refusal.TheVariants.{NoWords, NoTerms, FirstMarked as IsMarked, NotOneMark, RuleUnlisted, NoStep, TooLong}
use Rattle.model.specs.Limits.{term_limit, word_limit}
use Rattle.model.specs.Term.{Mark, unmarked, marked, Terms, no_terms, tree, Term, one, count, Reads}
use Rattle.model.specs.Rule.{Rule, listed}
use Rattle.model.specs.Step.{Step}
use Rattle.model.specs.Book.{Position, MarkAt}

-- some node of a row has a mark of which P holds
unfoldable pub Somewhere : (Mark → Type 0) → Terms → Type 0
Somewhere P no_terms = ⊥
Somewhere P (tree o m k s) = P m ⊎ (Somewhere P k ⊎ Somewhere P s)

-- a mark at all; one that names an unlisted rule
abbrev pub Marks : Mark → Type 0
Marks unmarked = ⊥
Marks (marked d r) = Unit {0}

abbrev pub Unknown : List Rule → Mark → Type 0
Unknown rs unmarked = ⊥
Unknown rs (marked d r) = listed rs r ≡ none

-- two nodes have marks, whether one stands inside the other or beside it
pub record TwoMarks (t : Terms) : Type 0 where
  pub first : Position
  pub second : Position
  pub apart : first ≡ second → ⊥
  pub way : Direction
  pub number : ℕ
  pub is_first : MarkAt t first (marked way number)
  pub way' : Direction
  pub number' : ℕ
  pub is_second : MarkAt t second (marked way' number')

-- 15, as A10 leaves it: no mark, or more than one
abbrev pub NotOne : Terms → Type 0
NotOne t = (Somewhere Marks t → ⊥) ⊎ TwoMarks t

-- "by 15, 18, 16, 17", of which A10 leaves 15, 16, 17: why the term t may not come behind the term s, the condition and none before it
pub data LaterFault (rs : List Rule) (s t : Terms) : Refusal → Type 0 where
  is-15 : NotOne t → LaterFault rs s t NotOneMark
  is-16 : (NotOne t → ⊥) → Somewhere (Unknown rs) t → LaterFault rs s t RuleUnlisted
  is-17 : (NotOne t → ⊥) → (Somewhere (Unknown rs) t → ⊥) → (Step rs s t → ⊥) → LaterFault rs s t NoStep

-- the term at a place of a row, from 0
unfoldable pub At : Terms → ℕ → Term → Type 0
At no_terms k t = ⊥
At (tree o m ks f) zero t = t ≡ record { op = o; mark = m; kids = ks }
At (tree o m ks f) (suc k) t = At f k t

-- the term at place k + 1 of a row is the first of the later ones to have a fault, and it has the fault r
pub record FirstLater (rs : List Rule) (f : Terms) (r : Refusal) (k : ℕ) : Type 0 where
  pub earlier : Term
  pub later : Term
  pub is_e : At f k earlier
  pub is_l : At f (suc k) later
  pub before : (j : ℕ) (s t : Term) → j < k → At f j s → At f (suc j) t → (q : Refusal) → LaterFault rs (one s) (one t) q → ⊥
  pub fault : LaterFault rs (one earlier) (one later) r

-- words that 19, 12 and 13 say nothing of: those of a row of not too many terms
pub record Formed (ws : List ℕ) (f : Terms) : Type 0 where
  pub few_words : length ws ≤ word_limit
  pub some_words : ws ≡ [] → ⊥
  pub form : Reads ws f
  pub few_terms : count f ≤ term_limit

-- "14: first term marked"
pub record FirstMarked (f : Terms) : Type 0 where
  pub term : Term
  pub is_at : At f 0 term
  pub has_mark : Somewhere Marks (one term)

-- "19 for words, 12, 13, 19 for terms, 14, then each later term in order": the refusal, and the term's place
pub data FirstFault (rs : List Rule) (ws : List ℕ) : Refusal → ℕ → Type 0 where
  words-19 : word_limit < length ws → FirstFault rs ws TooLong 0
  words-12 : length ws ≤ word_limit → ws ≡ [] → FirstFault rs ws NoWords 0
  words-13 : length ws ≤ word_limit → (ws ≡ [] → ⊥) → ((f : Terms) → Reads ws f → ⊥) → FirstFault rs ws NoTerms 0
  terms-19 : length ws ≤ word_limit → (ws ≡ [] → ⊥) → (f : Terms) → Reads ws f → term_limit < count f → FirstFault rs ws TooLong 0
  first-14 : (f : Terms) → Formed ws f → FirstMarked f → FirstFault rs ws IsMarked 0
  later-by : (f : Terms) → Formed ws f → (FirstMarked f → ⊥) → (r : Refusal) (k : ℕ) → FirstLater rs f r k → FirstFault rs ws r (suc k)
