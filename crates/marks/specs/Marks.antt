-- What the walks over marks answer.
-- Assumes nothing.
use Rattle.std.specs.Prelude.{ℕ, ◌+◌, ◌*◌, Bool, List, ◌≡◌, Option, Some, None}
use Rattle.model.specs.Limits.{flat_words}
use Rattle.model.specs.Term.{unmarked, marked, Terms, no_terms, tree, Term, one, join, size, count, marks}
use Rattle.model.specs.Step.{some_mark, is_mark}
use Rattle.terms.specs.Place.{TermAt, RowAt}
use Rattle.marks.specs.declared.Rest.{Rest}
use Rattle.marks.specs.declared.OneMark.{OneMark}

-- a row of n terms stands at a place
pub record HasRow (ws : List ℕ) (at n : ℕ) : Type 0 where
  pub terms : Terms
  pub is : RowAt ws at n terms

-- A row from its first mark on, as a walk in preorder meets it: the marked term, and the terms still to be read behind it. No terms where
-- the row has no mark: then what is found behind it is asked.
abbrev pub or_behind : Terms → Terms → Terms → Terms
or_behind no_terms s r = r
or_behind (tree o m k t) s r = join (tree o m k t) s

unfoldable pub from_mark : Terms → Terms
unfolding join
from_mark no_terms = no_terms
from_mark (tree o unmarked k s) = or_behind (from_mark k) s (from_mark s)
from_mark (tree o (marked d n) k s) = tree o (marked d n) k s

-- the row f at a place, walked to its first mark: behind so many nodes stands what is left of it, as many terms
pub record RestOf (ws : List ℕ) (at nodes pending : ℕ) (f : Terms) : Type 0 where
  pub left : RowAt ws (at + flat_words * nodes) pending (from_mark f)
  pub walked : nodes + size (from_mark f) ≡ size f

abbrev pub RestIs : List ℕ → ℕ → ℕ → Rest → Type 0
RestIs ws at n r = (f : Terms) → RowAt ws at n f → RestOf ws at r.nodes r.pending f

-- whether the row that stands there has a mark
abbrev pub MarkedIs : List ℕ → ℕ → ℕ → Bool → Type 0
MarkedIs ws at n r = (f : Terms) → RowAt ws at n f → r ≡ some_mark is_mark f

-- the term t from `at` to e has one mark, behind so many nodes
pub record OneAt (ws : List ℕ) (at e nodes end : ℕ) (t : Term) : Type 0 where
  pub alone : marks (one t) ≡ 1
  pub ends : end ≡ e
  pub rest : RestOf ws at nodes (count (from_mark (one t))) (one t)

abbrev pub OneBy : Option OneMark → List ℕ → ℕ → ℕ → Term → Type 0
OneBy (Some m) ws at e t = OneAt ws at e m.nodes m.end t
OneBy None ws at e t = marks (one t) ≡ 1 → ⊥

abbrev pub OneIs : List ℕ → ℕ → Option OneMark → Type 0
OneIs ws at r = (e : ℕ) (t : Term) → TermAt ws at e t → OneBy r ws at e t
