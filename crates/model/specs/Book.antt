-- Rewriting as Baader and Nipkow define it, at one position, on terms without marks: what `Later` is held to.
-- s rewrites to t by the rule (l, r) at a position p of s if for some substitution σ the subterm of s at p is σ(l) and t is s with σ(r)
-- put there. `checker/proofs/Book.antt` shows that a later term is right exactly where its one mark tells such a rewrite, from the
-- earlier term to it (forward) or from it to the earlier (backward), marks aside; and that accepted words are exactly a chain of such
-- rewrites, one a later term, each read off its term's mark (`checker/proofs/Rewritings.antt`), or, told from the book's side, such a chain
-- written down with its marks (`checker/proofs/Written.antt`).
use Rattle.std.specs.Prelude.{ℕ, zero, suc, ◌≤◌, List, [], ◌∷◌, ◌≡◌, length}
use Rattle.std.proofs.Math.Option.{Option, none, some}
use Rattle.model.specs.declared.Direction.{Direction}
use Rattle.model.specs.Limits.{term_limit, word_limit}
use Rattle.model.specs.Term.{Mark, marked, Terms, no_terms, tree, Term, put, one, join, strip, Reads}
use Rattle.model.specs.Pattern.{Substitution, inst}
use Rattle.model.specs.Rule.{Rule, listed}
use Rattle.model.specs.Step.{left_of, right_of}

-- A position is a string of numbers: which term of the row, then which of its children, and so on.
abbrev pub Position : Type 0
Position = List ℕ

-- the subterm at a position
unfoldable pub subterm : Terms → Position → Option Term
subterm no_terms p = none
subterm (tree o m k s) [] = none
subterm (tree o m k s) (zero ∷ []) = some (record { op = o; mark = m; kids = k })
subterm (tree o m k s) (zero ∷ j ∷ p) = subterm k (j ∷ p)
subterm (tree o m k s) (suc i ∷ p) = subterm s (i ∷ p)

-- a row with another term put at a position
unfoldable pub replace : Terms → Position → Term → Terms
replace no_terms p u = no_terms
replace (tree o m k s) [] u = tree o m k s
replace (tree o m k s) (zero ∷ []) u = put u s
replace (tree o m k s) (zero ∷ j ∷ p) u = tree o m (replace k (j ∷ p) u) s
replace (tree o m k s) (suc i ∷ p) u = tree o m k (replace s (i ∷ p) u)

-- "s|p = σ(l) and t = s[σ(r)]p", by the rule of the number n: the book's terms carry no marks
pub record Rewrites (rs : List Rule) (n : ℕ) (p : Position) (s t : Terms) : Type 0 where
  pub before : strip s ≡ s
  pub after : strip t ≡ t
  pub rule : Rule
  pub is_in : listed rs n ≡ some rule
  pub σ : Substitution
  pub redex : Term
  pub contractum : Term
  pub stands : subterm s p ≡ some redex
  pub left : one redex ≡ inst σ rule.left
  pub right : one contractum ≡ inst σ rule.right
  pub makes : t ≡ replace s p contractum

-- What a mark tells of a rewrite: which way it is read, by which rule, and where.
pub record Move : Type 0 where
  pub way : Direction
  pub number : ℕ
  pub place : Position

-- s leads to t by a move: s rewrites to t (forward), or t to s (backward)
abbrev pub LeadsBy : List Rule → Move → Terms → Terms → Type 0
LeadsBy rs m s t = Rewrites rs m.number m.place (left_of m.way s t) (right_of m.way s t)

-- the node at a position has that mark
pub record MarkAt (t : Terms) (p : Position) (m : Mark) : Type 0 where
  pub term : Term
  pub stands : subterm t p ≡ some term
  pub bears : term.mark ≡ m

-- "exactly one mark": the one that tells the move, and every mark stands at its place
pub record OnlyMark (t : Terms) (m : Move) : Type 0 where
  pub here : MarkAt t m.place (marked m.way m.number)
  pub only : (p : Position) (d : Direction) (n : ℕ) → MarkAt t p (marked d n) → p ≡ m.place

-- a later term t behind the term s, in the book's words
pub record BookStep (rs : List Rule) (s t : Terms) : Type 0 where
  pub move : Move
  pub mark : OnlyMark t move
  pub rewrites : LeadsBy rs move (strip s) (strip t)

-- the later terms behind s are a chain of rewrites by these moves, one a term, each read off its term's mark
unfoldable pub ChainBy : List Rule → Terms → List Move → Terms → Type 0
ChainBy rs s [] no_terms = Unit {0}
ChainBy rs s [] (tree o x k f) = ⊥
ChainBy rs s (m ∷ ms) no_terms = ⊥
ChainBy rs s (m ∷ ms) (tree o x k f) =
    OnlyMark (tree o x k no_terms) m × LeadsBy rs m (strip s) (strip (tree o x k no_terms)) × ChainBy rs (tree o x k no_terms) ms f

-- words are a flat proof of n terms within the limits: its first term is unmarked, and n - 1 moves lead through the others
pub record Rewriting (rs : List Rule) (ws : List ℕ) (n : ℕ) : Type 0 where
  pub first : Term
  pub rest : Terms
  pub moves : List Move
  pub form : Reads ws (put first rest)
  pub plain : strip (one first) ≡ one first
  pub chain : ChainBy rs (one first) moves rest
  pub counted : suc (length moves) ≡ n
  pub few_words : length ws ≤ word_limit
  pub few_terms : n ≤ term_limit

-- The same told from the book's side, on terms without marks. A move's mark put in at its place: how a rewrite is written in a flat proof.
unfoldable pub marking : Terms → Position → Mark → Terms
marking no_terms p m = no_terms
marking (tree o x k s) [] m = tree o x k s
marking (tree o x k s) (zero ∷ []) m = tree o m k s
marking (tree o x k s) (zero ∷ j ∷ p) m = tree o x (marking k (j ∷ p) m) s
marking (tree o x k s) (suc i ∷ p) m = tree o x k (marking s (i ∷ p) m)

abbrev pub written : Terms → Move → Terms
written t m = marking t m.place (marked m.way m.number)

-- a chain of the book: each next term comes with the move that leads to it,
pub record Next : Type 0 where
  pub move : Move
  pub term : Term

unfoldable pub Leads : List Rule → Terms → List Next → Type 0
Leads rs s [] = Unit {0}
Leads rs s (x ∷ xs) = LeadsBy rs x.move s (one x.term) × Leads rs (one x.term) xs

-- and is written with that move's mark put in
unfoldable pub written_row : List Next → Terms
unfolding marking join
written_row [] = no_terms
written_row (x ∷ xs) = join (written (one x.term) x.move) (written_row xs)

-- words are such a chain of n terms, written down, within the limits
pub record Written (rs : List Rule) (ws : List ℕ) (n : ℕ) : Type 0 where
  pub first : Term
  pub rest : List Next
  pub plain : strip (one first) ≡ one first
  pub leads : Leads rs (one first) rest
  pub form : Reads ws (put first (written_row rest))
  pub counted : suc (length rest) ≡ n
  pub few_words : length ws ≤ word_limit
  pub few_terms : n ≤ term_limit
