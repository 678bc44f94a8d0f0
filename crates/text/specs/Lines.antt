-- What the text of words is: one term, or each term on a line of its own.
use Rattle.std.specs.Prelude.{List, [], ℕ}
use Rattle.std.proofs.Math.Option.{Option, none, some}
use Rattle.model.specs.Term.{Terms, Term, one, Reads, read}
use Rattle.model.specs.Text.{lines}

-- "each term on a line of its own"; words that say no terms have none
abbrev pub lines_by : Option Terms → List ℕ
lines_by none = []
lines_by (some f) = lines f

unfoldable pub lines_of : List ℕ → List ℕ
unfolding read
lines_of ws = lines_by (read ws)

-- the words say terms; they say one
pub record SayTerms (ws : List ℕ) : Type 0 where
  pub terms : Terms
  pub reads : Reads ws terms

pub record SayTerm (ws : List ℕ) : Type 0 where
  pub term : Term
  pub reads : Reads ws (one term)
