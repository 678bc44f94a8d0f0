-- Rows each of whose terms has exactly one mark.
use Rattle.std.specs.Prelude.{◌≡◌}
use Rattle.model.specs.Term.{Terms, no_terms, tree, marks}

-- each term of a row has exactly one mark
unfoldable pub OneMarkEach : Terms → Type 0
unfolding marks
OneMarkEach no_terms = Unit {0}
OneMarkEach (tree o m k s) = (marks (tree o m k no_terms) ≡ 1) × OneMarkEach s
