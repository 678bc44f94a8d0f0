-- Rows each of whose terms has one mark, one behind the other.
use Rattle.model.specs.Term.{Terms, no_terms, tree, join}
use Rattle.flat.specs.Marks.{OneMarkEach}

pub one-mark-join : (f g : Terms) → OneMarkEach f → OneMarkEach g → OneMarkEach (join f g)
unfolding OneMarkEach join
one-mark-join no_terms g h i = i
one-mark-join (tree o m k s) g h i = (h.0, one-mark-join s g h.1 i)
