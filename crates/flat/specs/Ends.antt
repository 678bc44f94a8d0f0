-- The ends of a row of terms.
use Rattle.std.specs.Prelude.{ℕ, false, List, ◌≡◌}
use Rattle.model.specs.Term.{Terms, no_terms, tree, one, strip}
use Rattle.model.specs.Step.{some_mark, is_mark}
use Rattle.model.specs.Node.{Node, term_of}

-- the first term of a row, as a row of one
unfoldable pub first : Terms → Terms
first no_terms = no_terms
first (tree o m k s) = tree o m k no_terms

-- the last term, as a row of one, or what is given where there is none
unfoldable pub last_or : Terms → Terms → Terms
last_or t no_terms = t
last_or t (tree o m k s) = last_or (tree o m k no_terms) s

unfoldable pub last : Terms → Terms
unfolding last_or
last f = last_or no_terms f

-- the terms f behind node l's term end with node r's, marks aside
abbrev pub Leads : List Node → ℕ → ℕ → Terms → Type 0
Leads ns l r f = strip (last_or (one (term_of ns l)) f) ≡ strip (one (term_of ns r))

-- from the left node's term, unmarked, to the right node's, marks aside
pub record Ends (ns : List Node) (l r : ℕ) (f : Terms) : Type 0 where
  pub starts : first f ≡ one (term_of ns l)
  pub plain : some_mark is_mark (first f) ≡ false
  pub arrives : strip (last f) ≡ one (term_of ns r)
