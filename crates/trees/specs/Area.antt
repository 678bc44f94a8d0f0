-- Words in an area: whole nodes of them, without their marks, and rows of terms between the same words.
use Rattle.std.specs.Prelude.{ℕ, ◌*◌, ◌/◌, ◌≡◌, List, [], ◌∷◌, ◌++◌, get_or, Option, Some, None}
use Rattle.model.specs.Limits.{flat_words}
use Rattle.model.specs.Tables.{node_words}
use Rattle.model.specs.Term.{Mark, unmarked, marked, Terms, no_terms, tree, words}
use Rattle.entries.specs.Nodes.{count_in}
use Rattle.trees.specs.declared.Mark.{Mark as Stamp}

-- a number of words that is whole nodes
abbrev pub WholeNodes : ℕ → Type 0
WholeNodes n = n / flat_words * flat_words ≡ n

-- words without their marks, node by node: "operator, child count, mark, rule"
unfoldable pub bare : List ℕ → List ℕ
bare [] = []
bare (o ∷ []) = o ∷ []
bare (o ∷ c ∷ []) = o ∷ c ∷ []
bare (o ∷ c ∷ m ∷ []) = o ∷ c ∷ m ∷ []
bare (o ∷ c ∷ m ∷ r ∷ ws) = o ∷ c ∷ 0 ∷ 0 ∷ bare ws

-- each term of a row, between the same words
unfoldable pub around : List ℕ → List ℕ → Terms → List ℕ
unfolding words
around pre post no_terms = []
around pre post (tree o m k s) = pre ++ (words (tree o m k no_terms) ++ (post ++ around pre post s))

-- the four words of a node of the table, with a mark's word and a rule's
abbrev pub root_in : List ℕ → ℕ → ℕ → ℕ → List ℕ
root_in nodes n mark rule = get_or nodes (n * node_words) 0 ∷ count_in nodes n ∷ mark ∷ rule ∷ []

-- a node's mark, as a term has it
abbrev pub mark_of : Option Stamp → Mark
mark_of None = unmarked
mark_of (Some m) = marked m.direction m.rule.0
