-- What the frames of a query and of an offered proof say, as the answers of the code that reads them.
use Rattle.std.specs.Prelude.{ℕ, ◌+◌, List, [], ◌∷◌, ◌≡◌, Option, Some, None, length, get_or}
use Rattle.std.proofs.Math.Option.{Option as Maybe, none, some}
use Rattle.model.specs.declared.NodeNo.{NodeNo}
use Rattle.model.specs.Frame.{two, NodePair, words_frame}

abbrev pub pair_of : Maybe NodePair → Option (NodeNo × NodeNo)
pair_of none = None
pair_of (some p) = Some (record { 0 = p.left }, record { 0 = p.right })

abbrev pub offered_of : Maybe (List ℕ) → Option ℕ
offered_of none = None
offered_of (some ws) = Some (length ws)

-- the four words of the six bytes from a place on: "operator 2, count 1, mark 1, rule 2"
abbrev pub six_words : List ℕ → ℕ → List ℕ
six_words bs i = two (get_or bs i 0) (get_or bs (i + 1) 0) ∷ get_or bs (i + 2) 0 ∷ get_or bs (i + 3) 0 ∷ two (get_or bs (i + 4) 0) (get_or bs (i + 4 + 1) 0) ∷ []

-- a frame holds n words
abbrev pub Holds : List ℕ → ℕ → Type 0
Holds bs n = offered_of (words_frame bs) ≡ Some n
