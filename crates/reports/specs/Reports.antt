-- The lines that report numbers: a name and a number, once or twice, and a line feed.
use Rattle.std.specs.Prelude.{ℕ, List, ◌++◌, Result, Ok, Err}
use Rattle.model.specs.Text.{bytes, digits}

-- how many digits a number of 64 bits has at most, and room enough for each report
abbrev pub number_room : ℕ
number_room = 20

abbrev pub report_room : ℕ
report_room = 64

unfoldable pub one_field : List ℕ → ℕ → List ℕ
one_field a n = a ++ (digits n ++ bytes "\n")

unfoldable pub two_fields : List ℕ → ℕ → List ℕ → ℕ → List ℕ
two_fields a n b m = a ++ (digits n ++ (b ++ (digits m ++ bytes "\n")))

-- "An answered query prints `distance D`"
unfoldable pub distance_text : ℕ → List ℕ
distance_text d = bytes "distance " ++ (digits d ++ bytes "\n")

-- "`rejected N term K`", for any number
abbrev pub rejection_text : ℕ → ℕ → List ℕ
rejection_text n k = two_fields (bytes "rejected ") n (bytes " term ") k

-- "A verdict prints `accepted T` (terms) or `rejected N term K`": of whatever refuses, by the number and the place that are told of it
abbrev pub told_text : {R : Type 0} → (R → ℕ) → (R → ℕ) → Result ℕ R → List ℕ
told_text told_number told_place (Ok n) = one_field (bytes "accepted ") n
told_text told_number told_place (Err e) = rejection_text (told_number e) (told_place e)
