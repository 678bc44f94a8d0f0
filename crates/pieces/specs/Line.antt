-- What stands in a piece of the input up to a line feed, and how much of a line is kept.
use Rattle.std.specs.Prelude.{ℕ, ◌+◌, ◌-◌, Bool, true, false, ◌||◌, cond, List, [], ◌∷◌, eqb, length, take}
use Rattle.model.specs.Limits.{digit_limit}
use Rattle.model.specs.Run.{line_feed}
use Rattle.pieces.specs.declared.Gathered.{Gathered}

-- the bytes before the first line feed, or all where there is none
unfoldable pub up_to_feed : List ℕ → List ℕ
up_to_feed [] = []
up_to_feed (b ∷ bs) = cond (eqb b line_feed) [] (b ∷ up_to_feed bs)

unfoldable pub has_feed : List ℕ → Bool
has_feed [] = false
has_feed (b ∷ bs) = eqb b line_feed || has_feed bs

-- "exceeds 8,192 digits": one byte more than a line may have tells this, so no more of a line is kept
abbrev pub kept_limit : ℕ
kept_limit = digit_limit + 1

abbrev pub cut : List ℕ → List ℕ
cut line = take kept_limit line

-- of further bytes of a line of which so many are held: those that are kept
abbrev pub fitting : ℕ → List ℕ → List ℕ
fitting held more = take (kept_limit - held) more

-- a line ends behind its line feed, if there is one
abbrev pub line_end : Bool → ℕ → ℕ
line_end true at = at + 1
line_end false at = at

-- what the bytes of a piece from a place on give to a line of which so many bytes are held
abbrev pub gathered : List ℕ → ℕ → ℕ → Gathered
gathered bytes from held = record {
  next = line_end (has_feed bytes) (from + length (up_to_feed bytes));
  held = held + length (fitting held (up_to_feed bytes));
  whole = has_feed bytes;
}
