-- A reader that is handed the input in pieces: the lines that it completes, and what it keeps of the line that is open.
use Rattle.std.specs.Prelude.{ℕ, Bool, true, false, cond, List, [], ◌∷◌, ◌++◌, map, eqb}
use Rattle.model.specs.Run.{line_feed, InputLines}
use Rattle.pieces.specs.Line.{cut}

-- completed lines in front of what comes behind them
abbrev pub lines_then : List (List ℕ) → InputLines → InputLines
lines_then done p = record { whole = done ++ p.whole; rest = p.rest }

-- a piece, byte by byte, at an open line: a line feed completes the line, another byte is put to it, and the line is kept cut
unfoldable pub feed : List ℕ → List ℕ → InputLines
feed line [] = record { whole = []; rest = line }
feed line (b ∷ bs) = cond (eqb b line_feed) (lines_then (line ∷ []) (feed [] bs)) (feed (cut (line ++ (b ∷ []))) bs)

-- pieces one after another: each finds the line open that the last one left
unfoldable pub feed_all : List ℕ → List (List ℕ) → InputLines
unfolding feed
feed_all line [] = record { whole = []; rest = line }
feed_all line (p ∷ ps) = let first = feed line p in lines_then first.whole (feed_all first.rest ps)

-- a line up to a line feed, if there is one, and then what the bytes behind it give; else the line is open still
abbrev pub line_then : Bool → List ℕ → List ℕ → InputLines
line_then true line left = lines_then (line ∷ []) (feed [] left)
line_then false line left = record { whole = []; rest = line }

-- the input that pieces come from
unfoldable pub together : List (List ℕ) → List ℕ
together [] = []
together (p ∷ ps) = p ++ together ps

-- lines, each cut
abbrev pub cut_lines : InputLines → InputLines
cut_lines p = record { whole = map cut p.whole; rest = cut p.rest }
