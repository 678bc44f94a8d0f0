-- What the run comes to for any input, beside `run` and `output` (model/specs/Run.antt), which say what it prints: 2 where a refusal of the
-- input stops it, else 1 where some query was refused or some proof rejected, else 0. Of all that a line prints behind which the run goes on
-- only these two begin with r (proofs/Said.antt).
use Rattle.std.specs.Prelude.{ℕ, suc, Bool, false, ◌||◌, List, [], ◌∷◌}
use Rattle.model.specs.Frame.{line_bytes}
use Rattle.model.specs.Run.{State, start, go, stop, line_turn, at_end, split}
use Rattle.reader.specs.Reading.{begins_with_r}
use Rattle.reader.specs.Fold.{came_to}

unfoldable pub status : State → ℕ → Bool → List (List ℕ) → List ℕ → ℕ
unfolding line_turn at_end line_bytes
status s l bad [] rest = came_to (at_end s l rest) bad
status s l bad (x ∷ xs) rest =
    elim (line_turn s l (line_bytes x)) [ go out s' ↦ status s' (suc l) (bad || begins_with_r out) xs rest | stop n ↦ 2 ]

unfoldable pub outcome : List ℕ → ℕ
unfolding status split
outcome input = let p = split input in status start 1 false p.whole p.rest
