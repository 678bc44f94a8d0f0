-- What `whole_terms` answers.
-- Assumes nothing.
use Rattle.std.specs.Prelude.{ℕ, Option, Some, None}
use Rattle.std.proofs.Math.Option.{Option as Maybe, none, some}
use Rattle.model.specs.Term.{Terms, count}

-- how many terms were read, if they were
abbrev pub whole_of : Maybe Terms → Option ℕ
whole_of none = None
whole_of (some f) = Some (count f)
