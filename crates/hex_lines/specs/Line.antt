-- What a digit counts as, and the bytes that digits spell.
use Rattle.std.specs.Prelude.{ℕ, List, [], Option as Said, Some, None}
use Rattle.std.proofs.Math.Option.{Option, none, some}
use Rattle.model.specs.Frame.{hex_pairs}

-- a digit's value, as code says it
abbrev pub value_of : Option ℕ → Said ℕ
value_of none = None
value_of (some v) = Some v

abbrev pub or_none : Option (List ℕ) → List ℕ
or_none none = []
or_none (some bs) = bs

abbrev pub decoded : List ℕ → List ℕ
decoded ds = or_none (hex_pairs ds)
