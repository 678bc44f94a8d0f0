-- Whether there is something at all: a line that spells bytes, a frame that says an entry, an entry that stands in a table.
use Rattle.std.specs.Prelude.{Bool, true, false}
use Rattle.std.proofs.Math.Option.{Option, none, some}

module _ {A : Type 0} where
  abbrev pub present : Option A → Bool
  present none = false
  present (some a) = true
