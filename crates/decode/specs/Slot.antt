-- What a slot of a table holds once a frame was read into it: the entry's words, or what it held.
use Rattle.std.specs.Prelude.{ℕ, List}
use Rattle.std.proofs.Math.Option.{Option, none, some}

module _ {A : Type 0} where
  abbrev pub slot_by : (A → List ℕ) → List ℕ → Option A → List ℕ
  slot_by words old none = old
  slot_by words old (some e) = words e
