-- `text::write_term` meets its contract: each turn closes brackets and begins a node; in the end the open brackets are closed.
use Prim.Native.Nat.{◌*◌}
use mathlib.Core.List.{[]}
use Rattle.model.specs.Limits.{flat_words}
use Rattle.text.specs.Writing.{emit}
use Rattle.text.proofs.Written.{Writing}
use Rattle.text.proofs.write_term.Given as goal

abbrev pub invariant-loop-i : goal.invariant-loop-i
invariant-loop-i l = Writing l.words (emit l.words []) l.room (flat_words * l.i) l.at l.top
