-- `connections::part` meets its contract: each word passed is its own place.
use Prim.Native.Nat.{ℕ}
use Rattle.laws.proofs.Stored.{Stored}
use Rattle.connections.proofs.part.Given as goal

abbrev pub invariant-loop-i : goal.invariant-loop-i
invariant-loop-i l = Stored (λ (k : ℕ). k) l.initial.classes l.classes l.i
