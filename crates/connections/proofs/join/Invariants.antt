-- `connections::join` meets its contract: each word passed is renamed.
use Prim.Native.Nat.{ℕ}
use lib.ListN.{get_or}
use Rattle.laws.proofs.Stored.{Stored}
use Rattle.connections.specs.Classes.{renamed}
use Rattle.connections.proofs.join.Given as goal

abbrev pub invariant-loop-top : goal.invariant-loop-top
invariant-loop-top l = Stored (λ (k : ℕ). renamed l.from l.to (get_or l.initial.classes k 0)) l.initial.classes l.classes l.top-index
