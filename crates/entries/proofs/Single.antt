-- Accepted nodes and connections, and rows that are filled from them: facts that have one proof at most, as a ghost field must.
use Prim.Native.Nat.{ℕ}
use mathlib.Core.List.{List, [], ◌∷◌}
use mathlib.Core.Sum.{⊎_set}
pub use Rattle.std.proofs.Math.Nat.{ℕ_set}
pub use Rattle.std.proofs.Math.Bridge.{le_prop}
pub use Rattle.std.proofs.Props.{props}
use Rattle.model.specs.declared.Connection.{Connection}
use Rattle.model.specs.declared.Refusal.{Refusal}
use Rattle.model.specs.Judged.{Judged}
use Rattle.model.specs.Node.{Node}
use Rattle.model.specs.Forest.{Parent}
use Rattle.paths.specs.Hangs.{AcceptedConnections, Forest, Within}

connection-set : IsSet Connection
connection-set = hlevel (props, ℕ_set, ⊎_set)

refusal-set : IsSet Refusal
refusal-set = hlevel (props, ⊎_set)

connections-set : IsSet (List Connection)
connections-set = hlevel (props, connection-set)

judged-set : IsSet (Judged (List Connection))
judged-set = hlevel (props, connections-set, refusal-set, ⊎_set)

parent-set : IsSet Parent
parent-set = hlevel (props, connection-set, connections-set, ⊎_set)

pub accepted-prop : (ns : List Node) (cs : List Connection) → IsProp (AcceptedConnections ns cs)
accepted-prop ns [] = hlevel
accepted-prop ns (c ∷ cs) = hlevel (judged-set, accepted-prop ns cs)

pub forest-prop : (cs : List Connection) → IsProp (Forest cs)
forest-prop [] = hlevel
forest-prop (c ∷ cs) = hlevel (parent-set, forest-prop cs)

pub within-prop : (n : ℕ) (cs : List Connection) → IsProp (Within n cs)
within-prop n [] = hlevel
within-prop n (c ∷ cs) = hlevel (le_prop, within-prop n cs)

node-set : IsSet Node
node-set = hlevel (props, ℕ_set)

pub nodes-set : IsSet (Judged (List Node))
nodes-set = hlevel (props, node-set, refusal-set, ⊎_set)

-- the set for `by { Prim.hlevel single }` after a ghost field that is made of these facts
pub ruleset single = (props, ℕ_set, le_prop, nodes-set, accepted-prop, forest-prop, within-prop)
