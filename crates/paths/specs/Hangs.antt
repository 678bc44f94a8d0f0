-- What an accepted list of connections is: each hung below a node of another class, and a congruence on support.
-- Lists of connections have the newest first, as in the model.
use Rattle.std.specs.Prelude.{ℕ, suc, ◌+◌, ◌<◌, ◌≡◌, true, cond, List, [], ◌∷◌, length}
use Rattle.std.proofs.Math.Option.{some}
use Rattle.model.specs.declared.Connection.{Connection}
use Rattle.model.specs.Judged.{good}
use Rattle.model.specs.Node.{Node}
use Rattle.model.specs.Forest.{cur, nxt, root, joined, Parent, top, below, parent_of}
use Rattle.model.specs.Connect.{supported, add_connection}

-- the node that a node's parent connection leads to, or the node itself where it has none
abbrev pub next_by : Parent → ℕ → ℕ
next_by top n = n
next_by (below c older) n = nxt c

unfoldable pub next_of : List Connection → ℕ → ℕ
unfolding parent_of
next_of cs n = next_by (parent_of cs n) n

-- how many connections a climb from a node takes
unfoldable pub depth : List Connection → ℕ → ℕ
unfolding joined
depth [] n = 0
depth (c ∷ cs) n = cond (joined cs n (cur c)) (depth cs n + suc (depth cs (nxt c))) (depth cs n)

-- current has no parent, and older connections do not join the ends
pub record Hangs (cs : List Connection) (c : Connection) : Type 0 where
  pub free : parent_of cs (cur c) ≡ top
  pub apart : root cs (cur c) ≡ root cs (nxt c) → ⊥

abbrev pub Forest : List Connection → Type 0
Forest [] = Unit {0}
Forest (c ∷ cs) = Hangs cs c × Forest cs

-- no connection joins two nodes that older ones join: all that a walk wants, whichever way the parents are turned
abbrev pub Loose : List Connection → Type 0
Loose [] = Unit {0}
Loose (c ∷ cs) = (root cs (cur c) ≡ root cs (nxt c) → ⊥) × Loose cs

-- every connection was accepted after the older ones
abbrev pub AcceptedConnections : List Node → List Connection → Type 0
AcceptedConnections ns [] = Unit {0}
AcceptedConnections ns (c ∷ cs) = (add_connection ns cs (some c) ≡ good (c ∷ cs)) × AcceptedConnections ns cs

-- what accepting a connection says of it: both ends are nodes of the table, it hangs, and it is supported by the older ones
pub record Sound (ns : List Node) (cs : List Connection) (c : Connection) : Type 0 where
  pub current-in : cur c < length ns
  pub next-in : nxt c < length ns
  pub hangs : Hangs cs c
  pub support : supported ns cs c.why (cur c) (nxt c) ≡ true

-- two lists of children, as long as each other and joined pair by pair
abbrev pub Paired : List Connection → List ℕ → List ℕ → Type 0
Paired cs [] [] = Unit {0}
Paired cs [] (y ∷ ys) = ⊥
Paired cs (x ∷ xs) [] = ⊥
Paired cs (x ∷ xs) (y ∷ ys) = (root cs x ≡ root cs y) × Paired cs xs ys

-- the ends of connections are nodes of a table of n
abbrev pub Within : ℕ → List Connection → Type 0
Within n [] = Unit {0}
Within n (c ∷ cs) = (cur c < n) × (nxt c < n) × Within n cs
