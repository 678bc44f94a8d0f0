-- The classes of nodes while connections are judged: a word for each node, the node at the top of its class. Two nodes are joined exactly
-- where their words are equal.
use Rattle.std.specs.Prelude.{ℕ, zero, suc, ◌*◌, ◌/◌, ◌<◌, Bool, cond, ◌&&◌, List, [], ◌∷◌, ◌++◌, map, ◌≡◌, eqb, length, get_or}
use Rattle.std.proofs.Math.Option.{some}
use Rattle.model.specs.declared.Connection.{Connection}
use Rattle.model.specs.Judged.{Judgement}
use Rattle.model.specs.Judged.{good, judgement_of}
use Rattle.model.specs.Forest.{root}
use Rattle.model.specs.Term.{same_op}
use Rattle.model.specs.Connect.{pairs_joined, add_connection}
use Rattle.model.specs.Tables.{node_words}
use Rattle.paths.specs.Hangs.{Forest}
use Rattle.entries.specs.Nodes.{children_in, nodes_of}
use Rattle.entries.specs.Connections.{connections_to, oldest}

-- the first n numbers: where there is no connection, each node is a class of its own
unfoldable pub up_to : ℕ → List ℕ
up_to zero = []
up_to (suc n) = up_to n ++ (n ∷ [])

-- one more connection: what had the one top has the other now
abbrev pub renamed : ℕ → ℕ → ℕ → ℕ
renamed from to x = cond (eqb x from) to x

abbrev pub classes_joined : List ℕ → ℕ → ℕ → List ℕ
classes_joined ws a b = map (renamed (get_or ws a 0) (get_or ws b 0)) ws

-- whether two nodes have one top
abbrev pub same_class : List ℕ → ℕ → ℕ → Bool
same_class ws a b = eqb (get_or ws a 0) (get_or ws b 0)

-- whether two nodes of a table support a congruence
abbrev pub support_by : List ℕ → List ℕ → ℕ → ℕ → Bool
support_by nws ws a b =
    same_op (get_or nws (a * node_words) 0) (get_or nws (b * node_words) 0) && pairs_joined (same_class ws) (children_in nws a) (children_in nws b)

-- the words of n nodes that belong to a list of connections
pub record Classes (cs : List Connection) (n : ℕ) (ws : List ℕ) : Type 0 where
  pub size : length ws ≡ n
  pub tops : (m : ℕ) → m < n → get_or ws m 0 ≡ root cs m

-- the judgement on a connection behind every list of connections that the classes belong to
abbrev pub JudgedBy : List ℕ → List ℕ → Connection → Judgement → Type 0
JudgedBy nws ws c r =
    (cs : List Connection) → Forest cs → Classes cs (length nws / node_words) ws → r ≡ judgement_of (add_connection (nodes_of nws) cs (some c))

-- the connections up to an age were accepted, and the classes are theirs
pub record Sofar (nws conns classes : List ℕ) (age : ℕ) : Type 0 where
  pub table : connections_to (nodes_of nws) conns age ≡ good (oldest age conns)
  pub theirs : Classes (oldest age conns) (length nws / node_words) classes
