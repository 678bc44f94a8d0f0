-- What one entry more comes to: the judgement on it, and the table behind it where it was taken.
use Rattle.std.specs.Prelude.{ℕ, suc, ◌+◌, List, ◌≡◌, Ok, Err}
use Rattle.model.specs.Judged.{Judged, good, Judgement, judgement_of}
use Rattle.model.specs.Forest.{cur, nxt}
use Rattle.model.specs.declared.Connection.{Connection}
use Rattle.model.specs.Connect.{add_connection}
use Rattle.model.specs.Node.{Node, add_node}
use Rattle.model.specs.Rule.{Rule, add_rule}
use Rattle.model.specs.Frame.{node_frame, rule_frame, connection_frame}
use Rattle.rule_table.specs.Entries.{rules_in}
use Rattle.entries.specs.Nodes.{nodes_of, nodes_to}
use Rattle.entries.specs.Connections.{connection_in, connections_to}
use Rattle.connections.specs.Classes.{classes_joined, Sofar}

pub record Grown {A : Type 0} (j : Judged A) (r : Judgement) (table : Judged A) : Type 0 where
  pub says : r ≡ judgement_of j
  pub holds : r ≡ Ok tt → table ≡ j

-- a node, behind accepted ones: what the table held and holds
pub record NodesHeld (nws : List ℕ) (n : ℕ) : Type 0 where
  pub nodes : List Node
  pub are : nodes_to nws n ≡ good nodes

abbrev pub NodesGrown : List ℕ → List ℕ → ℕ → Judgement → List ℕ → Type 0
NodesGrown before bytes n r after =
    (ns : List Node) → nodes_to before n ≡ good ns → Grown (add_node ns (node_frame bytes)) r (nodes_to after (suc n))

-- a rule, behind accepted ones
pub record RulesHeld (rws : List ℕ) (n : ℕ) : Type 0 where
  pub rules : List Rule
  pub are : rules_in rws n ≡ good rules

abbrev pub RulesGrown : List ℕ → List ℕ → ℕ → Judgement → List ℕ → Type 0
RulesGrown before bytes n r after =
    (rs : List Rule) → rules_in before n ≡ good rs → Grown (add_rule rs (rule_frame bytes)) r (rules_in after (suc n))

-- a connection, over accepted nodes
abbrev pub ConnectionsGrown : List ℕ → List ℕ → List ℕ → ℕ → Judgement → List ℕ → Type 0
ConnectionsGrown nws before bytes age r after =
    (cs : List Connection) → connections_to (nodes_of nws) before age ≡ good cs
    → Grown (add_connection (nodes_of nws) cs (connection_frame bytes)) r (connections_to (nodes_of nws) after (suc age))

-- the classes behind an entry: one more connection where it was taken
abbrev pub classes_after : Judgement → List ℕ → ℕ → List ℕ → List ℕ
classes_after (Ok u) conns age ws = classes_joined ws (cur (connection_in conns age)) (nxt (connection_in conns age))
classes_after (Err r) conns age ws = ws

-- and they are the classes of the connections behind it
abbrev pub Onward : Judgement → List ℕ → List ℕ → List ℕ → ℕ → Type 0
Onward (Ok u) nws conns classes age = Sofar nws conns classes (age + 1)
Onward (Err r) nws conns classes age = Unit {0}
