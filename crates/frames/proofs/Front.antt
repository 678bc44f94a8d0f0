-- The counted entries of a lent table, as a table of their own.
use Prim.Native.Nat.{ℕ, zero, suc, ◌*◌, ◌/◌, ◌≤◌, ◌<◌}
use mathlib.Core.List.{List, []}
use mathlib.Core.Path.{◌≡◌, refl, sym, ap, subst, ◌∙◌}
use native.Mathlib.Omega.{arith}
use lib.ListN.{length, take}
use lib.Seq.{length-take-le, take-take}
use Rattle.model.specs.declared.Connection.{Connection}
use Rattle.model.specs.Judged.{good}
use Rattle.model.specs.Limits.{node_limit}
use Rattle.model.specs.Node.{Node}
use Rattle.model.specs.Tables.{node_words, connection_words}
use Rattle.paths.specs.Hangs.{AcceptedConnections}
use Rattle.entries.specs.Nodes.{NodesStand, NodesWhole, nodes_to, nodes_of, first_nodes}
use Rattle.entries.specs.Connections.{connections_to, oldest, Supported}
use Rattle.entries.proofs.Nodes.{nodes, node_done}
use Rattle.entries.proofs.Connections.{connections}
use Rattle.entries.proofs.Grown.{nodes-front, connections-front}
use Rattle.connections.specs.Classes.{up_to, Classes, Sofar}
use Rattle.connections.proofs.Classes.{classes-none}
use Rattle.forest.specs.Rows.{connections_of}
use Rattle.frames.specs.Step.{classes_for}

module _ (ws : List ℕ) (n : ℕ) (ns : List Node) (e : nodes_to ws n ≡ good ns) where
  room : n * node_words ≤ length ws
  room = (nodes ws n ns e).stand.room

  pub few-nodes : n ≤ node_limit
  few-nodes = (nodes ws n ns e).stand.few

  abbrev front : List ℕ
  front = take (n * node_words) ws

  long : length front ≡ n * node_words
  long = length-take-le (n * node_words) ws room

  pub front-count : length (take (n * node_words) ws) / node_words ≡ n
  front-count = omega (arith, long)

  inside : nodes_to front n ≡ good ns
  inside = sym (nodes-front ws front n (sym (take-take (n * node_words) (n * node_words) ws (omega arith))) room (omega (arith, long))) ∙ e

  are : ns ≡ first_nodes n front
  are = (nodes front n ns inside).is

  pub front-nodes : nodes_of (take (n * node_words) ws) ≡ ns
  front-nodes = ap (λ (k : ℕ). first_nodes k front) front-count ∙ sym are

  pub front-whole : NodesWhole (take (n * node_words) ws)
  front-whole =
      record {
        stand = subst (NodesStand front) (sym front-count) (nodes front n ns inside).stand;
        is =
            node_done front n (inside ∙ ap good are) (omega (arith, long))
            ∙ ap (λ (k : ℕ). good (first_nodes k front)) (sym front-count);
      }

  -- the connections over them, with the classes that the next one is judged by
  module _ (cws : List ℕ) (age : ℕ) (cs : List Connection) (c : connections_to ns cws age ≡ good cs) where
    pub oldest-are : cs ≡ oldest age cws
    oldest-are = (connections ns cws age cs c).is

    held-for : (classes : List ℕ) (a : ℕ) → age ≡ a → length classes ≡ n → (0 < a → Classes cs n classes) → Classes cs n (classes_for a classes)
    unfolding oldest
    held-for classes zero q l t =
        let none : cs ≡ [] = oldest-are ∙ ap (λ (k : ℕ). oldest k cws) q in
        subst (λ (x : List Connection). Classes x n (up_to (length classes))) (sym none) (classes-none n (up_to (length classes)) (ap up_to l))
    held-for classes (suc a) q l t = t (omega arith)

    pub front-sofar : (classes : List ℕ) → length classes ≡ n → (0 < age → Classes cs n classes) →
        Sofar (take (n * node_words) ws) cws (classes_for age classes) age
    front-sofar classes l t =
        record {
          table = subst (λ (ms : List Node). connections_to ms cws age ≡ good (oldest age cws)) (sym front-nodes) (c ∙ ap good oldest-are);
          theirs =
              subst (λ (k : ℕ). Classes (oldest age cws) k (classes_for age classes)) (sym front-count)
              (subst (λ (l : List Connection). Classes l n (classes_for age classes)) oldest-are (held-for classes age refl l t));
        }

    -- and as a table of their own
    abbrev joins : List ℕ
    joins = take (age * connection_words) cws

    joins-room : age * connection_words ≤ length cws
    joins-room = (connections ns cws age cs c).room

    joins_long : length joins ≡ age * connection_words
    joins_long = length-take-le (age * connection_words) cws joins-room

    joins-count : length joins / connection_words ≡ age
    joins-count = omega (arith, joins_long)

    joins-inside : connections_to ns joins age ≡ good cs
    joins-inside =
        sym (connections-front cws joins age ns (sym (take-take (age * connection_words) (age * connection_words) cws (omega arith))) joins-room (omega (arith, joins_long)))
        ∙ c

    pub front-connections : connections_of (take (age * connection_words) cws) ≡ cs
    front-connections = ap (λ (k : ℕ). oldest k joins) joins-count ∙ sym (connections ns joins age cs joins-inside).is

    pub front-supported :
        Supported (take (n * node_words) ws) (length (take (n * node_words) ws) / node_words) (take (age * connection_words) cws)
        (length (take (age * connection_words) cws) / connection_words)
    front-supported =
        record {
          table = front-whole.stand;
          accepted =
              subst (λ (ms : List Node). AcceptedConnections ms (oldest (length joins / connection_words) joins)) (sym front-nodes)
              (subst (λ (k : ℕ). AcceptedConnections ns (oldest k joins)) (sym joins-count) (connections ns joins age cs joins-inside).accepted);
        }
