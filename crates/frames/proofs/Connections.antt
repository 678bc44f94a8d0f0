-- A frame of a connection: refused, or one connection more.
use Prim.Native.Nat.{ℕ, suc, ◌+◌, ◌*◌, ◌≤◌}
use mathlib.Core.List.{List}
use mathlib.Core.Path.{◌≡◌, refl, sym, subst, subst₂, ◌∙◌}
use native.Mathlib.Omega.{arith}
use native.Mathlib.Numerals.{add-one}
use lib.ListN.{length, take}
use lib.Seq.{length-take-le}
use Rattle.std.proofs.Common.{Ok}
use Rattle.model.specs.declared.Connection.{Connection}
use Rattle.model.specs.Judged.{Judged, Judgement, good}
use Rattle.model.specs.Limits.{node_limit}
use Rattle.model.specs.Connect.{add_connection}
use Rattle.model.specs.Frame.{connection_frame}
use Rattle.model.specs.Node.{Node}
use Rattle.model.specs.Tables.{node_words}
use Rattle.model.specs.Run.{State, connection_turn}
use Rattle.laws.proofs.Judging.{taken-good}
use Rattle.entries.specs.Nodes.{NodesWhole}
use Rattle.entries.specs.Connections.{connections_to}
use Rattle.connections.specs.Classes.{Classes, Sofar}
use Rattle.tables.specs.Grown.{Grown, ConnectionsGrown}
use Rattle.frames.specs.declared.Counts.{Counts}
use Rattle.frames.specs.declared.Store.{Store}
use Rattle.frames.specs.State.{Stands, Held, Rooms}
use Rattle.frames.specs.Step.{StepIs, classes_for}
use Rattle.frames.proofs.Stores.{with_conns}
use Rattle.frames.proofs.Front.{few-nodes, front-whole, front-sofar, front-count, front-nodes, oldest-are}

-- the counts behind a connection
abbrev pub one_connection : Counts → Counts
one_connection k = record { kind = 3; nodes = k.nodes; rules = k.rules; connections = k.connections + 1; offered = 0 }

-- the counted nodes are a table, and the classes that the next connection is judged by are theirs
module _ {k : Counts} {nws cws classes : List ℕ} (h : Held k nws cws classes) (r : Rooms nws cws classes) where
  pub held-few : k.nodes ≤ node_limit
  held-few = few-nodes nws k.nodes h.nodes h.table

  pub held-classes : k.nodes ≤ length classes
  held-classes = omega (arith, held-few, r.classes)

  pub held-whole : NodesWhole (take (k.nodes * node_words) nws)
  held-whole = front-whole nws k.nodes h.nodes h.table

  pub held-sofar : {tops : List ℕ} → tops ≡ classes_for k.connections (take k.nodes classes) →
      Sofar (take (k.nodes * node_words) nws) cws tops k.connections
  held-sofar e =
      subst (λ (l : List ℕ). Sofar (take (k.nodes * node_words) nws) cws l k.connections) (sym e)
      (front-sofar nws k.nodes h.nodes h.table cws k.connections h.conns h.joins (take k.nodes classes) (length-take-le _ _ held-classes) h.tops)

module _ (k : Counts) (t : Store) (after tops : List ℕ) (s : State) (h : Stands k t s) where
  -- what judging it over the counted nodes came to is what the run's tables come to
  pub connection-grown : (bytes : List ℕ) {r q : Judgement} → r ≡ q →
      ConnectionsGrown (take (k.nodes * node_words) t.nodes) t.conns bytes k.connections r after →
      Grown (add_connection s.tables.nodes s.tables.conns (connection_frame bytes)) q (connections_to s.tables.nodes after (suc k.connections))
  connection-grown bytes {r} {q} e g =
      let f = front-nodes t.nodes k.nodes s.tables.nodes h.nodes in
      let cs = s.tables.conns in
      subst₂ (λ (ns : List Node) (x : Judgement). Grown (add_connection ns cs (connection_frame bytes)) x (connections_to ns after (suc k.connections))) f e
      (g cs (subst (λ (ns : List Node). connections_to ns t.conns k.connections ≡ good cs) (sym f) h.conns))

  pub connection-taken : (j : Judged (List Connection)) → Grown j (Ok tt) (connections_to s.tables.nodes after (suc k.connections)) →
      Sofar (take (k.nodes * node_words) t.nodes) after (take k.nodes tops) (k.connections + 1) →
      StepIs (connection_turn s j) (Ok (one_connection k, 0)) (with_conns t after tops)
  connection-taken j g f =
      let a = taken-good j g.says in
      let table : connections_to s.tables.nodes after (k.connections + 1) ≡ good a.what = rw add-one (g.holds refl ∙ a.is) in
      subst (λ (x : Judged (List Connection)). StepIs (connection_turn s x) (Ok (one_connection k, 0)) (with_conns t after tops)) (sym a.is) (
        refl,
        refl,
        record {
          kind = refl;
          nodes = h.nodes;
          rules = h.rules;
          few = h.few;
          conns = table;
          tops = λ _.
              subst₂ (λ (cs : List Connection) (n : ℕ). Classes cs n (take k.nodes tops))
              (sym (oldest-are t.nodes k.nodes s.tables.nodes h.nodes after (k.connections + 1) a.what table))
              (front-count t.nodes k.nodes s.tables.nodes h.nodes)
              f.theirs;
          words = refl;
          fits = omega arith;
          fresh = λ p. absurd (omega arith);
        },
      )
