-- A table of connections judged in the order of age, with the classes of those that were accepted.
use Prim.Native.Nat.{ℕ, suc, ◌+◌, ◌*◌, ◌-◌, ◌/◌, ◌≤◌, ◌<◌}
use mathlib.Core.List.{List, []}
use mathlib.Core.Path.{◌≡◌, refl, ap, ◌∙◌}
use native.Mathlib.Omega.{arith}
use native.Mathlib.Nat.{le-div_iff_mul-le, div-eq_of_lt-le}
use native.Mathlib.Numerals.{add-one}
use lib.ListN.{length}
use Rattle.model.specs.declared.Connection.{Connection}
use Rattle.std.proofs.Common.{Ok, Err}
use Rattle.model.specs.declared.Refusal.{Refusal}
use Rattle.model.specs.Limits.{node_limit}
use Rattle.model.specs.Judged.{Judged, good, bad, judgement_of}
use Rattle.model.specs.Forest.{cur, nxt}
use Rattle.model.specs.Connect.{add_connection}
use Rattle.model.specs.Tables.{connection_entry, entries, connection_table, node_words, connection_words}
use Rattle.laws.proofs.Judging.{taken-good, faulty-bad, first-bad, one_more}
use Rattle.paths.specs.Hangs.{Forest}
use Rattle.paths.proofs.Accept.{sound, accepted-forest, accepted-within}
use Rattle.paths.proofs.Count.{connections-few}
use Rattle.entries.specs.Nodes.{NodesWhole, nodes_of}
use Rattle.entries.specs.Connections.{connection_in, oldest, connections_to}
use Rattle.entries.proofs.Nodes.{length-nodes}
use Rattle.entries.proofs.Connections.{Connections, connections, length-oldest}
use Rattle.connections.specs.Classes.{up_to, classes_joined, Sofar}
use Rattle.connections.proofs.Classes.{classes-none, classes-more}

pub sofar-none : (nws conns classes : List ℕ) → classes ≡ up_to (length nws / node_words) → Sofar nws conns classes 0
unfolding entries oldest
sofar-none nws conns classes e = record { table = refl; theirs = classes-none (length nws / node_words) classes e }

module _ {nws conns classes : List ℕ} {age : ℕ} (w : NodesWhole nws) (b : Sofar nws conns classes age) where
  abbrev n : ℕ
  n = length nws / node_words

  there : Connections (nodes_of nws) conns age (oldest age conns)
  there = connections (nodes_of nws) conns age (oldest age conns) b.table

  pub sofar-forest : Forest (oldest age conns)
  sofar-forest = accepted-forest (nodes_of nws) (oldest age conns) there.accepted

  -- there are fewer connections than nodes
  pub sofar-few : age < node_limit
  sofar-few =
      let many = length-nodes n nws in
      let h = accepted-within (nodes_of nws) node_limit (oldest age conns) (omega (arith, w.stand.few)) there.accepted in
      omega (arith, connections-few (oldest age conns) node_limit (omega arith) sofar-forest h, length-oldest age conns)

  -- the entry of this age decides what the table comes to behind it
  abbrev judged : Judged (List Connection)
  judged = add_connection (nodes_of nws) (oldest age conns) (connection_entry conns age)

  next-is : connections_to (nodes_of nws) conns (suc age) ≡ judged
  next-is = one_more (add_connection (nodes_of nws)) (connection_entry conns) [] age b.table

  pub sofar-bad : (r : Refusal) → age * connection_words < length conns → Err r ≡ judgement_of judged → connection_table (nodes_of nws) conns ≡ bad r
  unfolding connection_table
  sofar-bad r h p =
      first-bad (add_connection (nodes_of nws)) (connection_entry conns) [] (suc age) ((length conns + (connection_words - 1)) / connection_words) r
      ((le-div_iff_mul-le (omega arith)).1 (omega arith)) (next-is ∙ faulty-bad judged r p)

  -- where it was accepted, both its ends are nodes and it stands in the table
  pub record Onward : Type 0 where
    pub room : age * connection_words + connection_words ≤ length conns
    pub current : cur (connection_in conns age) < length classes
    pub next : nxt (connection_in conns age) < length classes
    pub table : connections_to (nodes_of nws) conns (suc age) ≡ good (oldest (suc age) conns)

  pub sofar-onward : Ok tt ≡ judgement_of judged → Onward
  unfolding oldest
  sofar-onward p =
      let g = taken-good judged p in
      let q = next-is ∙ g.is in
      let c = connections (nodes_of nws) conns (suc age) g.what q in
      let s = sound c.accepted.0 in
      let many = length-nodes n nws in
      record {
        room = omega (arith, c.room);
        current = omega (arith, s.current-in, b.theirs.size);
        next = omega (arith, s.next-in, b.theirs.size);
        table = q ∙ ap good c.is;
      }

  pub sofar-more : {new : List ℕ} → Ok tt ≡ judgement_of judged →
      new ≡ classes_joined classes (cur (connection_in conns age)) (nxt (connection_in conns age)) → Sofar nws conns new (age + 1)
  unfolding oldest
  sofar-more {new} p e =
      let o = sofar-onward p in
      let k = b.theirs.size in
      rw (add-one, e)
      record {
        table = o.table;
        theirs = classes-more b.theirs (connection_in conns age) (omega (arith, o.current)) (omega (arith, o.next));
      }

  pub sofar-done : length conns ≤ age * connection_words → connection_table (nodes_of nws) conns ≡ good (oldest age conns)
  unfolding connection_table
  sofar-done h =
      let e : (length conns + (connection_words - 1)) / connection_words ≡ age = div-eq_of_lt-le connection_words (omega (arith, there.room)) (omega arith) in
      rw e b.table
