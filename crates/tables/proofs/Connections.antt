-- A connection written behind those that were accepted: they stay as they are, and it is the next.
use Prim.Native.Nat.{ℕ, suc, ◌+◌, ◌*◌, ◌-◌, ◌/◌, ◌≤◌}
use mathlib.Core.List.{List, []}
use mathlib.Core.Option.{Option, some}
use mathlib.Core.Path.{◌≡◌, refl, sym, ap, subst, ◌∙◌}
use native.Mathlib.Omega.{arith}
use borrow.Rule.Slice.PartMut.{mid_of, put_mid}
use lib.ListN.{length, take}
use Rattle.model.specs.declared.Connection.{Connection}
use Rattle.model.specs.declared.Justification.{Justification}
use Rattle.model.specs.declared.Justification.TheVariants.{Rule as by_rule, Congruence}
use Rattle.model.specs.Judged.{good}
use Rattle.model.specs.Connect.{add_connection}
use Rattle.model.specs.Tables.{connection_entry, node_words, connection_words}
use Rattle.laws.specs.Area.{splice, part}
use Rattle.laws.proofs.Judging.{one_more}
use Rattle.layouts.specs.Words.{words_of_connection}
use Rattle.layouts.proofs.Back.{connection-words}
use Rattle.entries.specs.Nodes.{nodes_of}
use Rattle.entries.specs.Connections.{connections_to, oldest}
use Rattle.entries.proofs.Connections.{connections}
use Rattle.entries.proofs.Grown.{connection-slot, connections-front}
use Rattle.connections.specs.Classes.{Classes, Sofar}
use Rattle.decode.specs.Slot.{slot_by}
use Rattle.tables.proofs.Put.{put-long, put_front, put-slot, put_back}

-- accepted connections and their classes, where the same words stand in another table
sofar-kept : {nws conns classes : List ℕ} (vs : List ℕ) {age : ℕ} → Sofar nws conns classes age →
    take (age * connection_words) conns ≡ take (age * connection_words) vs → age * connection_words ≤ length vs → Sofar nws vs classes age
sofar-kept {nws} {conns} {classes} vs {age} b e h =
    let old = connections (nodes_of nws) conns age (oldest age conns) b.table in
    let table : connections_to (nodes_of nws) vs age ≡ good (oldest age conns) =
    sym (connections-front conns vs age (nodes_of nws) e old.room h) ∙ b.table in
    let same : oldest age conns ≡ oldest age vs = (connections (nodes_of nws) vs age (oldest age conns) table).is in
    record {
      table = table ∙ ap good same;
      theirs = subst (λ (cs : List Connection). Classes cs (length nws / node_words) classes) same b.theirs;
    }

words_long : (c : Connection) → length (words_of_connection c) ≡ connection_words
words_long c = by c.why
  where
    by : (j : Justification) → length (words_of_connection (record { current = c.current; next = c.next; why = j })) ≡ connection_words
    by Congruence = refl
    by (by_rule n d) = refl

module _ (conns : List ℕ) (age : ℕ) (room : age * connection_words + connection_words ≤ length conns) (o : Option Connection) where
  abbrev put : List ℕ
  put = splice conns (age * connection_words) (slot_by words_of_connection (part conns (age * connection_words) connection_words) o)

  long : length put ≡ length conns
  long = put-long words_of_connection connection_words conns age room o (λ e _. words_long e)

  front : take (age * connection_words) conns ≡ take (age * connection_words) put
  front = put_front words_of_connection connection_words conns age room o (λ e _. words_long e)

  pub connection-back : (new : List ℕ) →
      new ≡ slot_by words_of_connection (mid_of (age * connection_words) (age * connection_words + connection_words - age * connection_words) conns) o →
      put_mid (age * connection_words) (age * connection_words + connection_words - age * connection_words) conns new ≡ put
  connection-back = put_back words_of_connection connection_words conns age room o (λ e _. words_long e)

  -- the table behind it, and its judgement
  module _ (nws classes : List ℕ) (b : Sofar nws conns classes age) where
    pub connection-held : Sofar nws put classes age
    connection-held = sofar-kept put b front (omega (arith, long))

    same : connections_to (nodes_of nws) conns age ≡ connections_to (nodes_of nws) put age
    same = connections-front conns put age (nodes_of nws) front (omega arith) (omega (arith, long))

    module _ (c : Connection) (e : o ≡ some c) where
      entry : connection_entry put age ≡ o
      entry =
          connection-slot put age (omega (arith, long))
          ∙ ap (λ (l : List ℕ). connection_entry l 0) (put-slot words_of_connection connection_words conns age room o (λ x _. words_long x) c e)
          ∙ connection-words c
          ∙ sym e

      pub connection-table : (cs : List Connection) → connections_to (nodes_of nws) conns age ≡ good cs →
          connections_to (nodes_of nws) put (suc age) ≡ add_connection (nodes_of nws) cs o
      connection-table cs p =
          one_more (add_connection (nodes_of nws)) (connection_entry put) [] age (sym same ∙ p) ∙ ap (add_connection (nodes_of nws) cs) entry

      pub connection-judged : (cs : List Connection) → connections_to (nodes_of nws) conns age ≡ good cs →
          add_connection (nodes_of nws) (oldest age put) (connection_entry put age) ≡ add_connection (nodes_of nws) cs o
      connection-judged cs p =
          let older : oldest age put ≡ cs = sym (connections (nodes_of nws) put age cs (sym same ∙ p)).is in
          rw (older, entry) refl
