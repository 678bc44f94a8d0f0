-- `tables::take_connection` meets its contract: a frame that says no connection is refused; else it is judged where it was written.
use native.Mathlib.Omega.{arith}
use Prim.Native.Nat.{ℕ, suc, ◌*◌, ◌+◌, ◌-◌}
use mathlib.Core.List.{List}
use mathlib.Core.Path.{◌≡◌, refl, sym, ap, subst, ◌∙◌}
use borrow.Rule.Slice.PartMut.{put_mid}
use Rattle.model.specs.declared.Connection.{Connection}
use Rattle.model.specs.Judged.{Judgement}
use Rattle.model.specs.Connect.{add_connection}
use Rattle.model.specs.Forest.{cur, nxt}
use Rattle.model.specs.Frame.{connection_frame}
use Rattle.model.specs.Tables.{connection_words, connection_entry}
use Rattle.laws.specs.Area.{splice, part}
use Rattle.laws.proofs.Handed.{handed_on}
use Rattle.layouts.specs.Words.{words_of_connection}
use Rattle.entries.specs.Nodes.{nodes_of}
use Rattle.entries.specs.Connections.{connections_to, oldest}
use Rattle.connections.specs.Classes.{Sofar, classes_joined}
use Rattle.connections.proofs.Whole.{sofar-forest, sofar-few, sofar-onward, sofar-more}
use Rattle.decode.specs.Slot.{slot_by}
use Rattle.tables.specs.Grown.{ConnectionsGrown}
use Rattle.tables.proofs.Slots.{says_some, says_none, grown-bad, grown}
use Rattle.tables.proofs.Connections.{connection-back, connection-held, connection-table, connection-judged}
use Rattle.tables.proofs.take_connection.Goals.{After-put_connection, After-judge_entry}
use Rattle.tables.proofs.take_connection.Goals as goal

-- the table as it comes back: the frame's words in their slot
module _ (c : After-put_connection) where
  abbrev pub lent : List ℕ
  lent =
      put_mid (c.args.age * connection_words) (c.args.age * connection_words + connection_words - c.args.age * connection_words) c.args.conns.now
      c.put_connection.new.slot

  written : lent
      ≡ splice c.args.conns.now (c.args.age * connection_words)
      (slot_by words_of_connection (part c.args.conns.now (c.args.age * connection_words) connection_words) (connection_frame c.args.bytes.now))
  written =
      connection-back c.args.conns.now c.args.age c.requires.connection_words_in_bounds (connection_frame c.args.bytes.now) _
      c.put_connection.ensures.slot_after

  held : Sofar c.args.nodes.words.now lent c.args.classes.now c.args.age
  held =
      subst (λ (l : List ℕ). Sofar c.args.nodes.words.now l c.args.classes.now c.args.age) (sym written)
      (connection-held c.args.conns.now c.args.age c.requires.connection_words_in_bounds (connection_frame c.args.bytes.now) c.args.nodes.words.now
      c.args.classes.now c.requires.sofar)

-- what the judgement on it comes to
grew : (c : After-judge_entry) (r : Judgement) → c.judge_entry.result ≡ r →
    ConnectionsGrown c.args.nodes.words.now c.args.conns.now c.args.bytes.now c.args.age r (lent (goal.at.After-judge_entry c).After-put_connection)
grew c r q = λ cs p.
    let a = c.args in
    let w = written (goal.at.After-judge_entry c).After-put_connection in
    let o = connection_frame a.bytes.now in
    let ns = nodes_of a.nodes.words.now in
    let y = says_some o c.put_connection.ensures.value c.if-not-put_connection.false-raw in
    grown q c.judge_entry.ensures
    (ap (λ (l : List ℕ). add_connection ns (oldest a.age l) (connection_entry l a.age)) w
    ∙ connection-judged a.conns.now a.age c.requires.connection_words_in_bounds o a.nodes.words.now a.classes.now c.requires.sofar y.what y.is cs p)
    (ap (λ (l : List ℕ). connections_to ns l (suc a.age)) w
    ∙ connection-table a.conns.now a.age c.requires.connection_words_in_bounds o a.nodes.words.now a.classes.now c.requires.sofar y.what y.is cs p)

pub returns-then-not-put_connection : goal.returns-then-not-put_connection
unfolding add_connection
returns-then-not-put_connection c =
    let e = says_none (connection_frame c.args.bytes.now) c.put_connection.ensures.value c.if-not-put_connection.true-raw in record {
      connections_grown = λ cs p. grown-bad (ap (add_connection (nodes_of c.args.nodes.words.now) cs) e);
      conns_after = written (goal.at.returns-then-not-put_connection c).After-put_connection;
      classes_after = refl {a = c.args.classes.now};
      onward = tt;
    }

pub judge_entry-requires : goal.judge_entry-requires
judge_entry-requires c =
    let h = held (goal.at.judge_entry-requires c).After-put_connection in record {
      forest = (sofar-forest c.args.nodes.whole h, omega (arith, sofar-few c.args.nodes.whole h));
      classes = h.theirs;
    }

pub returns-in_err-judge_entry : goal.returns-in_err-judge_entry
returns-in_err-judge_entry c =
    let g = goal.at.returns-in_err-judge_entry c in
    let e = handed_on c.from_residual.result _ c.from_residual.ensures.1 in record {
      connections_grown = grew g.After-judge_entry _ (c.in_err-judge_entry.was ∙ sym e);
      conns_after = written g.After-put_connection;
      classes_after = rw e refl;
      onward = rw e tt;
    }

pub join-requires : goal.join-requires
join-requires c =
    let h = held (goal.at.join-requires c).After-put_connection in
    let on = sofar-onward c.args.nodes.whole h (sym c.in_ok-judge_entry.was ∙ c.judge_entry.ensures) in
    (omega (arith, on.current, ap cur c.connection_at-c.ensures), omega (arith, on.next, ap nxt c.connection_at-c.ensures))

pub returns : goal.returns
returns c =
    let g = goal.at.returns c in
    let h = held g.After-put_connection in
    let e =
    c.join.ensures ∙ ap (λ (x : Connection). classes_joined c.args.classes.now (cur x) (nxt x)) c.connection_at-c.ensures in record {
      connections_grown = grew g.After-judge_entry _ c.in_ok-judge_entry.was;
      conns_after = written g.After-put_connection;
      classes_after = e;
      onward = sofar-more c.args.nodes.whole h (sym c.in_ok-judge_entry.was ∙ c.judge_entry.ensures) e;
    }
