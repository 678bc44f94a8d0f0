-- The run's state, as the counts and the store hold it.
use Rattle.std.specs.Prelude.{ℕ, ◌+◌, ◌*◌, ◌/◌, ◌≤◌, ◌<◌, List, ◌≡◌, length, take}
use Rattle.model.specs.declared.Connection.{Connection}
use Rattle.model.specs.Limits.{node_limit, rule_limit, program_area, flat_words, digit_limit}
use Rattle.model.specs.Judged.{good}
use Rattle.model.specs.Node.{Node}
use Rattle.model.specs.Tables.{node_words, rule_words, connection_words}
use Rattle.model.specs.Frame.{connection_kind}
use Rattle.model.specs.Run.{State}
use Rattle.rule_table.specs.Entries.{rules_in}
use Rattle.entries.specs.Nodes.{nodes_to}
use Rattle.entries.specs.Connections.{connections_to}
use Rattle.connections.specs.Classes.{Classes}
use Rattle.reports.specs.Reports.{report_room}
use Rattle.frames.specs.declared.Counts.{Counts}
use Rattle.frames.specs.declared.Store.{Store}

-- room for one node more than there may be
abbrev pub node_room : ℕ
node_room = node_limit * node_words + node_words

abbrev pub rule_room : ℕ
rule_room = rule_limit * rule_words + rule_words

abbrev pub connection_room : ℕ
connection_room = node_limit * connection_words

-- the bytes of the longest line
abbrev pub frame_room : ℕ
frame_room = digit_limit / 2

-- 28 bytes for each node of the longest proof, and a report
abbrev pub text_room : ℕ
text_room = program_area / flat_words * 28 + report_room

-- The counted entries are the run's tables, each accepted behind those before it; the counted words are those of the open proof. What
-- stands behind them plays no part. The classes are those of the connections, once there is one; before the first frame of a
-- connection there is none.
pub record Stands (k : Counts) (t : Store) (s : State) : Type 0 where
  pub kind : s.kind ≡ k.kind
  pub nodes : nodes_to t.nodes k.nodes ≡ good s.tables.nodes
  pub rules : rules_in t.rules k.rules ≡ good s.tables.rules
  pub few : k.rules ≤ rule_limit
  pub conns : connections_to s.tables.nodes t.conns k.connections ≡ good s.tables.conns
  pub tops : 0 < k.connections → Classes s.tables.conns k.nodes (take k.nodes t.classes)
  pub words : take k.offered t.area ≡ s.open-words
  pub fits : k.offered ≤ program_area
  pub fresh : k.kind < connection_kind → k.connections ≡ 0

-- what judging a connection wants of the tables that it reads, and how long they are
pub record Held (k : Counts) (nws cws classes : List ℕ) : Type 0 where
  pub nodes : List Node
  pub conns : List Connection
  pub table : nodes_to nws k.nodes ≡ good nodes
  pub joins : connections_to nodes cws k.connections ≡ good conns
  pub tops : 0 < k.connections → Classes conns k.nodes (take k.nodes classes)

pub record Rooms (nws cws tops : List ℕ) : Type 0 where
  pub nodes : length nws ≡ node_room
  pub conns : length cws ≡ connection_room
  pub classes : length tops ≡ node_limit

-- the store holds some state of the run
pub record Running (k : Counts) (t : Store) : Type 0 where
  pub state : State
  pub stands : Stands k t state
