-- What a frame comes to: the turn of the run, on the counts and the store.
use Rattle.std.specs.declared.ops.ControlFlow.{ControlFlow}
use Rattle.std.specs.declared.ops.ControlFlow.TheVariants.{Continue, Break}
use Rattle.std.specs.Prelude.{ℕ, zero, suc, cond, List, [], ◌≡◌, eqb, length, take, Result, Ok, Err}
use Rattle.std.proofs.Math.Option.{some}
use Rattle.model.specs.declared.Refusal.{Refusal}
use Rattle.model.specs.declared.Refusal.TheVariants.{NoLine, NoEntry}
use Rattle.model.specs.Refusal.{number}
use Rattle.model.specs.Node.{add_node}
use Rattle.model.specs.Rule.{add_rule}
use Rattle.model.specs.Connect.{add_connection}
use Rattle.model.specs.Frame.{node_frame, rule_frame, connection_frame, query_frame, words_frame, is_none, frame_of, line_bytes, words_kind}
use Rattle.model.specs.Run.{State, Turn, go, stop, node_turn, rule_turn, connection_turn, queried, opened, closed, turn_if, in_order, line_turn, refusal_text}
use Rattle.connections.specs.Classes.{up_to}
use Rattle.frames.specs.declared.Counts.{Counts}
use Rattle.frames.specs.declared.Store.{Store}
use Rattle.frames.specs.State.{Stands}

-- what a frame comes to: the counts to go on with and how many bytes are printed, or the refusal
abbrev pub Step : Type 0
Step = Result (Counts × ℕ) Refusal

-- a frame that is taken prints its text at the front of the room, and the state is the next one; a refusal is the turn's
abbrev pub StepIs : Turn → Step → Store → Type 0
StepIs (go out s) (Ok (k, n)) t = (n ≡ length out) × (take n t.room ≡ out) × Stands k t s
StepIs (go out s) (Err q) t = ⊥
StepIs (stop r) (Ok (k, n)) t = ⊥
StepIs (stop r) (Err q) t = q ≡ r

-- a node, while there is no connection
abbrev pub NodeStep : Counts → List ℕ → Store → Step → Store → Type 0
NodeStep k bytes t r u =
    (s : State) → Stands k t s → k.connections ≡ 0 → StepIs (node_turn s (add_node s.tables.nodes (node_frame bytes))) r u

-- the classes that a connection is judged by
abbrev pub classes_for : ℕ → List ℕ → List ℕ
classes_for zero classes = up_to (length classes)
classes_for (suc age) classes = classes

-- a connection, whatever else the store holds
abbrev pub ConnectionStep : Counts → List ℕ → List ℕ → List ℕ → List ℕ → Step → List ℕ → List ℕ → Type 0
ConnectionStep k bytes nws before classes r after tops =
    (rws area room : List ℕ) (s : State)
    → Stands k (record { nodes = nws; rules = rws; conns = before; classes = classes; area = area; room = room }) s
    → StepIs (connection_turn s (add_connection s.tables.nodes s.tables.conns (connection_frame bytes))) r
    (record { nodes = nws; rules = rws; conns = after; classes = tops; area = area; room = room })

abbrev pub WordsStep : Counts → List ℕ → Store → Step → Store → Type 0
WordsStep k bytes t r u = (s : State) → Stands k t s → StepIs (opened s (words_frame bytes)) r u

abbrev pub RuleStep : Counts → List ℕ → Store → Step → Store → Type 0
RuleStep k bytes t r u =
    (s : State) → Stands k t s → k.connections ≡ 0 → StepIs (rule_turn s (add_rule s.tables.rules (rule_frame bytes))) r u

abbrev pub CloseStep : Counts → List ℕ → Store → Step → Store → Type 0
CloseStep k bytes t r u = (s : State) → Stands k t s → StepIs (closed s (is_none bytes)) r u

abbrev pub QueryStep : Counts → ℕ → List ℕ → Store → Step → Store → Type 0
QueryStep k line bytes t r u = (s : State) → Stands k t s → StepIs (queried s line (query_frame bytes)) r u

-- a query's frame that says a pair of nodes
abbrev pub PairStep : Counts → ℕ → ℕ → ℕ → Store → Step → Store → Type 0
PairStep k line left right t r u =
    (s : State) → Stands k t s → StepIs (queried s line (some (record { left = left; right = right }))) r u

-- a frame of any kind: refused where its kind is out of order
abbrev pub FrameStep : Counts → ℕ → ℕ → List ℕ → Store → Step → Store → Type 0
FrameStep k line kind bytes t r u =
    (s : State) → Stands k t s → StepIs (turn_if (in_order s.kind kind) s line (frame_of kind bytes)) r u

-- a line: refused before all else where it is none
abbrev pub LineStep : Counts → ℕ → List ℕ → Store → Step → Store → Type 0
LineStep k line digits t r u = (s : State) → Stands k t s → StepIs (line_turn s line (line_bytes digits)) r u

-- what a line comes to: the counts to go on with and how many bytes are printed, or how many are printed of the refusal that ends the run
abbrev pub Printed : Type 0
Printed = ControlFlow ℕ (Counts × ℕ)

-- a line, with what is printed of a refusal: "printing `refused N line L`"
abbrev pub TurnIs : Turn → ℕ → Printed → Store → Type 0
TurnIs (go out s) line (Continue (k, n)) t = (n ≡ length out) × (take n t.room ≡ out) × Stands k t s
TurnIs (go out s) line (Break n) t = ⊥
TurnIs (stop r) line (Continue (k, n)) t = ⊥
TurnIs (stop r) line (Break n) t = (n ≡ length (refusal_text (number r) line)) × (take n t.room ≡ refusal_text (number r) line)

abbrev pub LineTurn : Counts → ℕ → List ℕ → Store → Printed → Store → Type 0
LineTurn k line digits t r u = (s : State) → Stands k t s → TurnIs (line_turn s line (line_bytes digits)) line r u

-- what the end of the input prints, with so many bytes behind the last line feed
unfoldable pub end_text : ℕ → ℕ → ℕ → List ℕ
end_text kind line zero = cond (eqb kind words_kind) (refusal_text (number NoEntry) line) []
end_text kind line (suc held) = refusal_text (number NoLine) line
