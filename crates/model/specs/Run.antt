-- The program: a function from input bytes to output bytes.
use Rattle.std.specs.Prelude.{ℕ, suc, ◌+◌, Bool, true, false, ◌&&◌, ◌||◌, List, [], ◌∷◌, ◌++◌, leb, ltb, eqb, length, Ok, Err}
use Rattle.std.proofs.Math.Option.{Option, none, some}
use Rattle.model.specs.declared.Connection.{Connection}
use Rattle.model.specs.declared.Refusal.{Refusal}
use Rattle.model.specs.declared.Refusal.TheVariants.{NoLine, NoEntry, NoRoom}
use Rattle.model.specs.Limits.{program_area}
use Rattle.model.specs.Judged.{Judged, good, bad}
use Rattle.model.specs.Refusal.{number}
use Rattle.model.specs.Rule.{Rule, add_rule}
use Rattle.model.specs.Verdict.{Verdict, verdict}
use Rattle.model.specs.Node.{Node, add_node}
use Rattle.model.specs.Connect.{add_connection}
use Rattle.model.specs.Flat.{flat_proof}
use Rattle.model.specs.Query.{Tables, no_tables, proof_of, Answer, answer}
use Rattle.model.specs.Text.{bytes, digits, lines}
use Rattle.model.specs.Frame.{no_kind, node_kind, rule_kind, connection_kind, query_kind, words_kind, end_kind, line_bytes, Frame, node, rule, connection, query, offered, close, unknown, NodePair, frame_of}

-- What the run keeps from line to line: the kind of the last frame, the tables, and the words of the proof that is open.
pub record State : Type 0 where
  pub kind : ℕ
  pub tables : Tables
  pub open-words : List ℕ

abbrev pub start : State
start = record { kind = no_kind; tables = no_tables; open-words = [] }

-- What a line gives: what is printed, and the state for the next; or a refusal that ends the run.
pub data Turn : Type 0 where
  go : List ℕ → State → Turn
  stop : Refusal → Turn

-- "printing `refused N line L`"
unfoldable pub refusal_text : ℕ → ℕ → List ℕ
unfolding bytes digits
refusal_text n l = bytes "refused " ++ (digits n ++ (bytes " line " ++ (digits l ++ bytes "\n")))

-- "An answered query prints `distance D`, then each term on a line of its own. A refused query prints the same" as above
unfoldable pub answer_text : Tables → NodePair → ℕ → Answer → List ℕ
unfolding bytes digits lines flat_proof refusal_text
answer_text t p l (Ok w) =
    bytes "distance " ++ (digits w.distance ++ (bytes "\n" ++ lines (proof_of t p.left p.right)))
answer_text t p l (Err e) = refusal_text (number e) l

-- "A verdict prints `accepted T` (terms) or `rejected N term K`."
unfoldable pub verdict_text : Verdict → List ℕ
unfolding bytes digits
verdict_text (Ok n) = bytes "accepted " ++ (digits n ++ bytes "\n")
verdict_text (Err e) =
    bytes "rejected " ++ (digits (number e.refusal) ++ (bytes " term " ++ (digits e.place ++ bytes "\n")))

-- an entry of a table: nothing is printed
abbrev pub node_turn : State → Judged (List Node) → Turn
node_turn s (bad n) = stop n
node_turn s (good ns) =
    go [] (record { kind = node_kind; tables = record { nodes = ns; rules = s.tables.rules; conns = s.tables.conns }; open-words = [] })

abbrev pub rule_turn : State → Judged (List Rule) → Turn
rule_turn s (bad n) = stop n
rule_turn s (good rs) =
    go [] (record { kind = rule_kind; tables = record { nodes = s.tables.nodes; rules = rs; conns = s.tables.conns }; open-words = [] })

abbrev pub connection_turn : State → Judged (List Connection) → Turn
connection_turn s (bad n) = stop n
connection_turn s (good cs) =
    go [] (record { kind = connection_kind; tables = record { nodes = s.tables.nodes; rules = s.tables.rules; conns = cs }; open-words = [] })

abbrev pub queried : State → ℕ → Option NodePair → Turn
queried s l none = stop NoEntry
queried s l (some p) =
    go (answer_text s.tables p l (answer s.tables program_area p.left p.right))
    (record { kind = query_kind; tables = s.tables; open-words = [] })

-- "an offered proof that outgrows the area (11)"
abbrev pub opened_if : Bool → State → List ℕ → Turn
opened_if true s ws = stop NoRoom
opened_if false s ws = go [] (record { kind = words_kind; tables = s.tables; open-words = ws })

abbrev pub opened : State → Option (List ℕ) → Turn
opened s none = stop NoEntry
opened s (some ws) = opened_if (ltb program_area (length s.open-words + length ws)) s (s.open-words ++ ws)

abbrev pub closed : State → Bool → Turn
closed s false = stop NoEntry
closed s true = go (verdict_text (verdict s.tables.rules s.open-words)) (record { kind = end_kind; tables = s.tables; open-words = [] })

unfoldable pub frame_turn : State → ℕ → Frame → Turn
unfolding add_node add_rule add_connection answer answer_text verdict_text verdict
frame_turn s l (node e) = node_turn s (add_node s.tables.nodes e)
frame_turn s l (rule e) = rule_turn s (add_rule s.tables.rules e)
frame_turn s l (connection e) = connection_turn s (add_connection s.tables.nodes s.tables.conns e)
frame_turn s l (query p) = queried s l p
frame_turn s l (offered ws) = opened s ws
frame_turn s l (close b) = closed s b
frame_turn s l unknown = stop NoEntry

-- "Kinds never go down, but 05 and 06 may follow 06."
unfoldable pub in_order : ℕ → ℕ → Bool
in_order last kind = leb last kind || (eqb last end_kind && eqb kind words_kind)

abbrev pub turn_if : Bool → State → ℕ → Frame → Turn
turn_if true s l f = frame_turn s l f
turn_if false s l f = stop NoEntry

-- one line: 1, then 2 for an unknown kind or one out of order, then what the frame gives
unfoldable pub line_turn : State → ℕ → Option (List ℕ) → Turn
unfolding frame_turn in_order frame_of
line_turn s l none = stop NoLine
line_turn s l (some []) = stop NoLine
line_turn s l (some (k ∷ bs)) = turn_if (in_order s.kind k) s l (frame_of k bs)

abbrev pub line_feed : ℕ
line_feed = 10

-- the input's lines, and what stands behind the last line feed
pub record InputLines : Type 0 where
  pub whole : List (List ℕ)
  pub rest : List ℕ

abbrev pub line_front : ℕ → List (List ℕ) → List ℕ → InputLines
line_front b [] rest = record { whole = []; rest = b ∷ rest }
line_front b (l ∷ ls) rest = record { whole = (b ∷ l) ∷ ls; rest = rest }

abbrev pub byte_on : Bool → ℕ → InputLines → InputLines
byte_on true b p = record { whole = [] ∷ p.whole; rest = p.rest }
byte_on false b p = line_front b p.whole p.rest

unfoldable pub split : List ℕ → InputLines
split [] = record { whole = []; rest = [] }
split (b ∷ bs) = byte_on (eqb b line_feed) b (split bs)

-- at the end of the input, on line l: a line that "lacks its line feed" is 1; "Input that ends with terms still open: 2, on
-- the line after the last"
unfoldable pub at_end : State → ℕ → List ℕ → List ℕ
unfolding refusal_text
at_end s l (b ∷ bs) = refusal_text (number NoLine) l
at_end s l [] = elim (eqb s.kind words_kind) [ true ↦ refusal_text (number NoEntry) l | false ↦ [] ]

unfoldable pub run : State → ℕ → List (List ℕ) → List ℕ → List ℕ
unfolding line_turn at_end line_bytes refusal_text
run s l [] rest = at_end s l rest
run s l (x ∷ xs) rest =
    elim (line_turn s l (line_bytes x)) [ go out s' ↦ out ++ run s' (suc l) xs rest | stop r ↦ refusal_text (number r) l ]

-- "lines from 1"
unfoldable pub output : List ℕ → List ℕ
unfolding run split
output input = let p = split input in run start 1 p.whole p.rest
