-- What a query prints, by its answer and the area.
use Rattle.std.specs.Prelude.{ℕ, ◌≤◌, List, ◌++◌, ◌≡◌, length, take, Ok, Err}
use Rattle.model.specs.Limits.{program_area}
use Rattle.model.specs.Judged.{good}
use Rattle.model.specs.Query.{Tables, Answer, answer, area_after}
use Rattle.model.specs.Refusal.{number}
use Rattle.model.specs.Run.{refusal_text, answer_text}
use Rattle.laws.specs.Area.{splice}
use Rattle.entries.specs.Nodes.{nodes_to}
use Rattle.entries.specs.Connections.{connections_to}
use Rattle.reports.specs.Reports.{distance_text}
use Rattle.text.specs.Lines.{SayTerms, lines_of}
use Rattle.frames.specs.declared.Counts.{Counts}
use Rattle.frames.specs.declared.Store.{Store}
use Rattle.frames.specs.Step.{Step}

-- the words that were written are terms
abbrev pub Printable : Answer → List ℕ → Type 0
Printable (Ok w) area = (w.words ≤ program_area) × SayTerms (take w.words area)
Printable (Err e) area = Unit {0}

-- "An answered query prints `distance D`, then each term on a line of its own"
abbrev pub answered : Answer → ℕ → List ℕ → List ℕ
answered (Ok w) line area = distance_text w.distance ++ lines_of (take w.words area)
answered (Err e) line area = refusal_text (number e) line

-- what a query over the counted entries prints at the front of the room, and what the area holds then
abbrev pub reply_text : Tables → ℕ → ℕ → ℕ → List ℕ
reply_text t line l r = answer_text t (record { left = l; right = r }) line (answer t program_area l r)

abbrev pub Replies : Counts → List ℕ → List ℕ → ℕ → ℕ → ℕ → ℕ → List ℕ → List ℕ → List ℕ → Type 0
Replies k nws cws line l r n area before after =
    (t : Tables) → nodes_to nws k.nodes ≡ good t.nodes → connections_to t.nodes cws k.connections ≡ good t.conns
    → (n ≡ length (reply_text t line l r)) × (after ≡ splice before 0 (reply_text t line l r)) × (area ≡ area_after t program_area l r)

-- The same of a step. Of the store it writes the area and the room alone.
abbrev pub StepReplies : Counts → ℕ → ℕ → ℕ → Store → Step → Store → Type 0
StepReplies k line l r t (Ok (j, n)) u =
    Replies k t.nodes t.conns line l r n u.area t.room u.room
    × (u.nodes ≡ t.nodes)
    × (u.rules ≡ t.rules)
    × (u.conns ≡ t.conns)
    × (u.classes ≡ t.classes)
StepReplies k line l r t (Err q) u = ⊥
