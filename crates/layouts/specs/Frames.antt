-- Tables as the lines of their frames, and what running such lines gives.
use Rattle.std.specs.Prelude.{ℕ, zero, suc, List, [], ◌∷◌, ◌++◌, length}
use Rattle.std.proofs.Math.Option.{some}
use Rattle.model.specs.Judged.{Judged, good, bad}
use Rattle.model.specs.Query.{Tables}
use Rattle.model.specs.Tables.{node_words, rule_words, connection_words, entries_in}
use Rattle.model.specs.Frame.{node_kind, rule_kind, connection_kind}
use Rattle.model.specs.Run.{State, Turn, go, stop, line_turn}
use Rattle.layouts.specs.Bytes.{node_bytes, rule_bytes, connection_bytes}

-- the lines of the first k entries, each the kind's byte and the entry's bytes
unfoldable pub lines_to : ℕ → (ℕ → List ℕ) → ℕ → List (List ℕ)
lines_to kind entry zero = []
lines_to kind entry (suc k) = lines_to kind entry k ++ ((kind ∷ entry k) ∷ [])

-- "nodes, rules, connections"
unfoldable pub frames_of : List ℕ → List ℕ → List ℕ → List (List ℕ)
unfolding lines_to node_bytes rule_bytes connection_bytes
frames_of nws rws cws =
    lines_to node_kind (node_bytes nws) (entries_in node_words (length nws))
    ++ (lines_to rule_kind (rule_bytes rws) (entries_in rule_words (length rws))
    ++ lines_to connection_kind (connection_bytes cws) (entries_in connection_words (length cws)))

-- line after line, as the program runs them; a refusal ends the run
unfoldable pub turns : State → ℕ → List (List ℕ) → Turn
unfolding line_turn
turns s l [] = go [] s
turns s l (x ∷ xs) = elim (line_turn s l (some x)) [ go out s' ↦ turns s' (suc l) xs | stop n ↦ stop n ]

-- the tables that stand then, or the refusal
abbrev pub tables_after : Turn → Judged Tables
tables_after (go out s) = good s.tables
tables_after (stop n) = bad n
