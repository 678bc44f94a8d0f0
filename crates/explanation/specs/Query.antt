-- A query over the words of accepted tables: its answer, and the proof's words in front of the area where one was written. What stands
-- behind them is cleared by whoever asked.
use Rattle.std.specs.Prelude.{ℕ, List, ◌≡◌, length, take, Ok, Err}
use Rattle.model.specs.Query.{Tables, proof_words, Answer, answer, area_after}
use Rattle.entries.specs.Nodes.{nodes_of}
use Rattle.forest.specs.Rows.{connections_of}

abbrev pub InFront : Answer → Tables → ℕ → ℕ → List ℕ → Type 0
InFront (Ok w) t l r area = take w.words area ≡ proof_words t l r
InFront (Err e) t l r area = Unit {0}

abbrev pub Answers : List ℕ → List ℕ → List ℕ → ℕ → ℕ → Answer → List ℕ → Type 0
Answers nws cws before l r a after =
    (t : Tables) → t.nodes ≡ nodes_of nws → t.conns ≡ connections_of cws → (a ≡ answer t (length before) l r) × InFront a t l r after

-- the same, with all that the area holds then
abbrev pub Responds : List ℕ → List ℕ → ℕ → ℕ → ℕ → Answer → List ℕ → Type 0
Responds nws cws area l r a after =
    (t : Tables) → t.nodes ≡ nodes_of nws → t.conns ≡ connections_of cws → (a ≡ answer t area l r) × (after ≡ area_after t area l r)
