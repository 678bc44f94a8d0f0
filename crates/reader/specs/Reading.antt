-- What reading on in a piece of the input comes to.
use Rattle.std.specs.declared.ops.ControlFlow.{ControlFlow}
use Rattle.std.specs.declared.ops.ControlFlow.TheVariants.{Continue, Break}
use Rattle.std.specs.Prelude.{ℕ, suc, min, Bool, true, false, ◌||◌, List, [], ◌∷◌, ◌≡◌, eqb, take, drop}
use Rattle.model.specs.Frame.{line_bytes}
use Rattle.model.specs.Run.{State, line_turn}
use Rattle.laws.specs.Area.{splice}
use Rattle.pieces.specs.declared.Gathered.{Gathered}
use Rattle.pieces.specs.Line.{up_to_feed, fitting, gathered}
use Rattle.frames.specs.declared.Counts.{Counts}
use Rattle.frames.specs.declared.Store.{Store}
use Rattle.frames.specs.State.{Stands}
use Rattle.frames.specs.Step.{TurnIs}
use Rattle.reader.specs.declared.Place.{Place}

-- the last number that a line can have
abbrev pub last_line : ℕ
last_line = 18446744073709551615

abbrev pub next_line : ℕ → ℕ
next_line line = min (suc line) last_line

-- a text that begins with r, as `refused` and `rejected` do
abbrev pub begins_with_r : List ℕ → Bool
begins_with_r [] = false
begins_with_r (b ∷ bs) = eqb b 114

abbrev pub says_no : ℕ → List ℕ → Bool
says_no n room = begins_with_r (take n room)

-- the place within a line of which so many bytes are held, and behind a line that was taken
abbrev pub within_line : Place → ℕ → Place
within_line p held = record { counts = p.counts; line = p.line; held = held; refused = p.refused }

abbrev pub behind_line : Place → Counts → Bool → Place
behind_line p k bad = record { counts = k; line = next_line p.line; held = 0; refused = p.refused || bad }

-- the line with the piece's bytes put to it
abbrev pub kept_line : List ℕ → ℕ → List ℕ → ℕ → List ℕ
kept_line line held piece from = splice line held (fitting held (up_to_feed (drop from piece)))

-- what reading on comes to: where to go on, at which place in the piece, and how many bytes are printed; or how many are printed of the
-- refusal that ends the run
abbrev pub Advance : Type 0
Advance = ControlFlow ℕ (Place × ℕ × ℕ)

-- a whole line: its turn, and where to read on
abbrev pub LineIs : Place → ℕ → List ℕ → State → Advance → Store → Type 0
LineIs p next digits s (Continue (q, m, n)) t =
    (m ≡ next) × (q ≡ behind_line p q.counts (says_no n t.room)) × TurnIs (line_turn s p.line (line_bytes digits)) p.line (Continue (q.counts, n)) t
LineIs p next digits s (Break n) t = TurnIs (line_turn s p.line (line_bytes digits)) p.line (Break n) t

abbrev pub LineTaken : Place → ℕ → List ℕ → Store → Advance → Store → Type 0
LineTaken p next digits t r u = (s : State) → Stands p.counts t s → LineIs p next digits s r u

-- no line feed: nothing is printed and no table changes; a line feed: the line is taken
abbrev pub AdvanceIs : Bool → Gathered → Place → State → Advance → List ℕ → Store → Type 0
AdvanceIs false g p s r line t = (r ≡ Continue ((within_line p g.held), g.next, 0)) × Stands p.counts t s
AdvanceIs true g p s r line t = LineIs p g.next (take g.held line) s r t

abbrev pub Advanced : Place → Store → List ℕ → ℕ → Advance → List ℕ → Store → Type 0
Advanced p t piece from r line u =
    let g = gathered (drop from piece) from p.held in
    (s : State) → Stands p.counts t s → AdvanceIs g.whole g p s r line u
