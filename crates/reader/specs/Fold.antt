-- The program on values: pieces of the input read one after the other, each read on from where it was left, until the run is stopped or
-- the input ends.
use Rattle.std.specs.declared.ops.ControlFlow.TheVariants.{Continue, Break}
use Rattle.std.specs.Prelude.{ℕ, Bool, true, false, List, [], ◌∷◌, ◌++◌, length, take}
use Rattle.frames.specs.declared.Store.{Store}
use Rattle.frames.specs.Ran.{no_counts}
use Rattle.frames.specs.Step.{end_text}
use Rattle.reader.specs.declared.Place.{Place}
use Rattle.reader.specs.Reading.{kept_line, Advanced}

-- What the run comes to at the end of the input, by what is printed there and whether something was refused or rejected before: 2 where
-- anything is printed, since that is a refusal of the input, else 1 or 0.
abbrev pub came_to : List ℕ → Bool → ℕ
came_to (b ∷ bs) bad = 2
came_to [] true = 1
came_to [] false = 0

abbrev pub end_status : Place → ℕ
end_status p = came_to (end_text p.counts.kind p.line p.held) p.refused

-- A place in a piece that is reached from another by steps that go on, each from where the last one left the piece, the store and the line.
pub data Through (piece : List ℕ) (p : Place) (t : Store) (line : List ℕ) (from : ℕ) : Place → Store → List ℕ → ℕ → Type 0 where
  here : Through piece p t line from p t line from
  farther : {q : Place} {u : Store} {kept : List ℕ} {at : ℕ} (r : Place) (to n : ℕ) (v : Store) →
      Through piece p t line from q u kept at → Advanced q u piece at (Continue (r, to, n)) (kept_line kept q.held piece at) v →
      Through piece p t line from r v (kept_line kept q.held piece at) to

-- What is printed from a place on, and what the run comes to: in a piece and a place in it, with the line's bytes so far, with pieces still
-- to come.
pub data Prints : Place → Store → List ℕ → List ℕ → ℕ → List (List ℕ) → List ℕ → ℕ → Type 0 where
  ends : {p : Place} {t : Store} {line piece : List ℕ} →
      Prints p t line piece (length piece) [] (end_text p.counts.kind p.line p.held) (end_status p)
  piece-on : {p : Place} {t : Store} {line piece next out : List ℕ} {more : List (List ℕ)} {status : ℕ} → Prints p t line next 0 more out status →
      Prints p t line piece (length piece) (next ∷ more) out status
  stops : {p : Place} {t : Store} {line piece : List ℕ} {from : ℕ} {more : List (List ℕ)} (n : ℕ) (u : Store) →
      Advanced p t piece from (Break n) (kept_line line p.held piece from) u → Prints p t line piece from more (take n u.room) 2
  goes : {p : Place} {t : Store} {line piece out : List ℕ} {from : ℕ} {more : List (List ℕ)} {status : ℕ} (q : Place) (next n : ℕ) (u : Store) →
      Advanced p t piece from (Continue (q, next, n)) (kept_line line p.held piece from) u →
      Prints q u (kept_line line p.held piece from) piece next more out status → Prints p t line piece from more (take n u.room ++ out) status

-- before the first byte
abbrev pub at_first : Place
at_first = record { counts = no_counts; line = 1; held = 0; refused = false }
