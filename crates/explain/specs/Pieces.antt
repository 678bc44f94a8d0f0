-- What the program makes of a piece of the input, and of all pieces: a chain of steps, each from where the last one left off. Trouble is
-- in reading or writing: nothing says when a read or a write fails.
use Rattle.std.specs.Prelude.{ℕ, ◌≤◌, ◌<◌, List, [], ◌⊎◌, ◌≡◌, length, take}
use Rattle.std.specs.declared.ops.ControlFlow.{ControlFlow}
use Rattle.std.specs.declared.ops.ControlFlow.TheVariants.{Continue, Break}
use Rattle.frames.specs.declared.Store.{Store}
use Rattle.reader.specs.declared.Place.{Place}
use Rattle.reader.specs.Reading.{kept_line, Advanced}
use Rattle.reader.specs.Fold.{Through, Prints, at_first, end_status}
use Rattle.explain.specs.declared.input.Memory.{Memory}
use Rattle.explain.specs.declared.input.Outcome.{Outcome}
use Rattle.explain.specs.declared.input.Outcome.TheVariants.{Stopped, Trouble}
use Rattle.explain.specs.Reading.{digit_of}

-- the chain comes to a place in the piece, and there the run is stopped
pub record StoppedIn (piece : List ℕ) (p : Place) (t : Store) (line : List ℕ) : Type 0 where
  pub at : Place
  pub tables : Store
  pub kept : List ℕ
  pub from : ℕ
  pub came : Through piece p t line 0 at tables kept from
  pub count : ℕ
  pub behind : Store
  pub is : Advanced at tables piece from (Break count) (kept_line kept at.held piece from) behind

-- a piece is read to its end, or the run is over
abbrev pub PieceTaken : Place → Memory → List ℕ → ControlFlow Outcome Place → Memory → Type 0
PieceTaken p m piece (Continue q) n = Through piece p m.store m.line 0 q n.store n.line (length piece)
PieceTaken p m piece (Break outcome) n = (outcome ≡ Trouble) ⊎ ((outcome ≡ Stopped) × StoppedIn piece p m.store m.line)

-- bytes were read, and they are the piece: so many, at the front of the buffer
pub record SomeRead (p : Place) (m : Memory) (buffer : List ℕ) (r : ControlFlow Outcome Place) (n : Memory) : Type 0 where
  pub count : ℕ
  pub some : 0 < count
  pub fits : count ≤ length buffer
  pub taken : PieceTaken p m (take count buffer) r n

-- the end of the input: what it prints is written, or not
abbrev pub Ended : Place → Outcome → Type 0
Ended p outcome = (outcome ≡ Trouble) ⊎ (digit_of outcome ≡ end_status p)

abbrev pub NoneRead : Place → ControlFlow Outcome Place → Type 0
NoneRead p (Continue q) = ⊥
NoneRead p (Break outcome) = Ended p outcome

abbrev pub PieceRead : Place → Memory → List ℕ → ControlFlow Outcome Place → Memory → Type 0
PieceRead p m buffer r n = SomeRead p m buffer r n ⊎ NoneRead p r

-- There are pieces over which the run comes to a status. They are not named: C's `read` says how many bytes it puts into the buffer, and
-- not which. So a run over no pieces fits as well, as over an empty input.
pub record RunTo (t : Store) (line : List ℕ) (status : ℕ) : Type 0 where
  pub pieces : List (List ℕ)
  pub out : List ℕ
  pub prints : Prints at_first t line [] 0 pieces out status

abbrev pub CameTo : Memory → Outcome → Type 0
CameTo m outcome = (outcome ≡ Trouble) ⊎ RunTo m.store m.line (digit_of outcome)
