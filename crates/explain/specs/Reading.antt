-- What the program keeps from step to step, and what a step of it comes to. What it writes is outside: the C library's functions say
-- nothing of a file.
use Rattle.std.specs.Prelude.{ℕ, ◌≤◌, List, ◌⊎◌, ◌≡◌, length}
use Rattle.std.specs.declared.ops.ControlFlow.{ControlFlow}
use Rattle.std.specs.declared.ops.ControlFlow.TheVariants.{Continue, Break}
use Rattle.pieces.specs.Line.{kept_limit}
use Rattle.frames.specs.declared.Store.{Store}
use Rattle.frames.specs.State.{Running}
use Rattle.reader.specs.declared.Place.{Place}
use Rattle.reader.specs.Reading.{Advance}
use Rattle.reader.specs.Reading.{Advanced}
use Rattle.explain.specs.declared.input.Outcome.{Outcome}
use Rattle.explain.specs.declared.input.Outcome.TheVariants.{AllWell, SomeRefused, Stopped, Trouble}

-- the digit that says what a run came to
abbrev pub digit_of : Outcome → ℕ
digit_of AllWell = 0
digit_of SomeRefused = 1
digit_of Stopped = 2
digit_of Trouble = 3

-- the store holds the run's state, and the line is no longer than it may be
pub record Ready (p : Place) (t : Store) : Type 0 where
  pub running : Running p.counts t
  pub held : p.held ≤ kept_limit

-- what is to be printed stands in the room
abbrev pub Fits : Advance → List ℕ → Type 0
Fits (Continue (q, to, n)) room = n ≤ length room
Fits (Break n) room = n ≤ length room

-- it was written, or there was trouble
abbrev pub Shown : Advance → ControlFlow Outcome (Place × ℕ) → Type 0
Shown (Continue (q, to, n)) r = (r ≡ Continue (q, to)) ⊎ (r ≡ Break Trouble)
Shown (Break n) r = (r ≡ Break Stopped) ⊎ (r ≡ Break Trouble)

-- `read_on` answered that it goes on, or that the run is stopped, with so many bytes printed
pub record Went (p : Place) (t : Store) (piece : List ℕ) (from : ℕ) (q : Place) (to : ℕ) (line : List ℕ) (u : Store) : Type 0 where
  pub count : ℕ
  pub is : Advanced p t piece from (Continue (q, to, count)) line u

pub record Halted (p : Place) (t : Store) (piece : List ℕ) (from : ℕ) (line : List ℕ) (u : Store) : Type 0 where
  pub count : ℕ
  pub is : Advanced p t piece from (Break count) line u

-- a step: it goes on, or there was trouble in writing, or the run was stopped
abbrev pub Step : Place → Store → List ℕ → ℕ → ControlFlow Outcome (Place × ℕ) → List ℕ → Store → Type 0
Step p t piece from (Continue (q, to)) line u = Went p t piece from q to line u
Step p t piece from (Break outcome) line u = (outcome ≡ Trouble) ⊎ ((outcome ≡ Stopped) × Halted p t piece from line u)
