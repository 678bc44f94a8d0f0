-- A run of the program on values: line after line by whatever meets the contract of `turn`, then the end of the input.
use Rattle.std.specs.declared.ops.ControlFlow.TheVariants.{Continue, Break}
use Rattle.std.specs.Prelude.{ℕ, suc, List, [], ◌∷◌, ◌++◌, length, take}
use Rattle.frames.specs.declared.Counts.{Counts}
use Rattle.frames.specs.declared.Store.{Store}
use Rattle.frames.specs.Step.{LineTurn, end_text}

-- what is printed: by each line, until one is refused, and at the end
pub data Ran : Counts → Store → ℕ → List (List ℕ) → List ℕ → List ℕ → Type 0 where
  ends : {k : Counts} {t : Store} {line : ℕ} {rest : List ℕ} → Ran k t line [] rest (end_text k.kind line (length rest))
  stops : {k : Counts} {t : Store} {line : ℕ} {rest : List ℕ} (x : List ℕ) (xs : List (List ℕ)) (n : ℕ) (u : Store) →
      LineTurn k line x t (Break n) u → Ran k t line (x ∷ xs) rest (take n u.room)
  goes : {k : Counts} {t : Store} {line : ℕ} {rest out : List ℕ} (x : List ℕ) (xs : List (List ℕ)) (j : Counts) (n : ℕ) (u : Store) →
      LineTurn k line x t (Continue (j, n)) u → Ran j u (suc line) xs rest out → Ran k t line (x ∷ xs) rest (take n u.room ++ out)

-- before the first line nothing counts
abbrev pub no_counts : Counts
no_counts = record { kind = 0; nodes = 0; rules = 0; connections = 0; offered = 0 }
