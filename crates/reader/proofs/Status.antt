-- What a run comes to, line by line, and that it is the same over lines that are cut.
use Rattle.std.specs.declared.ops.ControlFlow.TheVariants.{Continue, Break}
use Prim.Native.Nat.{ℕ, suc}
use mathlib.Core.Bool.{Bool, false, ◌||◌}
use mathlib.Core.List.{List, [], ◌∷◌, map}
use mathlib.Core.Path.{◌≡◌, refl, ap, ◌∙◌}
use Rattle.model.specs.declared.Refusal.{Refusal}
use Rattle.model.specs.Frame.{line_bytes}
use Rattle.model.specs.Run.{State, start, Turn, go, stop, line_turn, at_end, split, InputLines}
use Rattle.hex_lines.proofs.Lines.{cut_line}
use Rattle.pieces.specs.Line.{cut}
use Rattle.pieces.specs.Pieces.{feed_all, together}
use Rattle.pieces.proofs.Pieces.{pieces-split}
use Rattle.frames.specs.declared.Counts.{Counts}
use Rattle.frames.specs.declared.Store.{Store}
use Rattle.frames.specs.Step.{TurnIs}
use Rattle.frames.specs.State.{Stands}
use Rattle.reader.specs.Reading.{begins_with_r, says_no}
use Rattle.reader.specs.Fold.{came_to}
use Rattle.reader.specs.Status.{status, outcome}

pub status-none : (s : State) (line : ℕ) (bad : Bool) (rest : List ℕ) → came_to (at_end s line rest) bad ≡ status s line bad [] rest
unfolding status
status-none s line bad rest = refl

-- a line, in what the run comes to
module _ (s : State) (line : ℕ) (bad : Bool) (x : List ℕ) (xs : List (List ℕ)) (rest : List ℕ) where
  status-goes : (out : List ℕ) (s' : State) → line_turn s line (line_bytes x) ≡ go out s' →
      status s' (suc line) (bad || begins_with_r out) xs rest ≡ status s line bad (x ∷ xs) rest
  unfolding status
  status-goes out s' e = rw (status, e) refl

  status-stops : (r : Refusal) → line_turn s line (line_bytes x) ≡ stop r → 2 ≡ status s line bad (x ∷ xs) rest
  unfolding status
  status-stops r e = rw (status, e) refl

  pub status-stopped : (n : ℕ) (u : Store) (t : Turn) → line_turn s line (line_bytes x) ≡ t →
      TurnIs t line (Break n) u → 2 ≡ status s line bad (x ∷ xs) rest
  status-stopped n u (go out s') e h = absurd h
  status-stopped n u (stop m) e h = status-stops m e

  pub status-gone : (j : Counts) (n : ℕ) (u : Store) (to : ℕ) (t : Turn) → line_turn s line (line_bytes x) ≡ t →
      TurnIs t line (Continue (j, n)) u →
      ((s' : State) → Stands j u s' → to ≡ status s' (suc line) (bad || says_no n u.room) xs rest) → to ≡ status s line bad (x ∷ xs) rest
  status-gone j n u to (go text s') e h f =
      f s' h.2 ∙ ap (λ (l : List ℕ). status s' (suc line) (bad || begins_with_r l) xs rest) h.1 ∙ status-goes text s' e
  status-gone j n u to (stop m) e h f = absurd h

-- the lines of pieces are cut
end-cut : (s : State) (l : ℕ) (rest : List ℕ) → at_end s l (cut rest) ≡ at_end s l rest
unfolding at_end
end-cut s l [] = refl
end-cut s l (b ∷ rest) = refl

status-cut : (s : State) (l : ℕ) (bad : Bool) (lines : List (List ℕ)) (rest : List ℕ) →
    status s l bad (map cut lines) (cut rest) ≡ status s l bad lines rest
unfolding status
status-cut s l bad [] rest = ap (λ (t : List ℕ). came_to t bad) (end-cut s l rest)
status-cut s l bad (x ∷ xs) rest =
    rw (cut_line x, status) (by (λ s' b. status-cut s' (suc l) b xs rest) (line_turn s l (line_bytes x)))
  where
    by : ((s' : State) (b : Bool) → status s' (suc l) b (map cut xs) (cut rest) ≡ status s' (suc l) b xs rest) → (t : Turn) →
        ◌≡◌ {A = ℕ}
        (elim t [ go out s' ↦ status s' (suc l) (bad || begins_with_r out) (map cut xs) (cut rest) | stop n ↦ 2 ])
        (elim t [ go out s' ↦ status s' (suc l) (bad || begins_with_r out) xs rest | stop n ↦ 2 ])
    by behind (go out s') = behind s' (bad || begins_with_r out)
    by behind (stop n) = refl

-- whatever pieces the input comes in
pub any-status : (pieces : List (List ℕ)) →
    status start 1 false (feed_all [] pieces).whole (feed_all [] pieces).rest ≡ outcome (together pieces)
unfolding outcome
any-status pieces =
    let p = split (together pieces) in
    ap (λ (q : InputLines). status start 1 false q.whole q.rest) (pieces-split pieces) ∙ status-cut start 1 false p.whole p.rest
