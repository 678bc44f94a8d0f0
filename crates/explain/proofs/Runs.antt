-- From piece to piece: whatever is printed from where the program stands is printed from the start, so the run that goes on is one run.
use Prim.Native.Nat.{ℕ, ◌<◌}
use mathlib.Core.List.{List, [], ◌∷◌}
use mathlib.Core.Logic.{◌⊎◌, ⊎_elim, inl, inr}
use mathlib.Core.Path.{◌≡◌, sym, subst}
use lib.ListN.{length, take}
use Rattle.std.specs.declared.ops.ControlFlow.{ControlFlow}
use Rattle.std.specs.declared.ops.ControlFlow.TheVariants.{Continue, Break}
use Rattle.model.specs.Run.{output}
use Rattle.pieces.specs.Line.{kept_limit}
use Rattle.pieces.specs.Pieces.{together}
use Rattle.frames.specs.declared.Store.{Store}
use Rattle.frames.specs.Step.{end_text}
use Rattle.reader.specs.declared.Place.{Place}
use Rattle.reader.specs.Reading.{last_line}
use Rattle.reader.specs.Status.{outcome}
use Rattle.reader.proofs.Output.{prints-output, prints-status}
use Rattle.reader.specs.Fold.{Prints, ends, piece-on, Through, at_first, end_status}
use Rattle.explain.specs.declared.input.Memory.{Memory}
use Rattle.explain.specs.declared.input.Outcome.{Outcome}
use Rattle.explain.specs.declared.input.Outcome.TheVariants.{Trouble}
use Rattle.explain.specs.Reading.{digit_of, Ready}
use Rattle.explain.specs.Pieces.{StoppedIn, PieceTaken, Ended, PieceRead, RunTo}
use Rattle.explain.proofs.Chains.{through-ready, through-prints, stopped-prints}

-- The last piece is read to its end, and whatever is printed behind it belongs to a run from the start.
pub record Since (t₀ : Store) (line₀ : List ℕ) (p : Place) (t : Store) (line : List ℕ) : Type 0 where
  pub piece : List ℕ
  pub whole : (more : List (List ℕ)) (out : List ℕ) (status : ℕ) → Prints p t line piece (length piece) more out status → RunTo t₀ line₀ status

pub since-first : (t : Store) (line : List ℕ) (p : Place) → p ≡ at_first → Since t line p t line
since-first t line p e =
    subst (λ (x : Place). Since t line x t line) (sym e) (record { piece = []; whole = λ more out status x. record { pieces = more; out = out; prints = x } })

-- a piece behind it
module _ {t₀ : Store} {line₀ : List ℕ} {p : Place} (m : Memory) (since : Since t₀ line₀ p m.store m.line) where
  since-piece : {piece kept : List ℕ} {q : Place} {u : Store} → Through piece p m.store m.line 0 q u kept (length piece) → Since t₀ line₀ q u kept
  since-piece {piece} came =
      record {
        piece = piece;
        whole = λ more out status x. let y = through-prints came x in since.whole (piece ∷ more) y.out status (piece-on y.prints);
      }

  since-stopped : {piece : List ℕ} → StoppedIn piece p m.store m.line → RunTo t₀ line₀ 2
  since-stopped {piece} s = let y = stopped-prints [] s in since.whole (piece ∷ []) y.out 2 (piece-on y.prints)

  since-end : RunTo t₀ line₀ (end_status p)
  since-end = since.whole [] (end_text p.counts.kind p.line p.held) (end_status p) ends

  abbrev Came : Outcome → Type 0
  Came o = (o ≡ Trouble) ⊎ RunTo t₀ line₀ (digit_of o)

  since-over : (piece : List ℕ) (n : Memory) (o : Outcome) → PieceTaken p m piece (Break o) n → Came o
  since-over piece n o h =
      ⊎_elim (λ z. inl z) (λ z. inr (subst (λ (x : Outcome). RunTo t₀ line₀ (digit_of x)) (sym z.0) (since-stopped z.1))) h

  ended-over : (o : Outcome) → Ended p o → Came o
  ended-over o h = ⊎_elim (λ z. inl z) (λ z. inr (subst (λ (x : ℕ). RunTo t₀ line₀ x) (sym z) since-end)) h

  module _ (buffer : List ℕ) (n : Memory) (x : ControlFlow Outcome Place) (h : PieceRead p m buffer x n) where
    abbrev Then : ControlFlow Outcome Place → Type 0
    Then y = PieceRead p m buffer y n

    pub over : (o : Outcome) → x ≡ Break o → Came o
    over o e = ⊎_elim (λ r. since-over (take r.count buffer) n o r.taken) (ended-over o) (subst Then e h)

    pub on-since : (q : Place) → x ≡ Continue q → Since t₀ line₀ q n.store n.line
    on-since q e = ⊎_elim (λ r. since-piece r.taken) (λ z. absurd z) (subst Then e h)

    pub on-ready : Ready p m.store → length m.line ≡ kept_limit → (q : Place) → x ≡ Continue q →
        Ready q n.store × (length n.line ≡ kept_limit)
    on-ready ready long q e = ⊎_elim (λ r. through-ready r.taken ready long) (λ z. absurd z) (subst Then e h)

-- What the contract of `read_all` says of a run without trouble: over the pieces that were read, what is printed is `output` of the bytes,
-- and the status is their `outcome`. No input has as many bytes as there are line numbers.
pub run_is : {t : Store} {line : List ℕ} {status : ℕ} (r : RunTo t line status) → length line ≡ kept_limit → length (together r.pieces) < last_line →
    (r.out ≡ output (together r.pieces)) × (status ≡ outcome (together r.pieces))
run_is {t} {line} r long few =
    (prints-output t line r.pieces long few r.prints, prints-status t line r.pieces long few r.prints)
