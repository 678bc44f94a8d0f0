-- A FOLD OVER THE LINES AND THE END GIVES THE RUN: whatever meets the contracts of `turn` and `finish`, called line by line from the start,
-- prints exactly the output of the input, over any split of the input into pieces.
use Rattle.std.specs.declared.ops.ControlFlow.TheVariants.{Continue, Break}
use Prim.Native.Nat.{ℕ, suc}
use mathlib.Core.List.{List, [], ◌∷◌, ◌++◌}
use mathlib.Core.Path.{◌≡◌, refl, sym, ap₂, ◌∙◌}
use native.Mathlib.Omega.{arith}
use native.Mathlib.Decide.{ℕ_discrete}
use borrow.Author.Tests.{eq-eqb, ne_eqb}
use lib.ListN.{length, take}
use Rattle.model.specs.declared.Refusal.{Refusal}
use Rattle.model.specs.declared.Refusal.TheVariants.{NoLine, NoEntry}
use Rattle.model.specs.Refusal.{number}
use Rattle.model.specs.Tables.{entries}
use Rattle.model.specs.Frame.{line_bytes}
use Rattle.model.specs.Run.{State, start, Turn, go, stop, refusal_text, line_turn, at_end, run, output}
use Rattle.pieces.specs.Pieces.{feed_all, together}
use Rattle.pieces.proofs.Pieces.{any-split}
use Rattle.frames.specs.declared.Counts.{Counts}
use Rattle.frames.specs.declared.Store.{Store}
use Rattle.frames.specs.State.{Stands}
use Rattle.frames.specs.Step.{TurnIs, end_text}
use Rattle.frames.proofs.Turns.{end-cut, end-open, end-done}
use Rattle.frames.specs.Ran.{Ran, ends, stops, goes, no_counts}

-- the end of the input
at_open : (s : State) (line : ℕ) → s.kind ≡ 5 → refusal_text (number NoEntry) line ≡ at_end s line []
unfolding at_end
at_open s line e = rw (at_end, eq-eqb s.kind 5 e) refl

at_done : (s : State) (line : ℕ) → (s.kind ≡ 5 → ⊥) → [] ≡ at_end s line []
unfolding at_end
at_done s line e = rw (at_end, ne_eqb s.kind 5 e) refl

at_cut : (s : State) (line b : ℕ) (bs : List ℕ) → refusal_text (number NoLine) line ≡ at_end s line (b ∷ bs)
unfolding at_end
at_cut s line b bs = refl

pub end_is : (s : State) (kind line : ℕ) (rest : List ℕ) → s.kind ≡ kind → end_text kind line (length rest) ≡ at_end s line rest
end_is s kind line (b ∷ bs) e = sym (end-cut kind line (suc (length bs)) (λ q. omega arith)) ∙ at_cut s line b bs
end_is s kind line [] e =
    elim (ℕ_discrete kind 5) [
      | yes q ↦ sym (end-open kind line 0 refl q) ∙ at_open s line (e ∙ q)
      | no q ↦ sym (end-done kind line 0 refl q) ∙ at_done s line (λ z. q (sym e ∙ z))
    ]

-- a line, in the run
module _ (s : State) (line : ℕ) (x : List ℕ) (xs : List (List ℕ)) (rest : List ℕ) where
  run-goes : (out : List ℕ) (s' : State) → line_turn s line (line_bytes x) ≡ go out s' → out ++ run s' (suc line) xs rest ≡ run s line (x ∷ xs) rest
  unfolding run
  run-goes out s' e = rw (run, e) refl

  run-stops : (q : Refusal) → line_turn s line (line_bytes x) ≡ stop q → refusal_text (number q) line ≡ run s line (x ∷ xs) rest
  unfolding run
  run-stops q e = rw (run, e) refl

  pub stopped : (n : ℕ) (u : Store) (t : Turn) → line_turn s line (line_bytes x) ≡ t →
      TurnIs t line (Break n) u → take n u.room ≡ run s line (x ∷ xs) rest
  stopped n u (go out s') e h = absurd h
  stopped n u (stop m) e h = h.1 ∙ run-stops m e

  pub gone : (j : Counts) (n : ℕ) (u : Store) (out : List ℕ) (t : Turn) → line_turn s line (line_bytes x) ≡ t →
      TurnIs t line (Continue (j, n)) u → ((s' : State) → Stands j u s' → out ≡ run s' (suc line) xs rest) →
      take n u.room ++ out ≡ run s line (x ∷ xs) rest
  gone j n u out (go text s') e h f = ap₂ (λ (a b : List ℕ). a ++ b) h.1 (f s' h.2) ∙ run-goes text s' e
  gone j n u out (stop m) e h f = absurd h

pub ran-run : {k : Counts} {t : Store} {line : ℕ} {xs : List (List ℕ)} {rest out : List ℕ} → Ran k t line xs rest out → (s : State) → Stands k t s →
    out ≡ run s line xs rest
unfolding run
ran-run {k} {t} {line} {xs} {rest} ends s h = end_is s k.kind line rest h.kind
ran-run {k} {t} {line} (stops x xs n u p) s h = stopped s line x xs _ n u (line_turn s line (line_bytes x)) refl (p s h)
ran-run {k} {t} {line} (goes x xs j n u p r) s h =
    gone s line x xs _ j n u _ (line_turn s line (line_bytes x)) refl (p s h) (λ s' g. ran-run r s' g)

-- before the first line any store holds the start
pub at-start : (t : Store) → Stands no_counts t start
unfolding entries
at-start t =
    record {
      kind = refl;
      nodes = refl;
      rules = refl;
      few = omega arith;
      conns = refl;
      tops = λ p. absurd (omega arith);
      words = refl;
      fits = omega arith;
      fresh = λ _. refl;
    }

-- and so the program prints the output of its input, in whatever pieces it comes
pub prints : (t : Store) (pieces : List (List ℕ)) {out : List ℕ} →
    Ran no_counts t 1 (feed_all [] pieces).whole (feed_all [] pieces).rest out → out ≡ output (together pieces)
prints t pieces r = ran-run r start (at-start t) ∙ any-split pieces
