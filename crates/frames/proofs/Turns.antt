-- A line's turn from its step: a refusal is printed; and what the end of the input prints.
use Rattle.std.specs.declared.ops.ControlFlow.TheVariants.{Break}
use Prim.Native.Nat.{ℕ, zero, suc}
use mathlib.Core.List.{List, []}
use mathlib.Core.Path.{◌≡◌, refl, sym, ap, subst, ◌∙◌}
use native.Mathlib.Omega.{arith}
use borrow.Author.Tests.{ne_eqb, eq-eqb}
use lib.ListN.{length}
use Rattle.std.proofs.Common.{Err}
use Rattle.model.specs.declared.Refusal.{Refusal}
use Rattle.model.specs.declared.Refusal.TheVariants.{NoLine, NoEntry}
use Rattle.model.specs.Refusal.{number}
use Rattle.model.specs.Run.{Turn, go, stop, refusal_text}
use Rattle.laws.specs.Area.{splice}
use Rattle.laws.proofs.Area.{splice-none}
use Rattle.frames.specs.declared.Store.{Store}
use Rattle.frames.specs.Step.{Step, StepIs, TurnIs, end_text}
use Rattle.frames.proofs.Close.{front_of}
use Rattle.frames.proofs.Stores.{with_text}

module _ (t : Turn) (line : ℕ) (u : Store) where
  pub turn-stops : (r : Step) (m : Refusal) (n : ℕ) (room : List ℕ) → r ≡ Err m → StepIs t r u →
      n ≡ length (refusal_text (number m) line) → room ≡ splice u.room 0 (refusal_text (number m) line) → TurnIs t line (Break n) (with_text u u.area room)
  turn-stops r m n room e h l w = by t (subst (λ (x : Step). StepIs t x u) e h)
    where
      by : (x : Turn) → StepIs x (Err m) u → TurnIs x line (Break n) (with_text u u.area room)
      by (go out s) g = absurd g
      by (stop q) g =
          (l ∙ ap (λ (x : Refusal). length (refusal_text (number x) line)) g, front_of u.room (refusal_text (number m) line) room l w ∙ ap (λ (x : Refusal). refusal_text (number x) line) g)

module _ (kind line : ℕ) where
  pub end-cut : (held : ℕ) → (held ≡ 0 → ⊥) → refusal_text (number NoLine) line ≡ end_text kind line held
  unfolding end_text
  end-cut zero h = absurd (h refl)
  end-cut (suc n) h = refl

  pub end-open : (held : ℕ) → held ≡ 0 → kind ≡ 5 → refusal_text (number NoEntry) line ≡ end_text kind line held
  unfolding end_text
  end-open zero h e = rw (eq-eqb kind 5 e) refl
  end-open (suc n) h e = absurd (omega arith)

  pub end-done : (held : ℕ) → held ≡ 0 → (kind ≡ 5 → ⊥) → [] ≡ end_text kind line held
  unfolding end_text
  end-done zero h e = rw (ne_eqb kind 5 e) refl
  end-done (suc n) h e = absurd (omega arith)

-- nothing printed leaves the room as it was
pub nothing_put : (old text : List ℕ) → [] ≡ text → (0 ≡ length text) × (old ≡ splice old 0 text)
nothing_put old text e = (ap length e, sym (splice-none old 0) ∙ ap (splice old 0) e)
