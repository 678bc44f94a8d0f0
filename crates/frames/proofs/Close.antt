-- The end of an offered proof: its verdict is printed, and no word of it is kept.
use Prim.Native.Nat.{ℕ}
use mathlib.Core.Bool.{Bool, true, false}
use mathlib.Core.List.{List, [], ◌∷◌}
use mathlib.Core.Path.{◌≡◌, refl, sym, ap, subst, ◌∙◌}
use native.Mathlib.Omega.{arith}
use lib.ListN.{length, take}
use lib.Seq.{take_at}
use Rattle.std.proofs.Common.{Ok, Err}
use Rattle.model.specs.declared.Refusal.TheVariants.{NoEntry}
use Rattle.model.specs.Frame.{is_none}
use Rattle.model.specs.Run.{State, verdict_text, closed}
use Rattle.model.specs.Verdict.{verdict}
use Rattle.laws.specs.Area.{splice}
use Rattle.frames.specs.declared.Counts.{Counts}
use Rattle.frames.specs.declared.Store.{Store}
use Rattle.frames.specs.State.{Stands}
use Rattle.frames.specs.Step.{StepIs}
use Rattle.frames.proofs.Stores.{with_text}

-- the counts behind it
abbrev pub no_words : Counts → Counts
no_words k = record { kind = 6; nodes = k.nodes; rules = k.rules; connections = k.connections; offered = 0 }

pub some_bytes : (bs : List ℕ) → (length bs ≡ 0 → ⊥) → is_none bs ≡ false
some_bytes [] h = absurd (h refl)
some_bytes (b ∷ bs) h = refl

pub no_bytes : (bs : List ℕ) → length bs ≡ 0 → is_none bs ≡ true
no_bytes [] h = refl
no_bytes (b ∷ bs) h = absurd (omega arith)

-- what was put at the front of a room stands there
pub front_of : (old text room : List ℕ) {n : ℕ} → n ≡ length text → room ≡ splice old 0 text → take n room ≡ text
unfolding splice
front_of old text room {n} e w = ap (take n) w ∙ take_at text _ n (sym e)

module _ (k : Counts) (t : Store) (s : State) (h : Stands k t s) where
  pub close-wrong : (b : Bool) → b ≡ false → StepIs (closed s b) (Err NoEntry) t
  close-wrong b e = subst (λ (x : Bool). StepIs (closed s x) (Err NoEntry) t) (sym e) refl

  pub close-right : (room : List ℕ) {n : ℕ} (b : Bool) → b ≡ true →
      let text = verdict_text (verdict s.tables.rules s.open-words) in
      n ≡ length text → room ≡ splice t.room 0 text → StepIs (closed s b) (Ok (no_words k, n)) (with_text t t.area room)
  close-right room {n} b e l w =
      subst (λ (x : Bool). StepIs (closed s x) (Ok (no_words k, n)) (with_text t t.area room)) (sym e) (
        l,
        front_of t.room _ room l w,
        record {
          kind = refl;
          nodes = h.nodes;
          rules = h.rules;
          few = h.few;
          conns = h.conns;
          tops = h.tops;
          words = refl;
          fits = omega arith;
          fresh = λ p. absurd (omega arith);
        },
      )
