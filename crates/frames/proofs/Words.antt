-- A frame of an offered proof's words: they are put behind those that are open, unless they outgrow the area.
use Prim.Native.Nat.{ℕ, ◌+◌, ◌≤◌, ◌<◌}
use mathlib.Core.Bool.{Bool, true, false}
use mathlib.Core.List.{List, ◌++◌}
use mathlib.Core.Option.{Option, none, some}
use mathlib.Core.Path.{◌≡◌, refl, sym, ap, ap₂, subst, ◌∙◌}
use native.Mathlib.Omega.{arith}
use borrow.Author.Tests.{lt-ltb, le-ltb}
use lib.Dec.{ltb}
use lib.ListN.{length, take}
use lib.Seq.{length-take-le, take-add}
use Rattle.std.proofs.Common.{Some, None, Ok, Err}
use Rattle.model.specs.declared.Refusal.TheVariants.{NoRoom}
use Rattle.model.specs.Limits.{program_area}
use Rattle.model.specs.Run.{State, Turn, opened_if, opened}
use Rattle.laws.specs.Area.{splice, part}
use Rattle.laws.proofs.Area.{take-splice, part-written}
use Rattle.decode.specs.Asked.{offered_of}
use Rattle.frames.specs.declared.Counts.{Counts}
use Rattle.frames.specs.declared.Store.{Store}
use Rattle.frames.specs.State.{Stands}
use Rattle.frames.specs.Step.{StepIs}
use Rattle.frames.proofs.Stores.{with_text}

-- the counts behind so many words
abbrev pub open_words : Counts → ℕ → Counts
open_words k n = record { kind = 5; nodes = k.nodes; rules = k.rules; connections = k.connections; offered = n }

-- a frame that offers so many words
pub record Offers (o : Option (List ℕ)) (n : ℕ) : Type 0 where
  pub what : List ℕ
  pub is : o ≡ some what
  pub long : length what ≡ n

pub offers-none : (o : Option (List ℕ)) → offered_of o ≡ None → o ≡ none
offers-none none e = refl
offers-none (some ws) e = let z : ◌≡◌ {A = ℕ} 0 1 = cc in absurd (omega arith)

pub offers : (o : Option (List ℕ)) (n : ℕ) → offered_of o ≡ Some n → Offers o n
offers none n e = let z : ◌≡◌ {A = ℕ} 0 1 = cc in absurd (omega arith)
offers (some ws) n e = record { what = ws; is = refl; long = cc }

module _ (k : Counts) (t : Store) (s : State) (h : Stands k t s) (long : length t.area ≡ program_area) where
  open-long : length s.open-words ≡ k.offered
  open-long = sym (ap length h.words) ∙ length-take-le k.offered t.area (omega (arith, h.fits))

  module _ (o : Option (List ℕ)) (ws : List ℕ) (e : o ≡ some ws) where
    opens : (b : Bool) → ltb program_area (k.offered + length ws) ≡ b → opened s o ≡ opened_if b s (s.open-words ++ ws)
    opens b p =
        ap (opened s) e
        ∙ ap (λ (x : Bool). opened_if x s (s.open-words ++ ws)) (ap (λ (n : ℕ). ltb program_area (n + length ws)) open-long ∙ p)

    pub words-over : program_area < k.offered + length ws → StepIs (opened s o) (Err NoRoom) t
    words-over p = subst (λ (x : Turn). StepIs x (Err NoRoom) t) (sym (opens true (lt-ltb program_area (k.offered + length ws) p))) refl

    -- the open words, and the new ones behind them
    behind : k.offered + length ws ≤ length t.area →
        take (k.offered + length ws) (splice t.area k.offered ws) ≡ take k.offered (splice t.area k.offered ws) ++ ws
    unfolding part
    behind r =
        take-add k.offered (length ws) (splice t.area k.offered ws)
        ∙ ap (λ (x : List ℕ). take k.offered (splice t.area k.offered ws) ++ x) (part-written t.area k.offered ws r)

    pub words-fit : (after : List ℕ) {end : ℕ} → end ≡ k.offered + length ws → end ≤ program_area → after ≡ splice t.area k.offered ws →
        StepIs (opened s o) (Ok (open_words k end, 0)) (with_text t after t.room)
    words-fit after {end} q p w =
        let room_for : k.offered + length ws ≤ length t.area = omega arith in
        let open-now : take end after ≡ s.open-words ++ ws =
        ap₂ take q w
        ∙ behind room_for
        ∙ ap (λ (x : List ℕ). x ++ ws) (take-splice t.area k.offered ws room_for k.offered (omega arith) ∙ h.words) in
        subst (λ (x : Turn). StepIs x (Ok (open_words k end, 0)) (with_text t after t.room)) (sym (opens false (le-ltb program_area (k.offered + length ws) (omega arith)))) (
          refl,
          refl,
          record {
            kind = refl;
            nodes = h.nodes;
            rules = h.rules;
            few = h.few;
            conns = h.conns;
            tops = h.tops;
            words = open-now;
            fits = p;
            fresh = λ x. absurd (omega arith);
          },
        )
