-- What a line comes to, from its turn; and what reading on comes to, with a line feed and without.
use Rattle.std.specs.declared.ops.ControlFlow.TheVariants.{Continue, Break}
use Prim.Native.Nat.{ℕ, zero, suc}
use mathlib.Core.Bool.{Bool, true, false, true≢false}
use mathlib.Core.List.{List, [], ◌∷◌}
use mathlib.Core.Path.{◌≡◌, refl, sym, ap, ap₂, subst, ◌∙◌}
use lib.Dec.{eqb}
use lib.ListN.{take, get_or}
use Rattle.model.specs.Frame.{line_bytes}
use Rattle.model.specs.Run.{State, line_turn}
use Rattle.pieces.specs.declared.Gathered.{Gathered}
use Rattle.frames.specs.declared.Counts.{Counts}
use Rattle.frames.specs.declared.Store.{Store}
use Rattle.frames.specs.Step.{Printed}
use Rattle.frames.specs.State.{Stands}
use Rattle.frames.specs.Step.{TurnIs}
use Rattle.reader.specs.declared.Place.{Place}
use Rattle.reader.specs.Reading.{Advance}
use Rattle.reader.specs.Reading.{says_no, within_line, behind_line, LineIs, AdvanceIs}

-- the first byte tells
pub says_first : (n : ℕ) (room : List ℕ) → (n ≡ 0 → ⊥) → eqb (get_or room 0 0) 114 ≡ says_no n room
says_first zero room h = absurd (h refl)
says_first (suc n) [] h = refl
says_first (suc n) (b ∷ bs) h = refl

module _ (u : Store) where
  module _ (p : Place) (next : ℕ) (digits : List ℕ) (s : State) where
    abbrev Turns : Printed → Type 0
    Turns r = TurnIs (line_turn s p.line (line_bytes digits)) p.line r u

    pub line-goes : (r : Printed) (k : Counts) (n : ℕ) (bad : Bool) (q : Place) → r ≡ Continue (k, n) → Turns r → bad ≡ says_no n u.room →
        q ≡ behind_line p k bad → LineIs p next digits s (Continue (q, next, n)) u
    line-goes r k n bad q e h b w =
        let same : q.counts ≡ k = ap (λ (x : Place). x.counts) w in (
          refl,
          w ∙ sym (ap₂ (behind_line p) same (sym b)),
          subst (λ (x : Counts). Turns (Continue (x, n))) (sym same) (subst Turns e h),
        )

    pub line-stops : (r : Printed) (n : ℕ) → r ≡ Break n → Turns r → LineIs p next digits s (Break n) u
    line-stops r n e h = subst Turns e h

  module _ (g h : Gathered) (e : h ≡ g) (p : Place) (s : State) (line : List ℕ) where
    abbrev Reads : Bool → Gathered → Advance → Type 0
    Reads b x r = AdvanceIs b x p s r line u

    pub reads-open : (q : Place) → h.whole ≡ false → q ≡ within_line p h.held → Stands p.counts u s →
        Reads g.whole g (Continue (q, h.next, 0))
    reads-open q o w t = subst (λ (x : Gathered). Reads x.whole x (Continue (q, h.next, 0))) e (by h.whole o)
      where
        by : (b : Bool) → b ≡ false → Reads b h (Continue (q, h.next, 0))
        by true z = absurd (true≢false z)
        by false z = (ap (λ (x : Place). Continue (x, h.next, 0)) w, t)

    pub reads-line : (r : Advance) → h.whole ≡ true → LineIs p h.next (take h.held line) s r u →
        Reads g.whole g r
    reads-line r o t = subst (λ (x : Gathered). Reads x.whole x r) e (by h.whole o)
      where
        by : (b : Bool) → b ≡ true → Reads b h r
        by true z = t
        by false z = absurd (true≢false (sym z))
