-- A text that a pen puts into its room, piece by piece: what stands there, and where the pen is.
use Prim.Native.Nat.{ℕ, ◌+◌, ◌≤◌}
use mathlib.Core.List.{List, [], ◌++◌}
use mathlib.Core.Path.{◌≡◌, refl, sym, ap, ap₂, ◌∙◌}
use native.Mathlib.Omega.{arith}
use lib.ListN.{length, length-append}
use Rattle.laws.specs.Area.{splice}
use Rattle.laws.proofs.Area.{length-splice, splice-none, splice-more}
use Rattle.letters.specs.declared.Pen.{Pen}

-- the pen that was p has put a text: from where p was on its room holds the text, and the rest is as it was
pub record Penned (p : Pen) (text : List ℕ) (q : Pen) : Type 0 where
  pub fits : p.at + length text ≤ length p.room.now
  pub same : q.room.ghost_name ≡ p.room.ghost_name
  pub ends : q.at ≡ p.at + length text
  pub is : q.room.now ≡ splice p.room.now p.at text

pub penned-none : (p : Pen) → p.at ≤ length p.room.now → Penned p [] p
penned-none p h = record { fits = omega arith; same = refl; ends = omega arith; is = sym (splice-none p.room.now p.at) }

module _ {p : Pen} {text : List ℕ} {q : Pen} (w : Penned p text q) where
  pub penned-long : length q.room.now ≡ length p.room.now
  penned-long = ap length w.is ∙ length-splice p.room.now p.at text (omega (arith, w.fits))

  pub penned-more : (v : List ℕ) {r : Pen} → p.at + (length text + length v) ≤ length p.room.now → r.room.ghost_name ≡ q.room.ghost_name →
      r.at ≡ q.at + length v → r.room.now ≡ splice q.room.now q.at v → Penned p (text ++ v) r
  penned-more v h s e i =
      record {
        fits = omega (arith, length-append text v);
        same = s ∙ w.same;
        ends = omega (arith, w.ends, e, length-append text v);
        is = i ∙ ap₂ (λ (l : List ℕ) (k : ℕ). splice l k v) w.is w.ends ∙ splice-more p.room.now p.at text v (omega (arith, w.fits));
      }

  -- the same text said in another way
  pub penned-as : {other : List ℕ} → text ≡ other → (q.at ≡ p.at + length other) × (q.room.now ≡ splice p.room.now p.at other)
  penned-as e = (w.ends ∙ ap (λ (l : List ℕ). p.at + length l) e, w.is ∙ ap (splice p.room.now p.at) e)
