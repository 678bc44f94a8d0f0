-- What lay on the trail: kept by one call after the other, and less of it kept where more is.
use Prim.Native.Nat.{ℕ, ◌+◌, ◌≤◌}
use mathlib.Core.List.{List}
use mathlib.Core.Path.{◌≡◌, refl, sym, ap, ◌∙◌}
use native.Mathlib.Omega.{arith}
use lib.ListN.{length, take}
use lib.Seq.{take-take}
use Rattle.laws.specs.Area.{splice}
use Rattle.laws.proofs.Area.{length-splice, take-splice}
use Rattle.writer.specs.Written.{Kept}

pub kept-all : {n : ℕ} {a : List ℕ} → Kept n a a
kept-all = record { same = refl; long = refl }

pub kept_less : {n m : ℕ} {a b : List ℕ} → n ≤ m → Kept m a b → Kept n a b
kept_less {n} {m} {a} {b} h k =
    record { same = sym (take-take n m b h) ∙ ap (take n) k.same ∙ take-take n m a h; long = k.long }

pub kept_more : {n : ℕ} {a b c : List ℕ} → Kept n a b → Kept n b c → Kept n a c
kept_more k l = record { same = l.same ∙ k.same; long = l.long ∙ k.long }

-- words written behind it
pub kept-splice : {n : ℕ} (a ws : List ℕ) {b : List ℕ} → b ≡ splice a n ws → n + length ws ≤ length a → Kept n a b
kept-splice {n} a ws e h =
    record { same = ap (take n) e ∙ take-splice a n ws h n (omega arith); long = ap length e ∙ length-splice a n ws h }
