-- What a call said of a frame: an entry, or none; and what that comes to for the table.
use Prim.Native.Nat.{ℕ}
use mathlib.Core.Bool.{Bool, true, false, not, false≢true}
use mathlib.Core.Option.{Option, none, some}
use mathlib.Core.Path.{◌≡◌, refl, sym, ap, ◌∙◌}
use native.Mathlib.Omega.{arith}
use Rattle.std.proofs.Common.{Err}
use Rattle.model.specs.declared.Refusal.{Refusal}
use Rattle.model.specs.Judged.{Judged, bad, Judgement, judgement_of}
use Rattle.laws.specs.Present.{present}
use Rattle.tables.specs.Grown.{Grown}

module _ {A : Type 0} where
  pub record Says (o : Option A) : Type 0 where
    pub what : A
    pub is : o ≡ some what

  pub says_some : {b : Bool} (o : Option A) → b ≡ present o → not b ≡ false → Says o
  says_some none e n = absurd (false≢true (sym n ∙ ap not e))
  says_some (some a) e n = record { what = a; is = refl }

  pub says_none : {b : Bool} (o : Option A) → b ≡ present o → not b ≡ true → o ≡ none
  says_none none e n = refl
  says_none (some a) e n = absurd (false≢true (sym (ap not e) ∙ n))

  -- a refusal, and an entry judged
  pub grown-bad : {j t : Judged A} {r : Refusal} → j ≡ bad r → Grown j (Err r) t
  grown-bad e = record { says = sym (ap judgement_of e); holds = λ p. let z : ◌≡◌ {A = ℕ} 0 1 = cc in absurd (omega arith) }

  pub grown : {j j' t : Judged A} {r r' : Judgement} → r ≡ r' → r ≡ judgement_of j' → j' ≡ j → t ≡ j → Grown j r' t
  grown q e s p = record { says = sym q ∙ e ∙ ap judgement_of s; holds = λ _. p }
