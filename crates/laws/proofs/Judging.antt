-- "First bad entry decides": what judging a table entry by entry gives.
use Prim.Native.Nat.{ℕ, zero, suc, ◌≤◌, ◌<◌}
use mathlib.Core.Path.{◌≡◌, refl, subst}
use mathlib.Core.Bool.{Bool, true, false}
use mathlib.Core.Option.{Option, some}
use native.Mathlib.Omega.{arith}
use native.Mathlib.Decide.{ℕ_discrete}
use Rattle.std.proofs.Common.{Ok, Err}
use Rattle.model.specs.declared.Refusal.{Refusal}
use Rattle.model.specs.Judged.{Judged, good, bad, refuse_if, judgement_of}
use Rattle.model.specs.Tables.{only_if, and_add, entries}

pub never-good : {A : Type 0} {r : Refusal} {a : A} → bad r ≡ good a → ⊥
never-good p = let z : ◌≡◌ {A = ℕ} 0 1 = cc in omega arith

module _ {A : Type 0} where
  pub record Good (j : Judged A) : Type 0 where
    pub what : A
    pub is : j ≡ good what

  pub taken-good : (j : Judged A) → Ok tt ≡ judgement_of j → Good j
  taken-good (good a) p = record { what = a; is = refl }
  taken-good (bad n) p = let z : ◌≡◌ {A = ℕ} 0 1 = cc in absurd (omega arith)

  pub faulty-bad : (j : Judged A) (r : Refusal) → Err r ≡ judgement_of j → j ≡ bad r
  faulty-bad (good a) r p = let z : ◌≡◌ {A = ℕ} 0 1 = cc in absurd (omega arith)
  faulty-bad (bad q) r p = cc

module _ {A E : Type 0} (add : A → Option E → Judged A) (entry : ℕ → Option E) (start : A) where
  pub first-bad : (k m : ℕ) (r : Refusal) → k ≤ m → entries add entry start k ≡ bad r → entries add entry start m ≡ bad r
  unfolding entries
  first-bad k zero r h p = let e : k ≡ 0 = omega arith in rw e at p
  first-bad k (suc m) r h p =
      elim (ℕ_discrete k (suc m)) [ yes e ↦ rw e at p | no e ↦ rw (first-bad k m r (omega arith) p) refl ]

  pub one_more : (k : ℕ) {a : A} → entries add entry start k ≡ good a → entries add entry start (suc k) ≡ add a (entry k)
  unfolding entries
  one_more k p = rw p refl

-- where a refusal is not given, its condition does not hold
pub taken : {A : Type 0} (b : Bool) (r : Refusal) (j : Judged A) (a : A) → refuse_if b r j ≡ good a → (b ≡ false) × (j ≡ good a)
taken true r j a p = absurd (never-good p)
taken false r j a p = (refl, p)

-- what is there under a condition is there, and the condition holds
pub whole : {A : Type 0} (b : Bool) (o : Option A) {a : A} → only_if b o ≡ some a → (b ≡ true) × (o ≡ some a)
whole true o p = (refl, p)
whole false o p = let z : ◌≡◌ {A = ℕ} 0 1 = cc in absurd (omega arith)

-- what each entry keeps holds of a table judged good
module _ {A E : Type 0} (add : A → Option E → Judged A) (entry : ℕ → Option E) (start : A) (P : A → Type 0) (first : P start)
    (next : (i : ℕ) (a b : A) → P a → add a (entry i) ≡ good b → P b) where
  pub entries-keep : (k : ℕ) (a : A) → entries add entry start k ≡ good a → P a
  unfolding entries
  entries-keep zero a p = let e : start ≡ a = cc in subst P e first
  entries-keep (suc k) a p = go (entries add entry start k) (entries-keep k) p
    where
      go : (j : Judged A) → ((b : A) → j ≡ good b → P b) → and_add add entry start j (entry k) ≡ good a → P a
      go (bad n) q h = absurd (never-good h)
      go (good b) q h = next k b a (q b refl) h

-- entries that are the same, one by one, come to the same table
module _ {A E : Type 0} (add : A → Option E → Judged A) (start : A) (entry other : ℕ → Option E) where
  pub entries-same : (k : ℕ) → ((i : ℕ) → i < k → entry i ≡ other i) → entries add entry start k ≡ entries add other start k
  unfolding entries
  entries-same zero same = refl
  entries-same (suc k) same = λ t. and_add add entry start (entries-same k (λ i h. same i (omega arith)) t) (same k (omega arith) t)
