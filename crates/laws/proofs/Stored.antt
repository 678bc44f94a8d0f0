-- A loop that stores a word at each place, one after the other: what it has stored so far, and what it leaves.
use Prim.Native.Nat.{ℕ, ◌+◌, ◌≤◌, ◌<◌}
use mathlib.Core.Path.{◌≡◌, refl, sym, ◌∙◌}
use mathlib.Core.List.{List}
use native.Mathlib.Omega.{arith}
use native.Mathlib.Decide.{ℕ_discrete}
use lib.Seq.{get_or-set_same, get_or-set_other, ext_get_or}
use lib.ListN.{length, get_or, set, length-set}

-- g says what is stored at each place; the first i are stored, and those behind are as they were
pub record Stored (g : ℕ → ℕ) (old words : List ℕ) (i : ℕ) : Type 0 where
  pub some : i ≤ length old
  pub long : length words ≡ length old
  pub done : (k : ℕ) → k < i → get_or words k 0 ≡ g k
  pub rest : (k : ℕ) → i ≤ k → get_or words k 0 ≡ get_or old k 0

module _ {g : ℕ → ℕ} where
  pub stored-none : (old : List ℕ) → Stored g old old 0
  stored-none old = record { some = omega arith; long = refl; done = λ k h. absurd (omega arith); rest = λ k h. refl }

  pub stored_next : {old words : List ℕ} {i v : ℕ} → Stored g old words i → i < length words → v ≡ g i → Stored g old (set words i v) (i + 1)
  stored_next {old} {words} {i} {v} c h e =
      record {
        some = omega (arith, c.long);
        long = length-set words i v ∙ c.long;
        done = λ k q. elim (ℕ_discrete k i) [
          | yes p ↦ rw p (get_or-set_same words i v 0 h ∙ e)
          | no p ↦ get_or-set_other words i k v 0 p ∙ c.done k (omega arith)
        ];
        rest = λ k q. get_or-set_other words i k v 0 (λ p. omega arith) ∙ c.rest k (omega arith);
      }

  pub stored-all : {old words : List ℕ} {i : ℕ} → Stored g old words i → length words ≤ i → (new : List ℕ) → length new ≡ length old →
      ((k : ℕ) → k < length old → get_or new k 0 ≡ g k) → words ≡ new
  stored-all {old} {words} {i} c h new e f =
      ext_get_or 0 words new (c.long ∙ sym e)
      (λ k q. c.done k (omega arith) ∙ sym (f k (omega (arith, c.long))))
