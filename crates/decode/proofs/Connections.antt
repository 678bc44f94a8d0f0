-- A connection's frame has eight bytes, and what it says is decided by the last three fields.
use Prim.Native.Nat.{ℕ, zero, suc}
use mathlib.Core.Bool.{true, false}
use mathlib.Core.List.{List, [], ◌∷◌}
use mathlib.Core.Option.{Option, none, some}
use mathlib.Core.Path.{◌≡◌, refl, sym, ◌∙◌}
use native.Mathlib.Omega.{arith}
use lib.Dec.{eqb, leb}
use borrow.Author.Tests.{eq-eqb, ne_eqb, le-leb, lt-leb}
use lib.ListN.{length, get_or, set}
use Rattle.model.specs.declared.Justification.{Justification}
use Rattle.model.specs.Tables.{connection_words, next_at, why_at, by_rule_at, forward_at, why_of, connection_of}
use Rattle.model.specs.Frame.{two, connection_frame}
use Rattle.layouts.specs.Words.{words_of_connection}
use Rattle.laws.specs.Present.{present}
use Rattle.decode.specs.Slot.{slot_by}

-- "0 congruence, 1 rule; both 0 for congruence"
pub why-congruence : (k r f : ℕ) → k ≡ 0 → r ≡ 0 → eqb f 0 ≡ present (why_of k r f)
why-congruence k r zero e d = rw (e, d) (eq-eqb 0 0 refl)
why-congruence k r (suc f) e d = rw (e, d) (ne_eqb (suc f) 0 (λ p. omega arith))

pub why-rule : (k r f : ℕ) → k ≡ 1 → leb f 1 ≡ present (why_of k r f)
why-rule k r zero e = rw e (le-leb 0 1 (omega arith))
why-rule k r (suc zero) e = rw e (le-leb 1 1 (omega arith))
why-rule k r (suc (suc f)) e = rw e (lt-leb (suc (suc f)) 1 (omega arith))

pub no-rule : (k r f : ℕ) → k ≡ 0 → (r ≡ 0 → ⊥) → false ≡ present (why_of k r f)
no-rule k zero f e h = absurd (h refl)
no-rule k (suc r) f e h = rw e refl

pub no-why : (k r f : ℕ) → (k ≡ 0 → ⊥) → (k ≡ 1 → ⊥) → false ≡ present (why_of k r f)
no-why zero r f h g = absurd (h refl)
no-why (suc zero) r f h g = absurd (g refl)
no-why (suc (suc k)) r f h g = refl

-- where they are in their sets, a connection's words are its fields
module _ (c n : ℕ) (old : List ℕ) where
  of_fields : (k r f : ℕ) → true ≡ present (why_of k r f) → slot_by words_of_connection old (connection_of c n (why_of k r f)) ≡ c ∷ n ∷ k ∷ r ∷ f ∷ []
  of_fields zero zero zero h = refl
  of_fields zero zero (suc f) h = let z : ◌≡◌ {A = ℕ} 0 1 = cc in absurd (omega arith)
  of_fields zero (suc r) f h = let z : ◌≡◌ {A = ℕ} 0 1 = cc in absurd (omega arith)
  of_fields (suc zero) r zero h = refl
  of_fields (suc zero) r (suc zero) h = refl
  of_fields (suc zero) r (suc (suc f)) h = let z : ◌≡◌ {A = ℕ} 0 1 = cc in absurd (omega arith)
  of_fields (suc (suc k)) r f h = let z : ◌≡◌ {A = ℕ} 0 1 = cc in absurd (omega arith)

  of_none : (w : Option Justification) → false ≡ present w → connection_of c n w ≡ none
  of_none none h = refl
  of_none (some w) h = let z : ◌≡◌ {A = ℕ} 0 1 = cc in absurd (omega arith)

  of_some : (w : Option Justification) → present w ≡ present (connection_of c n w)
  of_some none = refl
  of_some (some w) = refl

-- five words in the place of five
five-words : (old : List ℕ) (a b c d e : ℕ) → length old ≡ connection_words →
    set (set (set (set (set old 0 a) next_at b) why_at c) by_rule_at d) forward_at e ≡ a ∷ b ∷ c ∷ d ∷ e ∷ []
five-words [] a b c d e h = absurd (omega arith)
five-words (s ∷ []) a b c d e h = absurd (omega arith)
five-words (s ∷ t ∷ []) a b c d e h = absurd (omega arith)
five-words (s ∷ t ∷ u ∷ []) a b c d e h = absurd (omega arith)
five-words (s ∷ t ∷ u ∷ v ∷ []) a b c d e h = absurd (omega arith)
five-words (s ∷ t ∷ u ∷ v ∷ w ∷ []) a b c d e h = refl
five-words (s ∷ t ∷ u ∷ v ∷ w ∷ x ∷ old) a b c d e h = absurd (omega arith)

pub other_length : (bs : List ℕ) → (length bs ≡ 8 → ⊥) → connection_frame bs ≡ none
unfolding connection_frame
other_length [] h = refl
other_length (a ∷ []) h = refl
other_length (a ∷ b ∷ []) h = refl
other_length (a ∷ b ∷ c ∷ []) h = refl
other_length (a ∷ b ∷ c ∷ d ∷ []) h = refl
other_length (a ∷ b ∷ c ∷ d ∷ k ∷ []) h = refl
other_length (a ∷ b ∷ c ∷ d ∷ k ∷ r ∷ []) h = refl
other_length (a ∷ b ∷ c ∷ d ∷ k ∷ r ∷ n ∷ []) h = refl
other_length (a ∷ b ∷ c ∷ d ∷ k ∷ r ∷ n ∷ f ∷ []) h = absurd (h refl)
other_length (a ∷ b ∷ c ∷ d ∷ k ∷ r ∷ n ∷ f ∷ x ∷ bs) h = refl

-- what eight bytes say
abbrev why_in : List ℕ → Option Justification
why_in bs = why_of (get_or bs 4 0) (two (get_or bs 5 0) (get_or bs 6 0)) (get_or bs 7 0)

eight-bytes : (bs : List ℕ) → length bs ≡ 8 → connection_frame bs ≡ connection_of (two (get_or bs 0 0) (get_or bs 1 0)) (two (get_or bs 2 0) (get_or bs 3 0)) (why_in bs)
unfolding connection_frame
eight-bytes [] h = absurd (omega arith)
eight-bytes (a ∷ []) h = absurd (omega arith)
eight-bytes (a ∷ b ∷ []) h = absurd (omega arith)
eight-bytes (a ∷ b ∷ c ∷ []) h = absurd (omega arith)
eight-bytes (a ∷ b ∷ c ∷ d ∷ []) h = absurd (omega arith)
eight-bytes (a ∷ b ∷ c ∷ d ∷ k ∷ []) h = absurd (omega arith)
eight-bytes (a ∷ b ∷ c ∷ d ∷ k ∷ r ∷ []) h = absurd (omega arith)
eight-bytes (a ∷ b ∷ c ∷ d ∷ k ∷ r ∷ n ∷ []) h = absurd (omega arith)
eight-bytes (a ∷ b ∷ c ∷ d ∷ k ∷ r ∷ n ∷ f ∷ []) h = refl
eight-bytes (a ∷ b ∷ c ∷ d ∷ k ∷ r ∷ n ∷ f ∷ x ∷ bs) h = absurd (omega arith)

module _ (bs : List ℕ) (old : List ℕ) (r : ℕ) (h : length bs ≡ 8) (by-rule : r ≡ two (get_or bs 5 0) (get_or bs 6 0)) where
  pub no-connection : false ≡ present (why_of (get_or bs 4 0) r (get_or bs 7 0)) → connection_frame bs ≡ none
  no-connection g = eight-bytes bs h ∙ of_none _ _ old (why_in bs) (rw by-rule at g)

  pub connection-put : (c n k f : ℕ) → length old ≡ connection_words → true ≡ present (why_of (get_or bs 4 0) r (get_or bs 7 0)) →
      c ≡ two (get_or bs 0 0) (get_or bs 1 0) → n ≡ two (get_or bs 2 0) (get_or bs 3 0) → k ≡ get_or bs 4 0 → f ≡ get_or bs 7 0 →
      (true ≡ present (connection_frame bs)) × (set (set (set (set (set old 0 c) next_at n) why_at k) by_rule_at r) forward_at f ≡ slot_by words_of_connection old (connection_frame bs))
  connection-put c n k f l g c-is n-is k-is f-is =
      let there : true ≡ present (why_in bs) = rw by-rule at g in (
        rw (eight-bytes bs h) (there ∙ of_some _ _ old (why_in bs)),
        five-words old c n k r f l ∙ rw (eight-bytes bs h, c-is, n-is, k-is, f-is, by-rule) (sym (of_fields _ _ old _ _ _ there)),
      )
