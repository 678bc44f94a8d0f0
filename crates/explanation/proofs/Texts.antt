-- The text of a term: each refusal exactly where its condition is the first to hold, and what the room then holds.
-- Assumes nothing.
use Prim.Native.Nat.{ℕ, ◌-◌, ◌≤◌}
use native.Mathlib.Omega.{arith}
use mathlib.Core.Bool.{Bool, true, false}
use mathlib.Core.List.{List, [], ◌++◌}
use mathlib.Core.Logic.{◌↔◌}
use mathlib.Core.Option.{Option, none, some}
use mathlib.Core.Path.{◌≡◌, refl, sym, ap, ap₂, ◌∙◌}
use borrow.Author.Tests.{ltb-true, ltb-false}
use lib.Dec.{ltb}
use lib.ListN.{length, replicate, length-append, length-replicate}
use Rattle.std.proofs.Common.{Ok, Err}
use Rattle.model.specs.declared.Refusal.{Refusal}
use Rattle.model.specs.Refusal.{number}
use Rattle.laws.proofs.Handed.{same_err, ok_err}
use Rattle.model.specs.declared.Refusal.TheVariants.{NoRoom, NoWords, NoTerms}
use Rattle.model.specs.Text.{Printed}
use Rattle.model.specs.Term.{Terms, no_terms, tree, one, count, words, read}
use Rattle.model.specs.Text.{text, printed_if, printed, term_text, room_by, room_after}
use Rattle.terms.proofs.Read.{read-words, reads-read, reads-once}
use Rattle.text.proofs.Printed.{room-refused}
use Rattle.explanation.specs.Demand.{OneTerm, Longer, FirstPrinted}

module _ (ws : List ℕ) (room : ℕ) where
  -- one of the four cases holds, with its answer
  data Case : Type 0 where
    empty : ws ≡ [] → term_text ws room ≡ Err NoWords → Case
    broken : (ws ≡ [] → ⊥) → (OneTerm ws → ⊥) → term_text ws room ≡ Err NoTerms → Case
    long : Longer ws room → term_text ws room ≡ Err NoRoom → Case
    fit : (s : OneTerm ws) → length (text (one s.term)) ≤ room → term_text ws room ≡ Ok (length (text (one s.term))) → Case

  -- no words are those of no term
  read_none : ws ≡ [] → read ws ≡ some no_terms
  unfolding read
  read_none e = ap read e

  sized : (s : OneTerm ws) (b : Bool) → ltb room (length (text (one s.term))) ≡ b →
      term_text ws room ≡ printed_if b (length (text (one s.term))) → Case
  sized s true e p = long (record { says = s; exceeds = ltb-true room (length (text (one s.term))) e }) p
  sized s false e p = fit s (ltb-false room (length (text (one s.term))) e) p

  told : {o : Option Terms} → read ws ≡ o → term_text ws room ≡ printed o room
  unfolding term_text
  told e = ap (λ (o : Option Terms). printed o room) e

  by_row : (f : Terms) → read ws ≡ some f → Case
  unfolding printed words count
  by_row no_terms e = empty (read-words ws no_terms e).spelled (told e)
  by_row (tree o m k no_terms) e =
      let s : OneTerm ws = record { term = record { op = o; mark = m; kids = k }; reads = read-words ws (tree o m k no_terms) e } in
      let n = length (text (tree o m k no_terms)) in
      sized s (ltb room n) refl (told e)
  by_row (tree o m k (tree o' m' k' f)) e =
      broken
      (λ z. absurd (omega (arith, counts no_terms (sym e ∙ read_none z))))
      (λ s. absurd (omega (arith, counts (one s.term) (sym e ∙ reads-read ws (one s.term) s.reads))))
      (told e)
    where
      counts : (g : Terms) → ◌≡◌ {A = Option Terms} (some (tree o m k (tree o' m' k' f))) (some g) → count (tree o m k (tree o' m' k' f)) ≡ count g
      counts g h = cc

  case-of : Case
  unfolding printed
  case-of = by (read ws) refl
    where
      by : (o : Option Terms) → read ws ≡ o → Case
      by none e =
          broken
          (λ z. let y = read_none z in let n : ◌≡◌ {A = ℕ} 0 1 = cc in absurd (omega arith))
          (λ s. let y = reads-read ws (one s.term) s.reads in let n : ◌≡◌ {A = ℕ} 0 1 = cc in absurd (omega arith))
          (told e)
      by (some f) e = by_row f e

  -- a term has words
  full : OneTerm ws → ws ≡ [] → ⊥
  unfolding count
  full s e =
      let y = read_none e in
      let z = reads-read ws (one s.term) s.reads in
      let n : count (one s.term) ≡ count no_terms = cc in absurd (omega arith)

  once : (s s' : OneTerm ws) → length (text (one s.term)) ≡ length (text (one s'.term))
  once s s' = ap (λ (f : Terms). length (text f)) (reads-once ws (one s.term) (one s'.term) s.reads s'.reads)

  -- the number that a case gives, and 0 for none
  abbrev refused : Case → ℕ
  refused (empty z e) = 12
  refused (broken n b e) = 13
  refused (long l e) = 11
  refused (fit s l e) = 0

  tells : (r : Refusal) → term_text ws room ≡ Err r → (c : Case) → refused c ≡ number r
  tells r h (empty z e) = ap number (same_err (sym e ∙ h))
  tells r h (broken a b e) = ap number (same_err (sym e ∙ h))
  tells r h (long l e) = ap number (same_err (sym e ∙ h))
  tells r h (fit s l e) = absurd (ok_err (sym e ∙ h))

  is-12 : (term_text ws room ≡ Err NoWords) ↔ (ws ≡ [])
  is-12 = (λ e. pick case-of (tells NoWords e case-of), λ z. put z case-of)
    where
      pick : (c : Case) → refused c ≡ 12 → ws ≡ []
      pick (empty z e) h = z
      pick (broken a b e) h = absurd (omega arith)
      pick (long l e) h = absurd (omega arith)
      pick (fit s l e) h = absurd (omega arith)

      put : ws ≡ [] → Case → term_text ws room ≡ Err NoWords
      put z (empty y e) = e
      put z (broken a b e) = absurd (a z)
      put z (long l e) = absurd (full l.says z)
      put z (fit s l e) = absurd (full s z)

  is-13 : (term_text ws room ≡ Err NoTerms) ↔ ((ws ≡ [] → ⊥) × (OneTerm ws → ⊥))
  is-13 = (λ e. pick case-of (tells NoTerms e case-of), λ h. put h.0 h.1 case-of)
    where
      pick : (c : Case) → refused c ≡ 13 → (ws ≡ [] → ⊥) × (OneTerm ws → ⊥)
      pick (empty z e) h = absurd (omega arith)
      pick (broken a b e) h = (a, b)
      pick (long l e) h = absurd (omega arith)
      pick (fit s l e) h = absurd (omega arith)

      put : (ws ≡ [] → ⊥) → (OneTerm ws → ⊥) → Case → term_text ws room ≡ Err NoTerms
      put n m (empty z e) = absurd (n z)
      put n m (broken a b e) = e
      put n m (long l e) = absurd (m l.says)
      put n m (fit s l e) = absurd (m s)

  is-11 : (term_text ws room ≡ Err NoRoom) ↔ Longer ws room
  is-11 = (λ e. pick case-of (tells NoRoom e case-of), λ l. put l case-of)
    where
      pick : (c : Case) → refused c ≡ 11 → Longer ws room
      pick (empty z e) h = absurd (omega arith)
      pick (broken a b e) h = absurd (omega arith)
      pick (long l e) h = l
      pick (fit s l e) h = absurd (omega arith)

      put : Longer ws room → Case → term_text ws room ≡ Err NoRoom
      put l (empty z e) = absurd (full l.says z)
      put l (broken a b e) = absurd (b l.says)
      put l (long k e) = e
      put l (fit s k e) = absurd (omega (arith, once s l.says, l.exceeds))

  -- a text that fits
  module _ (s : OneTerm ws) (l : length (text (one s.term)) ≤ room) where
    fits : Case → term_text ws room ≡ Ok (length (text (one s.term)))
    fits (empty z e) = absurd (full s z)
    fits (broken a b e) = absurd (b s)
    fits (long k e) = absurd (omega (arith, once s k.says, k.exceeds))
    fits (fit r k e) = e ∙ ap Ok (once r s)

    lent : room_after ws room ≡ text (one s.term) ++ replicate (room - length (text (one s.term))) 0
    unfolding room_after
    lent =
        ap₂ (λ (p : Printed) (o : Option Terms). room_by p o room) (fits case-of) (reads-read ws (one s.term) s.reads)

    lent_length : length (room_after ws room) ≡ room
    lent_length =
        let n = length (text (one s.term)) in
        ap length lent
        ∙ omega (arith, length-append (text (one s.term)) (replicate (room - n) 0), length-replicate {A = ℕ} (room - n) 0, l)

  zeros : (r : Refusal) → term_text ws room ≡ Err r → room_after ws room ≡ replicate room 0
  zeros r e = sym (room-refused ws room r (sym e))

  kept : Case → length (room_after ws room) ≡ room
  kept (empty z e) = ap length (zeros NoWords e) ∙ length-replicate {A = ℕ} room 0
  kept (broken a b e) = ap length (zeros NoTerms e) ∙ length-replicate {A = ℕ} room 0
  kept (long l e) = ap length (zeros NoRoom e) ∙ length-replicate {A = ℕ} room 0
  kept (fit s l e) = lent_length s l

  pub first-printed : FirstPrinted ws room (term_text ws room) (room_after ws room)
  first-printed =
      record {
        is-12 = is-12;
        is-13 = is-13;
        is-11 = is-11;
        spelled = λ t r l.
            let s : OneTerm ws = record { term = t; reads = r } in
            (fits s l case-of, lent s l);
        zero = zeros;
        kept = kept case-of;
      }
