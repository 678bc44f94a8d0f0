-- What the text of words is by what they say: no terms, no reading, one term that fits the room or not, several terms.
use Prim.Native.Nat.{ℕ, ◌-◌, ◌≤◌}
use native.Mathlib.Omega.{arith}
use mathlib.Core.Path.{◌≡◌, refl, sym, ap, ap₂, subst, ◌∙◌}
use mathlib.Core.Bool.{Bool, true, false}
use mathlib.Core.List.{List, [], ◌++◌}
use mathlib.Core.Option.{Option, none, some}
use borrow.Author.Tests.{ltb-false}
use lib.Dec.{ltb}
use lib.ListN.{length, take, replicate}
use lib.Seq.{take_at}
use Rattle.model.specs.Text.{Printed}
use Rattle.std.proofs.Common.{Some, None, Ok, Err}
use Rattle.model.specs.declared.Refusal.{Refusal}
use Rattle.model.specs.declared.Refusal.TheVariants.{NoRoom, NoWords, NoTerms}
use Rattle.model.specs.Term.{Terms, no_terms, tree, one, count, Reads, read}
use Rattle.model.specs.Text.{text, printed_if, printed, term_text, room_by, room_after}
use Rattle.terms.specs.Whole.{whole_of}
use Rattle.terms.proofs.Rows.{single}
use Rattle.terms.proofs.Read.{read-words, reads-read}
use Rattle.text.specs.Lines.{SayTerm}
use Rattle.text.specs.Nodes.{text_len, fit_by, fit_of, Fine}
use Rattle.text.specs.Writing.{emit}
use Rattle.text.proofs.Emitted.{emit-text}
use Rattle.text.proofs.Counted.{fine-words, term-length}

-- the room by what is printed
room-is : (ws : List ℕ) (room : ℕ) {p : Printed} {o : Option Terms} → term_text ws room ≡ p → read ws ≡ o → room_after ws room ≡ room_by p o room
unfolding room_after
room-is ws room e f = ap₂ (λ (p : Printed) (o : Option Terms). room_by p o room) e f

pub room-refused : (ws : List ℕ) (room : ℕ) (r : Refusal) → Err r ≡ term_text ws room → replicate room 0 ≡ room_after ws room
room-refused ws room n e = sym (room-is ws room (sym e) refl)

-- words that say one term
module _ (ws : List ℕ) (say : SayTerm ws) where
  pub say-fine : Fine ws
  say-fine = subst Fine (sym say.reads.spelled) (fine-words (one say.term) say.reads.narrow)

  pub say-emit : emit ws [] ≡ text (one say.term)
  say-emit = ap (λ (l : List ℕ). emit l []) say.reads.spelled ∙ emit-text say.term

  pub say-length : text_len 0 ws ≡ length (emit ws [])
  say-length = ap (text_len 0) say.reads.spelled ∙ term-length say.term ∙ ap length (sym say-emit)

  reads : read ws ≡ some (one say.term)
  reads = reads-read ws (one say.term) say.reads

  print-is : (room : ℕ) → term_text ws room ≡ printed_if (ltb room (text_len 0 ws)) (text_len 0 ws)
  unfolding term_text printed
  print-is room =
      ap (λ (o : Option Terms). printed o room) reads
      ∙ ap (λ (n : ℕ). printed_if (ltb room n) n) (sym (say-length ∙ ap length say-emit))

  module _ (room : ℕ) where
    beyond : (b : Bool) (n : ℕ) → None ≡ fit_by b n → Err NoRoom ≡ printed_if b n
    beyond true n e = refl
    beyond false n e = let z : ◌≡◌ {A = ℕ} 0 1 = cc in absurd (omega arith)

    pub print-beyond : None ≡ fit_of (text_len 0 ws) room → Err NoRoom ≡ term_text ws room
    print-beyond e = beyond (ltb room (text_len 0 ws)) (text_len 0 ws) e ∙ sym (print-is room)

    within : (b : Bool) (n k : ℕ) → Some k ≡ fit_by b n → (b ≡ false) × (k ≡ n)
    within true n k e = let z : ◌≡◌ {A = ℕ} 0 1 = cc in absurd (omega arith)
    within false n k e = (refl, cc)

    module _ {k : ℕ} (e : Some k ≡ fit_of (text_len 0 ws) room) where
      fit : (ltb room (text_len 0 ws) ≡ false) × (k ≡ text_len 0 ws)
      fit = within (ltb room (text_len 0 ws)) (text_len 0 ws) k e

      pub within-fits : k ≤ room
      within-fits = omega (arith, ltb-false room (text_len 0 ws) fit.0, fit.1)

      pub within-long : k ≡ length (emit ws [])
      within-long = fit.1 ∙ say-length

      pub print-within : Ok k ≡ term_text ws room
      print-within = sym (print-is room ∙ ap₂ printed_if fit.0 (sym fit.1))

      pub room_within : emit ws [] ++ replicate (room - k) 0 ≡ room_after ws room
      room_within =
          ap (λ (l : List ℕ). l ++ replicate (room - k) 0) say-emit ∙ sym (room-is ws room (sym print-within) reads)

      -- the text in front of the room, and zeros behind it
      pub room-filled : {w : List ℕ} (rest : List ℕ) → w ≡ emit ws [] → length (w ++ rest) ≡ room →
          take k (w ++ rest) ++ replicate (length (w ++ rest) - k) 0 ≡ room_after ws room
      room-filled {w} rest p l =
          ap₂ (λ (a : List ℕ) (n : ℕ). a ++ replicate (n - k) 0) (take_at w rest k (ap length p ∙ sym within-long) ∙ p) l ∙ room_within

-- and the others
module _ (ws : List ℕ) (room : ℕ) where
  text-is : {o : Option Terms} → read ws ≡ o → term_text ws room ≡ printed o room
  unfolding term_text
  text-is e = ap (λ (o : Option Terms). printed o room) e

  unread : (o : Option Terms) → None ≡ whole_of o → o ≡ none
  unread none e = refl
  unread (some f) e = let z : ◌≡◌ {A = ℕ} 0 1 = cc in absurd (omega arith)

  pub print-broken : None ≡ whole_of (read ws) → Err NoTerms ≡ term_text ws room
  unfolding printed
  print-broken e = sym (text-is (unread (read ws) e))

  -- so many terms were read
  record Counted (n : ℕ) (o : Option Terms) : Type 0 where
    row : Terms
    is : o ≡ some row
    many : count row ≡ n

  counted : (n : ℕ) (o : Option Terms) → Some n ≡ whole_of o → Counted n o
  counted n none e = let z : ◌≡◌ {A = ℕ} 0 1 = cc in absurd (omega arith)
  counted n (some f) e = record { row = f; is = refl; many = cc }

  empty : (f : Terms) → count f ≡ 0 → Err NoWords ≡ printed (some f) room
  unfolding printed count
  empty no_terms e = refl
  empty (tree o m k s) e = absurd (omega arith)

  several : (f : Terms) → (count f ≡ 0 → ⊥) → (count f ≡ 1 → ⊥) → Err NoTerms ≡ printed (some f) room
  unfolding printed count
  several no_terms f g = absurd (f refl)
  several (tree o m k no_terms) f g = absurd (g refl)
  several (tree o m k (tree o' m' k' s)) f g = refl

  pub print-empty : {n : ℕ} → Some n ≡ whole_of (read ws) → n ≡ 0 → Err NoWords ≡ term_text ws room
  print-empty {n} e z =
      let c = counted n (read ws) e in
      empty c.row (c.many ∙ z) ∙ sym (text-is c.is)

  pub print-several : {n : ℕ} → Some n ≡ whole_of (read ws) → (n ≡ 0 → ⊥) → (n ≡ 1 → ⊥) → Err NoTerms ≡ term_text ws room
  print-several {n} e f g =
      let c = counted n (read ws) e in
      several c.row (λ z. f (sym c.many ∙ z)) (λ z. g (sym c.many ∙ z)) ∙ sym (text-is c.is)

  pub print-one : {n : ℕ} → Some n ≡ whole_of (read ws) → n ≡ 1 → SayTerm ws
  print-one {n} e z =
      let c = counted n (read ws) e in
      let s = single c.row (c.many ∙ z) in
      record { term = s.term; reads = subst (Reads ws) s.is (read-words ws c.row c.is) }
