-- The second pass over a side: the words of its items written, one item after another; and a slot cleared.
use Prim.Native.Nat.{ℕ, ◌+◌, ◌*◌, ◌-◌, ◌≤◌, ◌<◌}
use mathlib.Core.List.{List, [], ◌∷◌, ◌++◌, append-nil}
use mathlib.Core.Option.{Option as Maybe, none, some}
use Rattle.std.proofs.Common.{Option, Some, None, IsSome}
use mathlib.Core.Path.{◌≡◌, refl, sym, ap, ap₂, ◌∙◌}
use native.Mathlib.Omega.{arith}
use native.Mathlib.Decide.{ℕ_discrete}
use lib.ListN.{length, set, drop, length-append}
use Rattle.model.specs.Limits.{item_limit}
use Rattle.model.specs.Pattern.{Item}
use Rattle.model.specs.Tables.{item_words}
use Rattle.laws.specs.Area.{splice}
use Rattle.laws.proofs.Area.{length-splice, splice-none, splice-one, splice-push, splice-more}
use Rattle.layouts.specs.Words.{item_kind, item_field, item_count, slots_of}
use Rattle.layouts.proofs.Back.{slots_length}
use Rattle.decode.specs.declared.sides.Part.{Part}
use Rattle.decode.specs.Sides.{part_of, item_of, Found, found, side_found, items_of, HasItems}
use Rattle.decode.proofs.Parts.{sound}
use Rattle.decode.proofs.Found.{before, before-none, found-over, found-done, turn-none, turn-item, turn-fits}

-- an item's three words
three-words : (old : List ℕ) (at a b c : ℕ) → at + item_words ≤ length old →
    set (set (set old at a) (at + 1) b) (at + 2) c ≡ splice old at (a ∷ b ∷ c ∷ [])
three-words old at a b c h =
    ap (λ (l : List ℕ). set (set l (at + 1) b) (at + 2) c) (splice-one old at a (omega arith))
    ∙ ap (λ (l : List ℕ). set l (at + 2) c) (splice-push old at (a ∷ []) b (omega arith))
    ∙ splice-push old at (a ∷ b ∷ []) c (omega arith)

slots-more : (front : List Item) (i : Item) → slots_of (front ++ (i ∷ [])) ≡ slots_of front ++ (item_kind i ∷ item_field i ∷ item_count i ∷ [])
unfolding slots_of
slots-more [] i = refl
slots-more (j ∷ front) i = ap (λ (l : List ℕ). item_kind j ∷ item_field j ∷ item_count j ∷ l) (slots-more front i)

pub record Writing (bs : List ℕ) (at items place : ℕ) (old new : List ℕ) (pos to left : ℕ) : Type 0 where
  pub front : List Item
  pub fuel : ℕ
  pub pending : ℕ
  pub counted : length front + left ≡ items
  pub reached : to ≡ place + item_words * length front
  pub within : pos ≤ length bs
  pub written : new ≡ splice old place (slots_of front)
  pub goes : before front (found fuel pending (drop pos bs)) ≡ side_found bs at

module _ (bs : List ℕ) (at items place : ℕ) (old : List ℕ) (here : at ≤ length bs) where
  pub writing_start : Writing bs at items place old old at place items
  unfolding slots_of
  writing_start = record {
    front = [];
    fuel = item_limit;
    pending = 1;
    counted = omega arith;
    reached = omega arith;
    within = here;
    written = sym (splice-none old place);
    goes = before-none (side_found bs at);
  }

-- the same place and count by other names
pub writing-at : {bs : List ℕ} {at items place : ℕ} {old new : List ℕ} {pos to left : ℕ} {to' left' : ℕ} → to ≡ to' → left ≡ left' →
    Writing bs at items place old new pos to left → Writing bs at items place old new pos to' left'
writing-at e d w = rw (← e, ← d) w

-- what is written so far, of the items that there are
module _ (front : List Item) (o : Maybe Found) (items left : ℕ) (has : length (items_of (before front o)) ≡ items) (counted : length front + left ≡ items) where
  not_none : 0 < left → o ≡ none → ⊥
  not_none h e = let z : 0 ≡ items = rw e at has in omega arith

  not_done : 0 < left → (l : List ℕ) → o ≡ some (record { items = []; rest = l }) → ⊥
  not_done h l e = let z : length (front ++ []) ≡ items = rw e at has in omega (arith, length-append front [])

all-written : (front : List Item) (o : Maybe Found) → length (items_of (before front o)) ≡ length front → items_of (before front o) ≡ front
all-written [] none h = refl
all-written (i ∷ front) none h = absurd (omega arith)
all-written front (some f) h = ap (λ (is : List Item). front ++ is) (none_more f.items (omega (arith, length-append front f.items))) ∙ append-nil front
  where
    none_more : (is : List Item) → length is ≡ 0 → is ≡ []
    none_more [] h = refl
    none_more (i ∷ is) h = absurd (omega arith)

module _ {bs : List ℕ} {at items place : ℕ} {old new : List ℕ} {pos to left : ℕ} (has : HasItems bs at items)
    (fits : place + item_words * items ≤ length old) (w : Writing bs at items place old new pos to left) where
  words : length (slots_of w.front) ≡ item_words * length w.front
  words = slots_length w.front

  pub writing-length : length new ≡ length old
  writing-length = ap length w.written ∙ length-splice old place (slots_of w.front) (omega (arith, words, w.counted))

  still : length (items_of (before w.front (found w.fuel w.pending (drop pos bs)))) ≡ items
  still = ap (λ (o : Maybe Found). length (items_of o)) w.goes ∙ has

  pub writing-done : left ≡ 0 → new ≡ splice old place (slots_of (items_of (side_found bs at)))
  writing-done h =
      let e = all-written w.front (found w.fuel w.pending (drop pos bs)) (still ∙ (sym w.counted ∙ omega arith)) in
      w.written ∙ ap (λ (is : List Item). splice old place (slots_of is)) (sym e ∙ ap items_of w.goes)

  module _ (more : 0 < left) where
    some-pending : 0 < w.pending
    some-pending = elim (ℕ_discrete w.pending 0) [
      | yes e ↦ absurd (not_done w.front _ items left still w.counted more (drop pos bs) (found-done w.fuel w.pending (drop pos bs) e))
      | no e ↦ omega arith
    ]

    some-fuel : 0 < w.fuel
    some-fuel = elim (ℕ_discrete w.fuel 0) [
      | yes e ↦ absurd (not_none w.front _ items left still w.counted more (found-over w.fuel w.pending (drop pos bs) e some-pending))
      | no e ↦ omega arith
    ]

    pub some_bytes : None ≡ part_of (drop pos bs) → ⊥
    some_bytes e =
        let none-there : before w.front (found w.fuel w.pending (drop pos bs)) ≡ none = turn-none bs pos w.front w.fuel w.pending some-fuel some-pending e in
        let z : 0 ≡ items = ap (λ (o : Maybe Found). length (items_of o)) (sym none-there) ∙ still in
        omega (arith, w.counted)

    pub some-part : {o : Option Part} → o ≡ part_of (drop pos bs) → IsSome o
    some-part {o} e = by o e
      where
        by : (o : Option Part) → o ≡ part_of (drop pos bs) → IsSome o
        by None e = absurd (some_bytes e)
        by (Some p) e = refl

    pub writing-room : to + item_words ≤ length new
    writing-room = omega (arith, w.counted, w.reached, writing-length)

    module _ (p : Part) (is : Some p ≡ part_of (drop pos bs)) where
      pub writing-fits : pos + p.size ≤ length bs
      writing-fits = (turn-fits bs pos w.front w.fuel w.pending some-fuel some-pending p is w.within).0

      item-words : item_kind (item_of p) ∷ item_field (item_of p) ∷ item_count (item_of p) ∷ [] ≡ p.kind ∷ p.field ∷ p.count ∷ []
      item-words =
          let s = sound (drop pos bs) p is in
          ap₂ (λ (a : ℕ) (l : List ℕ). a ∷ l) s.kind (ap₂ (λ (a b : ℕ). a ∷ b ∷ []) s.field s.number)

      pub writing_more : Writing bs at items place old (set (set (set new to p.kind) (to + 1) p.field) (to + 2) p.count) (pos + p.size) (to + item_words) (left - 1)
      writing_more =
          let there : to ≡ place + length (slots_of w.front) = omega (arith, w.reached, words) in
          let three = p.kind ∷ p.field ∷ p.count ∷ [] in
          record {
            front = w.front ++ (item_of p ∷ []);
            fuel = w.fuel - 1;
            pending = w.pending - 1 + p.count;
            counted = omega (arith, length-append w.front (item_of p ∷ []), w.counted);
            reached = omega (arith, length-append w.front (item_of p ∷ []), w.reached);
            within = writing-fits;
            written =
                three-words new to p.kind p.field p.count writing-room
                ∙ ap₂ (λ (l : List ℕ) (k : ℕ). splice l k three) w.written there
                ∙ splice-more old place (slots_of w.front) three (omega (arith, words, w.counted))
                ∙ ap (λ (l : List ℕ). splice old place (slots_of w.front ++ l)) (sym item-words)
                ∙ ap (splice old place) (sym (slots-more w.front (item_of p)));
            goes = sym (turn-item bs pos w.front w.fuel w.pending some-fuel some-pending p is) ∙ w.goes;
          }
