-- A rule's frame decided by its two sides, and its words.
use Prim.Native.Nat.{ℕ, zero, suc, ◌+◌, ◌-◌, ◌≤◌, ◌<◌}
use mathlib.Core.Bool.{true}
use mathlib.Core.List.{List, [], ◌∷◌, ◌++◌, append_assoc, append-nil}
use mathlib.Core.Option.{Option, none, some}
use mathlib.Core.Path.{◌≡◌, refl, sym, ap, ap₂, ◌∙◌}
use native.Mathlib.Omega.{arith}
use lib.ListN.{length, get_or, set, drop, replicate, length-append, length-drop, length-replicate, replicate-append-replicate, drop_of_length-le}
use lib.Seq.{drop-drop}
use Rattle.model.specs.Limits.{item_limit}
use Rattle.model.specs.Pattern.{Item, variable, operator, Patterns}
use Rattle.model.specs.Rule.{Rule, side, rule_of}
use Rattle.model.specs.Tables.{side_words, left_at, right_at, rule_words}
use Rattle.model.specs.Frame.{two, frame_items, rule_items, rule_frame}
use Rattle.laws.specs.Area.{splice}
use Rattle.laws.proofs.Area.{splice-middle}
use Rattle.layouts.specs.Words.{padded, slots_of, words_of_rule}
use Rattle.layouts.proofs.Back.{slots_length, padded-length}
use Rattle.rule_table.proofs.Patterns.{none-some}
use Rattle.rule_table.proofs.Sides.{first-item}
use Rattle.rule_table.proofs.Frames.{frame-sides, Split, frame-split}
use Rattle.std.proofs.Common.{Some, None}
use Rattle.laws.specs.Present.{present}
use Rattle.decode.specs.Slot.{slot_by}
use Rattle.decode.specs.Sides.{Found, found, side_found, side_of, items_of, TwoSides, rule_slot}
use Rattle.decode.proofs.Rules.{found-is, finds, a-side, side-scan}

-- The words written over zeros: the head, then each side's.
heads : (m n l r : ℕ) → set (set (set (replicate (suc (suc (suc m))) 0) 0 n) 1 l) 2 r ≡ n ∷ l ∷ r ∷ replicate m 0
heads m n l r = refl

abbrev none_of : ℕ → List ℕ
none_of n = replicate n 0

zeros-cut : (a : ℕ) → a ≤ side_words → none_of side_words ≡ none_of a ++ none_of (side_words - a)
zeros-cut a h =
    let e : side_words ≡ a + (side_words - a) = omega arith in
    ap none_of e ∙ sym (replicate-append-replicate a (side_words - a) 0)

module _ (n : ℕ) (ls rs : List Item) (few : length ls ≤ item_limit) (others-few : length rs ≤ item_limit) where
  head : List ℕ
  head = n ∷ length ls ∷ length rs ∷ []

  zeros : List ℕ
  zeros = none_of side_words

  left-fits : length (slots_of ls) ≤ side_words
  left-fits = omega (arith, slots_length ls)

  right-fits : length (slots_of rs) ≤ side_words
  right-fits = omega (arith, slots_length rs)

  over_zeros : (x : List ℕ) (is : List Item) (z : List ℕ) (at : ℕ) → length x ≡ at → length (slots_of is) ≤ side_words →
      splice (x ++ (zeros ++ z)) at (slots_of is) ≡ x ++ (padded side_words (slots_of is) ++ z)
  unfolding zeros
  over_zeros x is z at e h =
      let a = length (slots_of is) in
      let rest = none_of (side_words - a) in
      ap (λ (y : List ℕ). splice (x ++ (y ++ z)) at (slots_of is)) (zeros-cut a h)
      ∙ ap (λ (y : List ℕ). splice (x ++ y) at (slots_of is)) (append_assoc (none_of a) rest z)
      ∙ splice-middle x (none_of a) (rest ++ z) at (slots_of is) e (length-replicate a 0)
      ∙ ap (λ (y : List ℕ). x ++ y) (sym (append_assoc (slots_of is) rest z))

  pub rule-written : splice (splice (set (set (set (replicate rule_words 0) 0 n) 1 (length ls)) 2 (length rs)) left_at (slots_of ls)) right_at (slots_of rs) ≡ rule_slot n ls rs
  unfolding zeros head
  rule-written =
      let l = padded side_words (slots_of ls) in
      let r = padded side_words (slots_of rs) in
      let start : set (set (set (replicate rule_words 0) 0 n) 1 (length ls)) 2 (length rs) ≡ head ++ (zeros ++ (zeros ++ [])) =
      heads (side_words + side_words) n (length ls) (length rs)
      ∙ ap (λ (y : List ℕ). head ++ y) (sym (replicate-append-replicate side_words side_words 0) ∙ ap (λ (y : List ℕ). zeros ++ y) (sym (append-nil zeros))) in
      let left = over_zeros head ls (zeros ++ []) left_at refl left-fits in
      let long : length (head ++ l) ≡ right_at = omega (arith, length-append head l, padded-length side_words (slots_of ls) left-fits) in
      let right = over_zeros (head ++ l) rs [] right_at long right-fits in
      ap (λ (s : List ℕ). splice (splice s left_at (slots_of ls)) right_at (slots_of rs)) start
      ∙ ap (λ (s : List ℕ). splice s right_at (slots_of rs)) (left ∙ sym (append_assoc head l (zeros ++ [])))
      ∙ right
      ∙ append_assoc head l (r ++ [])
      ∙ ap (λ (y : List ℕ). head ++ (l ++ y)) (append-nil r)

-- Two sides, the second up to the end, are a rule.
pub record Says (bs : List ℕ) (ls rs : List Item) : Type 0 where
  pub rule : Rule
  pub is : rule_frame bs ≡ some rule
  pub words : rule_slot (two (get_or bs 0 0) (get_or bs 1 0)) ls rs ≡ words_of_rule rule

pub no-head : (bs : List ℕ) → length bs < 2 → rule_frame bs ≡ none
unfolding rule_frame
no-head [] h = refl
no-head (a ∷ []) h = refl
no-head (a ∷ b ∷ bs) h = absurd (omega arith)

numbered : (bs : List ℕ) → 2 ≤ length bs → rule_frame bs ≡ rule_items (two (get_or bs 0 0) (get_or bs 1 0)) (frame_items (drop 2 bs))
unfolding rule_frame
numbered [] h = absurd (omega arith)
numbered (a ∷ []) h = absurd (omega arith)
numbered (a ∷ b ∷ bs) h = refl

says : (bs : List ℕ) (f g : Found) → 2 ≤ length bs → side_found bs 2 ≡ some f → found item_limit 1 f.rest ≡ some g → g.rest ≡ [] → Says bs f.items g.items
unfolding frame_items words_of_rule
says bs f g h e d z =
    let n = two (get_or bs 0 0) (get_or bs 1 0) in
    let i = found-is item_limit 1 (drop 2 bs) f e in
    let j = found-is item_limit 1 f.rest g d in
    let right : frame_items f.rest ≡ some g.items = j.frame [] (ap frame_items z) ∙ ap some (append-nil g.items) in
    let all : frame_items (drop 2 bs) ≡ some (f.items ++ g.items) = i.frame g.items right in
    let l = a-side f.items i.scanned i.few in
    let r = a-side g.items j.scanned j.few in
    record {
      rule = record { number = n; left = l.pattern; right = r.pattern };
      is = numbered bs h ∙ ap (rule_items n) all ∙ frame-sides n f.items g.items i.scanned ∙ ap₂ (rule_of n) l.is-side r.is-side;
      words = ap₂ (λ (ls rs : List Item). rule_slot n ls rs) (sym l.spelled) (sym r.spelled);
    }

-- And a rule has two sides.
record Both (bs : List ℕ) : Type 0 where
  left : Found
  right : Found
  left-found : side_found bs 2 ≡ some left
  right-found : found item_limit 1 left.rest ≡ some right
  ends : right.rest ≡ []

no_items : (l : List ℕ) → frame_items l ≡ some [] → l ≡ []
unfolding frame_items
no_items [] e = refl
no_items (zero ∷ []) e = absurd (none-some e)
no_items (zero ∷ x ∷ l) e = let w = first-item (some (variable x)) (frame_items l) [] e in let z : ◌≡◌ {A = ℕ} 0 1 = cc w.joined in absurd (omega arith)
no_items (suc zero ∷ []) e = absurd (none-some e)
no_items (suc zero ∷ a ∷ []) e = absurd (none-some e)
no_items (suc zero ∷ a ∷ b ∷ []) e = absurd (none-some e)
no_items (suc zero ∷ a ∷ b ∷ c ∷ l) e = let w = first-item (some (operator (two a b) c)) (frame_items l) [] e in let z : ◌≡◌ {A = ℕ} 0 1 = cc w.joined in absurd (omega arith)
no_items (suc (suc k) ∷ l) e = absurd (none-some e)

module _ (bs : List ℕ) (n : ℕ) (r : Rule) where
  of-sides : (is : List Item) → frame_items (drop 2 bs) ≡ some is → (s : Split is) → (o p : Option Patterns) → side s.left ≡ o → side s.right ≡ p → rule_of n o p ≡ some r → Both bs
  of-sides is d s none p x y h = absurd (none-some h)
  of-sides is d s (some q) none x y h = absurd (none-some h)
  of-sides is d s (some q) (some t) x y h =
      let a = side-scan s.left q x in
      let b = side-scan s.right t y in
      let f = finds s.left s.right (drop 2 bs) item_limit 1 (d ∙ ap some (sym s.joined)) a.0 a.1 in
      let g = finds s.right [] f.rest item_limit 1 (f.others ∙ ap some (sym (append-nil s.right))) b.0 b.1 in
      record {
        left = record { items = s.left; rest = f.rest };
        right = record { items = s.right; rest = g.rest };
        left-found = f.is_found;
        right-found = g.is_found;
        ends = no_items g.rest g.others;
      }

  of-items : (o : Option (List Item)) → frame_items (drop 2 bs) ≡ o → rule_items n o ≡ some r → Both bs
  of-items none d h = absurd (none-some h)
  of-items (some is) d h =
      let s = frame-split n is r h in
      let e : rule_of n (side s.left) (side s.right) ≡ some r =
      sym (frame-sides n s.left s.right s.whole) ∙ ap (λ (js : List Item). rule_items n (some js)) s.joined ∙ h in
      of-sides is d s _ _ refl refl e

-- so where it has not, there is none
no-rule : (bs : List ℕ) → 2 ≤ length bs → (Both bs → ⊥) → rule_frame bs ≡ none
no-rule bs h k = by (rule_frame bs) refl
  where
    by : (o : Option Rule) → rule_frame bs ≡ o → o ≡ none
    by none e = refl
    by (some r) e = absurd (k (of-items bs (two (get_or bs 0 0) (get_or bs 1 0)) r (frame_items (drop 2 bs)) refl (sym (numbered bs h) ∙ e)))

-- What the first pass answers of a side.
wrong-none : (n : ℕ) (o : Option Found) → None ≡ side_of n o → o ≡ none
wrong-none n none e = refl
wrong-none n (some f) e = let z : ◌≡◌ {A = ℕ} 0 1 = cc in absurd (omega arith)

record Answered (bs : List ℕ) (at n end : ℕ) : Type 0 where
  side-there : Found
  is_found : side_found bs at ≡ some side-there
  many : n ≡ length side-there.items
  few : n ≤ item_limit
  within : end ≤ length bs
  behind : drop end bs ≡ side-there.rest

answered : (bs : List ℕ) (at n end : ℕ) → at ≤ length bs → Some (n, end) ≡ side_of (length bs) (side_found bs at) → Answered bs at n end
answered bs at n end h e = by (side_found bs at) refl e
  where
    by : (o : Option Found) → side_found bs at ≡ o → Some (n, end) ≡ side_of (length bs) o → Answered bs at n end
    by none d e = let z : ◌≡◌ {A = ℕ} 0 1 = cc in absurd (omega arith)
    by (some f) d e =
        let i = found-is item_limit 1 (drop at bs) f d in
        let q : (n, end) ≡ (length f.items, length bs - length f.rest) = cc in
        let m : n ≡ length f.items = ap (λ (x : ℕ × ℕ). x.0) q in
        let x : end ≡ length bs - length f.rest = ap (λ (x : ℕ × ℕ). x.1) q in
        let l = length-drop at bs in
        let k : end ≡ at + (length (drop at bs) - length f.rest) = omega (arith, i.shorter) in
        record {
          side-there = f;
          is_found = d;
          many = m;
          few = omega (arith, i.few);
          within = omega arith;
          behind = ap (λ (y : ℕ). drop y bs) k ∙ sym (drop-drop (length (drop at bs) - length f.rest) at bs) ∙ sym i.suffix;
        }

module _ (bs : List ℕ) (h : 2 ≤ length bs) where
  pub no-left : None ≡ side_of (length bs) (side_found bs 2) → rule_frame bs ≡ none
  no-left e = no-rule bs h (λ b. none-some (sym (wrong-none (length bs) (side_found bs 2) e) ∙ b.left-found))

  module _ (left middle : ℕ) (l : Some (left, middle) ≡ side_of (length bs) (side_found bs 2)) where
    first : Answered bs 2 left middle
    first = answered bs 2 left middle h l

    pub middle-within : middle ≤ length bs
    middle-within = first.within

    -- the right side that a rule has starts there
    starts-there : (b : Both bs) → side_found bs middle ≡ some b.right
    starts-there b =
        let same : first.side-there ≡ b.left = cc (first.is_found, b.left-found) in
        ap (found item_limit 1) (first.behind ∙ ap (λ (f : Found). f.rest) same) ∙ b.right-found

    pub no-right : None ≡ side_of (length bs) (side_found bs middle) → rule_frame bs ≡ none
    no-right e = no-rule bs h (λ b. none-some (sym (wrong-none (length bs) (side_found bs middle) e) ∙ starts-there b))

    module _ (right end : ℕ) (r : Some (right, end) ≡ side_of (length bs) (side_found bs middle)) where
      second : Answered bs middle right end
      second = answered bs middle right end middle-within r

      pub no_end : (end ≡ length bs → ⊥) → rule_frame bs ≡ none
      no_end k = no-rule bs h (λ b. k (at-end b))
        where
          at-end : Both bs → end ≡ length bs
          at-end b =
              let same : second.side-there ≡ b.right = cc (second.is_found, starts-there b) in
              let gone : drop end bs ≡ [] = second.behind ∙ ap (λ (f : Found). f.rest) same ∙ b.ends in
              omega (arith, length-drop end bs, ap length gone, second.within)

      pub both-sides : TwoSides bs left middle right
      both-sides = record {
        head = h;
        within = middle-within;
        lefts = ap (λ (o : Option Found). length (items_of o)) first.is_found ∙ sym first.many;
        rights = ap (λ (o : Option Found). length (items_of o)) second.is_found ∙ sym second.many;
        few = first.few;
        others-few = second.few;
      }

      pub rule-there : end ≡ length bs → Says bs (items_of (side_found bs 2)) (items_of (side_found bs middle))
      rule-there e =
          let last : second.side-there.rest ≡ [] = sym second.behind ∙ drop_of_length-le bs {i = end} (omega arith) in
          let s = says bs first.side-there second.side-there h first.is_found (ap (found item_limit 1) (sym first.behind) ∙ second.is_found) last in
          rw (first.is_found, second.is_found) s

-- the slot is the rule's words
pub rule-put : {bs : List ℕ} {ls rs : List Item} → Says bs ls rs → (old slot : List ℕ) → slot ≡ rule_slot (two (get_or bs 0 0) (get_or bs 1 0)) ls rs →
    (true ≡ present (rule_frame bs)) × (slot ≡ slot_by words_of_rule old (rule_frame bs))
rule-put s old slot e = (rw s.is refl, rw s.is (e ∙ s.words))

-- the slot, writing by writing
module _ {bs : List ℕ} {left middle right : ℕ} (s : TwoSides bs left middle right) (n : ℕ) (number : n ≡ two (get_or bs 0 0) (get_or bs 1 0)) where
  abbrev ls : List Item
  ls = items_of (side_found bs 2)

  abbrev rs : List Item
  rs = items_of (side_found bs middle)

  pub two-written : (old clean front slot : List ℕ) → length old ≡ rule_words → clean ≡ replicate (length old) 0 →
      front ≡ splice (set (set (set clean 0 n) 1 left) 2 right) left_at (slots_of ls) → slot ≡ splice front right_at (slots_of rs) →
      slot ≡ rule_slot (two (get_or bs 0 0) (get_or bs 1 0)) ls rs
  two-written old clean front slot long is-clean is_front is-slot =
      let zero-words : clean ≡ replicate rule_words 0 = is-clean ∙ ap (λ (k : ℕ). replicate {A = ℕ} k 0) long in
      is-slot
      ∙ ap (λ (l : List ℕ). splice l right_at (slots_of rs)) is_front
      ∙ ap (λ (l : List ℕ). splice (splice (set (set (set l 0 n) 1 left) 2 right) left_at (slots_of ls)) right_at (slots_of rs)) zero-words
      ∙ ap₂ (λ (a b : ℕ). splice (splice (set (set (set (replicate rule_words 0) 0 n) 1 a) 2 b) left_at (slots_of ls)) right_at (slots_of rs)) (sym s.lefts) (sym s.rights)
      ∙ rule-written n ls rs (omega (arith, s.lefts, s.few)) (omega (arith, s.rights, s.others-few))
      ∙ ap (λ (k : ℕ). rule_slot k ls rs) number
