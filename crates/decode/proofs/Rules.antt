-- A rule's frame and the walk over its sides: the walk finds two sides, the second up to the end, just where the frame says a rule.
use Prim.Native.Nat.{ℕ, zero, suc, ◌+◌, ◌-◌, ◌≤◌}
use mathlib.Core.Bool.{Bool, true, false, ◌&&◌}
use mathlib.Core.List.{List, [], ◌∷◌, ◌++◌}
use mathlib.Core.Option.{Option as Maybe, none, some}
use Rattle.std.proofs.Common.{Option, Some, None}
use mathlib.Core.Path.{◌≡◌, refl, sym, ap, subst, ◌∙◌}
use native.Mathlib.Omega.{arith}
use native.Mathlib.Nat.{add_comm}
use borrow.Author.Tests.{eq-eqb, eqb-true, le-leb, leb-true}
use lib.Dec.{leb, ltb, eqb}
use lib.ListN.{length, drop, length-drop}
use lib.Seq.{drop-drop}
use Rattle.model.specs.Limits.{child_limit, item_limit, variable_limit}
use Rattle.model.specs.Pattern.{Item, variable, operator, Patterns, count_p, items, read_p}
use Rattle.model.specs.Rule.{side_if, one_pattern, side}
use Rattle.model.specs.Tables.{item_front}
use Rattle.model.specs.Frame.{two, frame_items}
use Rattle.rule_table.proofs.Patterns.{none-some, item_ok, arity, scan, is_row, scan-read, read-items}
use Rattle.rule_table.proofs.Sides.{first-item}
use Rattle.decode.specs.declared.sides.Part.{Part}
use Rattle.decode.specs.Sides.{part_if, part_of, item_of, Found, longer, behind, found}
use Rattle.decode.proofs.Parts.{sound}
use Rattle.decode.proofs.Found.{found-done}

both : (a b : Bool) → a && b ≡ true → (a ≡ true) × (b ≡ true)
both true b e = (refl, e)
both false b e = let z : ◌≡◌ {A = ℕ} 0 1 = cc in absurd (omega arith)

-- the first item, where the walk finds one
record First (l : List ℕ) (p : Part) : Type 0 where
  frame : frame_items l ≡ item_front (some (item_of p)) (frame_items (drop p.size l))
  ok : item_ok (item_of p) ≡ true
  wants : arity (item_of p) ≡ p.count

abbrev FirstIf : List ℕ → Option Part → Type 0
FirstIf l None = Unit {0}
FirstIf l (Some p) = First l p

first-if : (l : List ℕ) → FirstIf l (part_of l)
unfolding part_of frame_items
first-if [] = tt
first-if (zero ∷ []) = tt
first-if (zero ∷ x ∷ l) = by (ltb x variable_limit) refl
  where
    by : (b : Bool) → ltb x variable_limit ≡ b → FirstIf (0 ∷ x ∷ l) (part_if b (record { size = 2; kind = 0; field = x; count = 0 }))
    by true e = record { frame = refl; ok = e; wants = refl }
    by false e = tt
first-if (suc zero ∷ []) = tt
first-if (suc zero ∷ a ∷ []) = tt
first-if (suc zero ∷ a ∷ b ∷ []) = tt
first-if (suc zero ∷ a ∷ b ∷ c ∷ l) = by (leb c child_limit) refl
  where
    by : (t : Bool) → leb c child_limit ≡ t → FirstIf (1 ∷ a ∷ b ∷ c ∷ l) (part_if t (record { size = 4; kind = 1; field = two a b; count = c }))
    by true e = record { frame = refl; ok = e; wants = refl }
    by false e = tt
first-if (suc (suc k) ∷ l) = tt

first_part : (l : List ℕ) (p : Part) → Some p ≡ part_of l → First l p
first_part l p e = subst (FirstIf l) (sym e) (first-if l)

-- what the walk finds
pub record Is (k p : ℕ) (l : List ℕ) (f : Found) : Type 0 where
  pub scanned : scan f.items p ≡ true
  pub few : length f.items ≤ k
  pub shorter : length f.rest ≤ length l
  pub suffix : f.rest ≡ drop (length l - length f.rest) l
  pub frame : (js : List Item) → frame_items f.rest ≡ some js → frame_items l ≡ some (f.items ++ js)

none_read : (k : ℕ) (l : List ℕ) (f : Found) → some (record { items = []; rest = l }) ≡ some f → Is k 0 l f
unfolding scan
none_read k l f e =
    let p : record { items = []; rest = l } ≡ f = cc in
    let z : 0 ≡ length l - length l = omega arith in
    subst (Is k 0 l) p (record { scanned = eq-eqb 0 0 refl; few = omega arith; shorter = omega arith; suffix = ap (λ (n : ℕ). drop n l) z; frame = λ js h. h })

one-read : (k p : ℕ) (l : List ℕ) (q : Part) (f g : Found) → Some q ≡ part_of l → Is k (p + q.count) (drop q.size l) g →
    record { items = item_of q ∷ g.items; rest = g.rest } ≡ f → Is (suc k) (suc p) l f
unfolding scan
one-read k p l q f g h i e =
    let n = q.size in
    let t = first_part l q h in
    let s = sound l q h in
    let d = length-drop n l in
    let c : arity (item_of q) + p ≡ p + q.count = ap (λ (m : ℕ). m + p) t.wants ∙ add_comm q.count p in
    let m : n + (length (drop n l) - length g.rest) ≡ length l - length g.rest = omega (arith, s.fits, i.shorter) in
    subst (Is (suc k) (suc p) l) e (record {
      scanned = rw (t.ok, c) i.scanned;
      few = omega (arith, i.few);
      shorter = omega (arith, i.shorter);
      suffix = i.suffix ∙ drop-drop (length (drop n l) - length g.rest) n l ∙ ap (λ (x : ℕ). drop x l) m;
      frame = λ js y. t.frame ∙ ap (item_front (some (item_of q))) (i.frame js y);
    })

pub found-is : (k p : ℕ) (l : List ℕ) (f : Found) → found k p l ≡ some f → Is k p l f
unfolding found
found-is zero zero l f e = none_read 0 l f e
found-is zero (suc p) l f e = absurd (none-some e)
found-is (suc k) zero l f e = none_read (suc k) l f e
found-is (suc k) (suc p) l f e = first (part_of l) refl (λ q. found-is k (p + q.count) (drop q.size l)) e
  where
    by : (q : Part) → Some q ≡ part_of l → (o : Maybe Found) → ((g : Found) → o ≡ some g → Is k (p + q.count) (drop q.size l) g) →
        longer (item_of q) o ≡ some f → Is (suc k) (suc p) l f
    by q is none h e = absurd (none-some e)
    by q is (some g) h e = one-read k p l q f g is (h g refl) (cc)

    first : (o : Option Part) → o ≡ part_of l →
        ((q : Part) (g : Found) → found k (p + q.count) (drop q.size l) ≡ some g → Is k (p + q.count) (drop q.size l) g) → behind o (λ q. longer (item_of q) (found k (p + q.count) (drop q.size l))) ≡ some f →
        Is (suc k) (suc p) l f
    first None is h e = absurd (none-some e)
    first (Some q) is h e = by q is (found k (p + q.count) (drop q.size l)) (h q) e

-- The first item of a frame whose fields are in their sets is found.
record IsThis (l : List ℕ) (i : Item) (is : List Item) (o : Option Part) : Type 0 where
  part : Part
  there : o ≡ Some part
  item : item_of part ≡ i
  wants : part.count ≡ arity i
  others : frame_items (drop part.size l) ≡ some is

starts : (l : List ℕ) (i : Item) (is : List Item) → frame_items l ≡ some (i ∷ is) → item_ok i ≡ true → IsThis l i is (part_of l)
unfolding part_of frame_items
starts [] i is e h = let z : ◌≡◌ {A = ℕ} 0 1 = cc in absurd (omega arith)
starts (zero ∷ []) i is e h = absurd (none-some e)
starts (zero ∷ x ∷ l) i is e h =
    let w = first-item (some (variable x)) (frame_items l) (i ∷ is) e in
    let v : variable x ≡ i = cc (w.first, w.joined) in
    let r : frame_items l ≡ some is = cc (w.others, w.joined) in
    let k : ltb x variable_limit ≡ true = ap item_ok v ∙ h in
    rw k (record { part = record { size = 2; kind = 0; field = x; count = 0 }; there = refl; item = v; wants = ap arity v; others = r })
starts (suc zero ∷ []) i is e h = absurd (none-some e)
starts (suc zero ∷ a ∷ []) i is e h = absurd (none-some e)
starts (suc zero ∷ a ∷ b ∷ []) i is e h = absurd (none-some e)
starts (suc zero ∷ a ∷ b ∷ c ∷ l) i is e h =
    let w = first-item (some (operator (two a b) c)) (frame_items l) (i ∷ is) e in
    let v : operator (two a b) c ≡ i = cc (w.first, w.joined) in
    let r : frame_items l ≡ some is = cc (w.others, w.joined) in
    let k : leb c child_limit ≡ true = ap item_ok v ∙ h in
    rw k (record { part = record { size = 4; kind = 1; field = two a b; count = c }; there = refl; item = v; wants = ap arity v; others = r })
starts (suc (suc k) ∷ l) i is e h = absurd (none-some e)

-- items of a frame that are patterns are found
pub record Finds (k p : ℕ) (l : List ℕ) (is js : List Item) : Type 0 where
  pub rest : List ℕ
  pub is_found : found k p l ≡ some (record { items = is; rest = rest })
  pub others : frame_items rest ≡ some js

pub finds : (is js : List Item) (l : List ℕ) (k p : ℕ) → frame_items l ≡ some (is ++ js) → scan is p ≡ true → length is ≤ k → Finds k p l is js
unfolding scan found
finds [] js l k p e s h = record { rest = l; is_found = found-done k p l (eqb-true p 0 s); others = e }
finds (i ∷ is) js l zero p e s h = absurd (omega arith)
finds (i ∷ is) js l (suc k) zero e s h = let z : ◌≡◌ {A = ℕ} 0 1 = cc in absurd (omega arith)
finds (i ∷ is) js l (suc k) (suc p) e s h =
    let b = both (item_ok i) (scan is (arity i + p)) s in
    let t = starts l i (is ++ js) e b.0 in
    let c : arity i + p ≡ p + t.part.count = add_comm (arity i) p ∙ ap (λ (m : ℕ). p + m) (sym t.wants) in
    let f = finds is js (drop t.part.size l) k (p + t.part.count) t.others (ap (scan is) (sym c) ∙ b.1) (omega arith) in
    record {
      rest = f.rest;
      is_found = rw (t.there, f.is_found) (ap (λ (j : Item). some (record { items = j ∷ is; rest = f.rest })) t.item);
      others = f.others;
    }

-- A side is a whole pattern of few items.
pub record ASide (is : List Item) : Type 0 where
  pub pattern : Patterns
  pub is-side : side is ≡ some pattern
  pub spelled : items pattern ≡ is

pub a-side : (is : List Item) → scan is 1 ≡ true → length is ≤ item_limit → ASide is
unfolding side
a-side is s h = by (read_p is) refl (sym (scan-read is 1) ∙ s)
  where
    by : (o : Maybe Patterns) → read_p is ≡ o → is_row 1 o ≡ true → ASide is
    by none e r = let z : ◌≡◌ {A = ℕ} 0 1 = cc in absurd (omega arith)
    by (some q) e r =
        let w = (read-items is q e).spelled in
        record {
          pattern = q;
          is-side = rw (e, eq-eqb (count_p q) 1 (sym (eqb-true 1 (count_p q) r)), le-leb (length (items q)) item_limit (omega (arith, ap length w))) refl;
          spelled = sym w;
        }

pub side-scan : (is : List Item) (q : Patterns) → side is ≡ some q → (scan is 1 ≡ true) × (length is ≤ item_limit)
unfolding side
side-scan is q e = by (read_p is) refl e
  where
    one : (r : Patterns) → read_p is ≡ some r → (b : Bool) → eqb (count_p r) 1 && leb (length (items r)) item_limit ≡ b → side_if b r ≡ some q →
        (scan is 1 ≡ true) × (length is ≤ item_limit)
    one r d false t e = absurd (none-some e)
    one r d true t e =
        let b = both (eqb (count_p r) 1) (leb (length (items r)) item_limit) t in
        let w = ap length (read-items is r d).spelled in
        (scan-read is 1 ∙ ap (is_row 1) d ∙ eq-eqb 1 (count_p r) (sym (eqb-true (count_p r) 1 b.0)), omega (arith, leb-true (length (items r)) item_limit b.1))

    by : (o : Maybe Patterns) → read_p is ≡ o → one_pattern o ≡ some q → (scan is 1 ≡ true) × (length is ≤ item_limit)
    by none d e = absurd (none-some e)
    by (some r) d e = one r d _ refl e
