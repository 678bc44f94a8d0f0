-- The sides of a rule: the walk over a side's slots finds whether there is one, what a side is, and which variables it has.
-- Assumes nothing.
use Prim.Native.Nat.{ℕ, zero, suc, ◌+◌, ◌*◌, ◌-◌, ◌≤◌, ◌<◌}
use mathlib.Core.Bool.{Bool, true, false, ◌&&◌, ◌||◌}
use mathlib.Core.List.{List, [], ◌∷◌}
use mathlib.Core.Option.{Option as Maybe, none, some}
use Rattle.std.specs.Prelude.{Option, Some, None}
use mathlib.Core.Path.{◌≡◌, refl, ap, sym, subst, ◌∙◌}
use native.Mathlib.Decide.{ℕ_discrete}
use native.Mathlib.Numerals.{unary_clauses}
use native.Mathlib.Omega.{arith}
use borrow.Author.Tests.{eq-eqb, ne_eqb, eqb-true, le-leb, lt-leb, leb-true, ltb-false, ltb-true}
use lib.Dec.{leb, ltb, eqb}
use lib.ListN.{length, get_or}
use Rattle.model.specs.declared.OpNo.{OpNo}
use Rattle.model.specs.Limits.{child_limit, item_limit, variable_limit}
use Rattle.model.specs.Pattern.{Item, variable, operator, Patterns, count_p, items, NarrowP, read_p, stands, bound}
use Rattle.model.specs.Rule.{side_if, one_pattern, side}
use Rattle.model.specs.Tables.{item_front, items_from, side_by, side_at, item_words, side_words}
use Rattle.rule_table.specs.declared.Item.{Item as Held}
use Rattle.rule_table.specs.declared.Item.TheVariants.{Variable, Operator}
use Rattle.rule_table.specs.Slots.{is_side, item_at, slot_if, slot_of, holds, holds_from, Standing, known, known_from}
use Rattle.rule_table.proofs.Patterns.{none-some, item_ok, is_row, scan-read, read-items, Fields, narrow-fields, among, all, stands-among, bound_all}
use Rattle.rule_table.proofs.Slots.{scanned, behind, scan-turn, scan-over, scan-done, operator-small}

-- the n slots from `at` on are a side: they say the items of the one pattern q, whose fields are in their sets
pub record SideIs (ws : List ℕ) (at n : ℕ) (q : Patterns) : Type 0 where
  pub few : n ≤ item_limit
  pub narrow : NarrowP q
  pub counted : count_p q ≡ 1
  pub spelled : items_from ws at n ≡ some (items q)

-- what an item in front of others says
pub record FirstItem (i : Maybe Item) (r : Maybe (List Item)) (is : List Item) : Type 0 where
  pub item : Item
  pub rest : List Item
  pub first : i ≡ some item
  pub others : r ≡ some rest
  pub joined : item ∷ rest ≡ is

pub first-item : (i : Maybe Item) (r : Maybe (List Item)) (is : List Item) → item_front i r ≡ some is → FirstItem i r is
first-item none r is e = absurd (none-some e)
first-item (some i) none is e = absurd (none-some e)
first-item (some i) (some js) is e = record { item = i; rest = js; first = refl; others = refl; joined = cc }

-- n slots say n items
pub items-length : (ws : List ℕ) (n at : ℕ) (is : List Item) → items_from ws at n ≡ some is → length is ≡ n
unfolding items_from
items-length ws zero at is e = let p : [] ≡ is = cc in ap length (sym p)
items-length ws (suc n) at is e =
    let f = first-item (item_at ws at) (items_from ws (at + item_words) n) is e in
    ap length (sym f.joined) ∙ ap suc (items-length ws n (at + item_words) f.rest f.others)

eqb-turn : (m n : ℕ) → eqb m n ≡ eqb n m
eqb-turn m n =
    elim (ℕ_discrete m n) [
      | yes p ↦ rw (eq-eqb m n p, eq-eqb n m (sym p))
      | no p ↦ rw (ne_eqb m n p, ne_eqb n m (λ e. p (sym e)))
    ]

is-side-if : (b : Bool) (q : Patterns) → b ≡ is_side (side_if (b && true) q)
is-side-if true q = refl
is-side-if false q = refl

one-pattern : (is : List Item) → length is ≤ item_limit → (r : Maybe Patterns) → read_p is ≡ r
    → is_row 1 r ≡ is_side (one_pattern r)
one-pattern is h none e = refl
one-pattern is h (some q) e =
    let l = ap length (read-items is q e).spelled in
    rw (le-leb (length (items q)) item_limit (omega arith), eqb-turn 1 (count_p q)) (is-side-if (eqb (count_p q) 1) q)

scan-items : (is : Maybe (List Item)) → ((js : List Item) → is ≡ some js → length js ≤ item_limit)
    → scanned is 1 ≡ is_side (side_by true is)
unfolding side
scan-items none h = refl
scan-items (some is) h = scan-read is 1 ∙ one-pattern is (h is refl) (read_p is) refl

-- the walk finds whether there is a side
pub scan-side : (ws : List ℕ) (at n : ℕ) → n ≤ item_limit → scanned (items_from ws at n) 1 ≡ is_side (side_at ws at n)
unfolding side_at
scan-side ws at n h =
    rw (le-leb n item_limit h) (scan-items (items_from ws at n) (λ js e. let l = items-length ws n at js e in omega arith))

pub side-long : (ws : List ℕ) (at n : ℕ) → item_limit < n → false ≡ is_side (side_at ws at n)
unfolding side_at
side-long ws at n h = rw (lt-leb n item_limit h)

-- what a side is
module _ (ws : List ℕ) (at n : ℕ) (q : Patterns) where
  is_one : (is : List Item) → n ≤ item_limit → items_from ws at n ≡ some is → (r : Patterns) → read_p is ≡ some r → (b : Bool)
      → eqb (count_p r) 1 && leb (length (items r)) item_limit ≡ b → side_if b r ≡ some q → SideIs ws at n q
  is_one is h s r d false e p = absurd (none-some p)
  is_one is h s r d true e p =
      let w = read-items is r d in
      let x : r ≡ q = cc in
      let c = eqb-true (count_p r) 1 (left (eqb (count_p r) 1) _ e) in
      rw (← x) (record { few = h; narrow = w.narrow; counted = c; spelled = s ∙ ap some w.spelled })
    where
      left : (a b : Bool) → a && b ≡ true → a ≡ true
      left true b e = refl
      left false b e = e

  is_read : (is : List Item) → n ≤ item_limit → items_from ws at n ≡ some is → (r : Maybe Patterns) → read_p is ≡ r
      → one_pattern r ≡ some q → SideIs ws at n q
  is_read is h s none d e = absurd (none-some e)
  is_read is h s (some r) d e = is_one is h s r d _ refl e

  is-items : (b : Bool) → leb n item_limit ≡ b → (is : Maybe (List Item)) → items_from ws at n ≡ is → side_by b is ≡ some q
      → SideIs ws at n q
  unfolding side
  is-items false l is s e = absurd (none-some e)
  is-items true l none s e = absurd (none-some e)
  is-items true l (some is) s e = is_read is (leb-true n item_limit l) s (read_p is) refl e

  pub side-is : side_at ws at n ≡ some q → SideIs ws at n q
  unfolding side_at
  side-is e = is-items (leb n item_limit) refl (items_from ws at n) refl e

-- which variables the slots hold
slot-holds : (x y : ℕ) → x < variable_limit → (b : Bool) → ltb y variable_limit ≡ b → holds x (slot_if b (Variable y)) ≡ eqb x y
slot-holds x y h true e = refl
slot-holds x y h false e = sym (ne_eqb x y (λ p. omega (arith, ltb-false y variable_limit e)))

no-variable : (x : ℕ) (o : OpNo) (c : ℕ) (b : Bool) → holds x (slot_if b (Operator o c)) ≡ false
no-variable x o c true = refl
no-variable x o c false = refl

item-holds : (x : ℕ) (i : Item) (is : List Item) → x < variable_limit
    → holds x (slot_of (some i)) || among x is ≡ among x (i ∷ is)
unfolding among
item-holds x (variable y) is h = rw (slot-holds x y h (ltb y variable_limit) refl)
item-holds x (operator o c) is h = rw (no-variable x (record { 0 = o }) c (leb c child_limit))

holds-among : (ws : List ℕ) (x : ℕ) → x < variable_limit → (n at : ℕ) (is : List Item) → items_from ws at n ≡ some is
    → holds_from ws at n x ≡ among x is
unfolding items_from holds_from among
holds-among ws x h zero at is e = let p : [] ≡ is = cc in ap (among x) p
holds-among ws x h (suc n) at is e =
    let f = first-item (item_at ws at) (items_from ws (at + item_words) n) is e in
    ap (λ (i : Maybe Item). holds x (slot_of i) || holds_from ws (at + item_words) n x) f.first
    ∙ ap (λ (b : Bool). holds x (slot_of (some f.item)) || b) (holds-among ws x h n (at + item_words) f.rest f.others)
    ∙ item-holds x f.item f.rest h
    ∙ ap (among x) f.joined

pub holds-stands : (ws : List ℕ) (at n : ℕ) (q : Patterns) (x : ℕ) → SideIs ws at n q → x < variable_limit
    → holds_from ws at n x ≡ stands x q
holds-stands ws at n q x s h = holds-among ws x h n at (items q) s.spelled ∙ sym (stands-among x q)

-- whether each variable that the slots hold is one of those given
module _ (on : List Bool) (f : ℕ → Bool) (same : (x : ℕ) → x < variable_limit → get_or on x false ≡ f x) where
  item-known : (i : Item) (is : List Item) → item_ok i ≡ true → known on (slot_of (some i)) && all f is ≡ all f (i ∷ is)
  unfolding all
  item-known (variable y) is e = rw (e, same y (ltb-true y variable_limit e))
  item-known (operator o c) is e = rw e

  known-all : (ws : List ℕ) (n at : ℕ) (is : List Item) → Fields is → items_from ws at n ≡ some is
      → known_from on ws at n ≡ all f is
  unfolding items_from known_from all Fields
  known-all ws zero at is g e = let p : [] ≡ is = cc in ap (all f) p
  known-all ws (suc n) at is g e =
      let w = first-item (item_at ws at) (items_from ws (at + item_words) n) is e in
      let k : Fields (w.item ∷ w.rest) = subst Fields (sym w.joined) g in
      ap (λ (i : Maybe Item). known on (slot_of i) && known_from on ws (at + item_words) n) w.first
      ∙ ap (λ (b : Bool). known on (slot_of (some w.item)) && b) (known-all ws n (at + item_words) w.rest k.1 w.others)
      ∙ item-known w.item w.rest k.0
      ∙ ap (all f) w.joined

-- "a variable on the right must stand on the left"
pub known-bound : (ws : List ℕ) (a n b m : ℕ) (l r : Patterns) (on : List Bool) → SideIs ws a n l → SideIs ws b m r
    → Standing ws a n on → known_from on ws b m ≡ bound l r
known-bound ws a n b m l r on s t h =
    known-all on (λ x. stands x l) (λ x k. h x k ∙ holds-stands ws a n l x s k) ws m b (items r)
    (narrow-fields r t.narrow) t.spelled
    ∙ sym (bound_all l r)

-- where the walk over a side's slots is, behind the first k: it goes on as the whole goes
pub record Walk (ws : List ℕ) (at n k pending : ℕ) : Type 0 where
  pub few : n ≤ item_limit
  pub room : at + side_words ≤ length ws
  pub slow : pending ≤ 1 + k * child_limit
  pub goes : scanned (items_from ws (at + item_words * k) (n - k)) pending ≡ is_side (side_at ws at n)

pub walk_start : (ws : List ℕ) (at n : ℕ) → n ≤ item_limit → at + side_words ≤ length ws → Walk ws at n 0 1
walk_start ws at n h r = record { few = h; room = r; slow = omega arith; goes = simp unary_clauses (scan-side ws at n h) }

module _ (ws : List ℕ) (at n k pending : ℕ) (w : Walk ws at n k pending) where
  pub walk-over : k < n → pending ≡ 0 → false ≡ is_side (side_at ws at n)
  walk-over h e = sym (scan-over ws at n k h pending e) ∙ w.goes

  pub walk-done : n ≡ k → eqb pending 0 ≡ is_side (side_at ws at n)
  walk-done e = sym (scan-done ws (at + item_words * k) (n - k) pending (omega arith)) ∙ w.goes

  -- one slot, by what it holds
  turn : (s : Option Held) → slot_of (item_at ws (at + item_words * k)) ≡ s → k < n → 0 < pending
      → behind s (items_from ws (at + item_words * (k + 1)) (n - (k + 1))) (pending - 1) ≡ is_side (side_at ws at n)
  turn s e h l =
      ap (λ (x : Option Held). behind x (items_from ws (at + item_words * (k + 1)) (n - (k + 1))) (pending - 1)) (sym e)
      ∙ sym (scan-turn ws at n k h pending l)
      ∙ w.goes

  pub walk-variable : (x : ℕ) → slot_of (item_at ws (at + item_words * k)) ≡ Some (Variable x) → k < n → 0 < pending
      → Walk ws at n (k + 1) (pending - 1)
  walk-variable x e h l = record { few = w.few; room = w.room; slow = omega arith; goes = turn (Some (Variable x)) e h l }

  pub walk-operator : (o : OpNo) (c : ℕ) → slot_of (item_at ws (at + item_words * k)) ≡ Some (Operator o c) → k < n → 0 < pending
      → Walk ws at n (k + 1) (pending - 1 + c)
  walk-operator o c e h l =
      let f = operator-small (item_at ws (at + item_words * k)) o c e in
      record { few = w.few; room = w.room; slow = omega arith; goes = turn (Some (Operator o c)) e h l }

  pub walk-outside : slot_of (item_at ws (at + item_words * k)) ≡ None → k < n → 0 < pending → false ≡ is_side (side_at ws at n)
  walk-outside e h l = turn None e h l
