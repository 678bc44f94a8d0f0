-- Rows of patterns one behind the other, and the item slots that hold them.
-- Assumes nothing.
use Prim.Native.Nat.{ℕ, suc, ◌+◌, ◌≤◌}
use mathlib.Core.List.{List, ◌∷◌, ◌++◌, append_assoc}
use mathlib.Core.Option.{Option, some}
use Rattle.std.specs.Prelude.{Some}
use mathlib.Core.Path.{◌≡◌, refl, ap, ◌∙◌}
use native.Mathlib.Nat.{zero-add, suc-add}
use native.Mathlib.Omega.{arith}
use borrow.Author.Tests.{lt-ltb, le-leb}
use lib.ListN.{length}
use Rattle.model.specs.Limits.{child_limit, variable_limit}
use Rattle.model.specs.Term.{count, join}
use Rattle.model.specs.Pattern.{Item, variable, operator, Patterns, no_patterns, var, app, count_p, items, NarrowP, Substitution, inst}
use Rattle.model.specs.Tables.{item_words, item_front, items_from}
use Rattle.rule_table.specs.declared.Item.TheVariants.{Variable, Operator}
use Rattle.rule_table.specs.Slots.{item_at, slot_of, PatternsAt}
use Rattle.rule_table.proofs.Patterns.{join_p}
use Rattle.rule_table.proofs.Sides.{first-item}

-- rows of patterns one behind the other
pub count_p-join : (k s : Patterns) → count_p (join_p k s) ≡ count_p k + count_p s
unfolding join_p count_p
count_p-join no_patterns s = rw zero-add
count_p-join (var x r) s = rw (suc-add, count_p-join r s)
count_p-join (app o k r) s = rw (suc-add, count_p-join r s)

pub items-join : (k s : Patterns) → items (join_p k s) ≡ items k ++ items s
unfolding join_p items
items-join no_patterns s = refl
items-join (var x r) s = rw (items-join r s)
items-join (app o k r) s = rw (items-join r s, append_assoc)

pub narrow_p-join : (k s : Patterns) → NarrowP k → NarrowP s → NarrowP (join_p k s)
unfolding join_p NarrowP
narrow_p-join no_patterns s g h = h
narrow_p-join (var x r) s g h = (g.0, narrow_p-join r s g.1 h)
narrow_p-join (app o k r) s g h = (g.0, g.1, narrow_p-join r s g.2 h)

pub inst-join : (σ : Substitution) (k s : Patterns) → inst σ (join_p k s) ≡ join (inst σ k) (inst σ s)
unfolding join_p join inst
inst-join σ no_patterns s = refl
inst-join σ (var x r) s = rw (inst-join σ r s)
inst-join σ (app o k r) s = rw (inst-join σ r s)

pub count-inst : (σ : Substitution) (q : Patterns) → count (inst σ q) ≡ count_p q
unfolding inst count count_p
count-inst σ no_patterns = refl
count-inst σ (var x s) = ap suc (count-inst σ s)
count-inst σ (app o k s) = ap suc (count-inst σ s)

-- the first of the slots, and those behind it
record FirstSlot (i : Option Item) (r : Option (List Item)) (j : Item) (is : List Item) : Type 0 where
  here : i ≡ some j
  behind : r ≡ some is

first : (i : Option Item) (r : Option (List Item)) (j : Item) (is : List Item) → item_front i r ≡ some (j ∷ is) → FirstSlot i r j is
first i r j is e =
    let f = first-item i r (j ∷ is) e in
    let joined = f.joined in
    let p : f.item ≡ j = cc in
    let q : f.rest ≡ is = cc in
    record { here = f.first ∙ ap some p; behind = f.others ∙ ap some q }

-- a row that begins with a variable
pub record Var (ps : List ℕ) (item n x : ℕ) (s : Patterns) : Type 0 where
  pub room : item + item_words ≤ length ps
  pub slot : slot_of (item_at ps item) ≡ Some (Variable x)
  pub behind : PatternsAt ps (item + item_words) n s

pub row-var : (ps : List ℕ) (item n x : ℕ) (s : Patterns) → PatternsAt ps item (suc n) (var x s) → Var ps item n x s
unfolding items items_from count_p NarrowP
row-var ps item n x s h =
    let f = first (item_at ps item) (items_from ps (item + item_words) (length (items s))) (variable x) (items s) h.spelled in
    record {
      room = omega (arith, h.room);
      slot = ap slot_of f.here ∙ rw (lt-ltb x variable_limit h.narrow.0);
      behind = record {
        narrow = h.narrow.1;
        counted = omega (arith, h.counted);
        room = omega (arith, h.room);
        spelled = f.behind;
      };
    }

-- a row that begins with an operator: its children and the rest follow
pub record App (ps : List ℕ) (item n o : ℕ) (k s : Patterns) : Type 0 where
  pub room : item + item_words ≤ length ps
  pub slot : slot_of (item_at ps item) ≡ Some (Operator (record { 0 = o }) (count_p k))
  pub below : PatternsAt ps (item + item_words) (count_p k + n) (join_p k s)

pub row-app : (ps : List ℕ) (item n o : ℕ) (k s : Patterns) → PatternsAt ps item (suc n) (app o k s) → App ps item n o k s
unfolding items items_from count_p NarrowP
row-app ps item n o k s h =
    let is = items k ++ items s in
    let f = first (item_at ps item) (items_from ps (item + item_words) (length is)) (operator o (count_p k)) is h.spelled in
    let c : count_p s ≡ n = omega (arith, h.counted) in
    record {
      room = omega (arith, h.room);
      slot = ap slot_of f.here ∙ rw (le-leb (count_p k) child_limit h.narrow.0);
      below = record {
        narrow = narrow_p-join k s h.narrow.1 h.narrow.2;
        counted = rw (count_p-join, c);
        room = rw items-join (omega (arith, h.room));
        spelled = rw items-join f.behind;
      };
    }

-- what the code asks for, from a row
pub row_room : (ps : List ℕ) (item n : ℕ) (q : Patterns) → PatternsAt ps item (suc n) q → item + item_words ≤ length ps
unfolding count_p
row_room ps item n no_patterns h = absurd (omega (arith, h.counted))
row_room ps item n (var x s) h = (row-var ps item n x s h).room
row_room ps item n (app o k s) h = (row-app ps item n o k s h).room
