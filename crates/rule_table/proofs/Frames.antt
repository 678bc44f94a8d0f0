-- A frame's items are two whole patterns, one behind the other: so they say the rule of the entry that has them as its sides.
-- Assumes nothing.
use Prim.Native.Nat.{ℕ}
use mathlib.Core.Bool.{true}
use mathlib.Core.List.{List, ◌++◌}
use mathlib.Core.Option.{Option, none, some}
use mathlib.Core.Path.{◌≡◌, refl, ap, sym, ◌∙◌}
use native.Mathlib.Omega.{arith}
use borrow.Author.Tests.{eqb-true, eq-eqb}
use Rattle.model.specs.Pattern.{Item, Patterns, count_p, items, CutP, cut_p, read_p}
use Rattle.model.specs.Rule.{Rule, one_pattern, side, rule_of}
use Rattle.model.specs.Frame.{rule_by, rule_cut, rule_items}
use Rattle.rule_table.proofs.Patterns.{none-some, scan, is_row, scan-read, cut-is, read-items, join_p, join_to, cut-join, read-front, items-read}

-- the first pattern of a row, cut off
module _ (n : ℕ) (l : Patterns) (e : count_p l ≡ 1) where
  cut-first : (r : Patterns) → cut_p 1 (join_p l r) ≡ some (record { front = l; back = r })
  cut-first r = ap (λ (c : ℕ). cut_p c (join_p l r)) (sym e) ∙ cut-join l r

  sides-read : (r : Option Patterns) → rule_cut n (join_to l r) ≡ rule_of n (one_pattern (some l)) (one_pattern r)
  sides-read none = sym (no-right (one_pattern (some l)))
    where
      no-right : (o : Option Patterns) → rule_of n o none ≡ none
      no-right none = refl
      no-right (some q) = refl
  sides-read (some r) = rw (cut-first r)

-- the items of a whole pattern and those behind them are a rule where both are sides
row-sides : (n : ℕ) (ls rs : List Item) (o : Option Patterns) → read_p ls ≡ o → is_row 1 o ≡ true
    → rule_items n (some (ls ++ rs)) ≡ rule_of n (side ls) (side rs)
unfolding side
row-sides n ls rs none e h = let z : ◌≡◌ {A = ℕ} 0 1 = cc in absurd (omega arith)
row-sides n ls rs (some l) e h =
    let w = read-items ls l e in
    let read : read_p (ls ++ rs) ≡ join_to l (read_p rs) = ap (λ (is : List Item). read_p (is ++ rs)) w.spelled ∙ read-front l w.narrow rs in
    rw (read, e) (sides-read n l (sym (eqb-true 1 (count_p l) h)) (read_p rs))

pub frame-sides : (n : ℕ) (ls rs : List Item) → scan ls 1 ≡ true
    → rule_items n (some (ls ++ rs)) ≡ rule_of n (side ls) (side rs)
frame-sides n ls rs h = row-sides n ls rs (read_p ls) refl (sym (scan-read ls 1) ∙ h)

-- and items that are a rule begin with those of a whole pattern
pub record Split (is : List Item) : Type 0 where
  pub left : List Item
  pub right : List Item
  pub joined : left ++ right ≡ is
  pub whole : scan left 1 ≡ true

module _ (n : ℕ) (is : List Item) (r : Rule) where
  cut-split : (q : Patterns) → read_p is ≡ some q → (p : Option CutP) → cut_p 1 q ≡ p → rule_by n p ≡ some r → Split is
  cut-split q e none c h = absurd (none-some h)
  cut-split q e (some p) c h =
      let w = read-items is q e in
      let d = cut-is 1 q p c in
      let read = items-read p.front (d.narrow w.narrow).0 in
      record {
        left = items p.front;
        right = items p.back;
        joined = sym (w.spelled ∙ d.spelled);
        whole = scan-read (items p.front) 1 ∙ ap (is_row 1) read ∙ eq-eqb 1 (count_p p.front) (sym d.counted);
      }

  row-split : (o : Option Patterns) → read_p is ≡ o → rule_cut n o ≡ some r → Split is
  row-split none e h = absurd (none-some h)
  row-split (some q) e h = cut-split q e (cut_p 1 q) refl h

  pub frame-split : rule_items n (some is) ≡ some r → Split is
  frame-split h = row-split (read_p is) refl h
