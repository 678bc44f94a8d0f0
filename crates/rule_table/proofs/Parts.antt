-- Words that are alike say the same: slots, sides and entries of a part are those of the table that it is cut from.
-- Assumes nothing.
use Prim.Native.Nat.{ℕ, zero, suc, ◌+◌, ◌*◌, ◌≤◌, ◌<◌}
use mathlib.Core.List.{List}
use mathlib.Core.Option.{Option}
use mathlib.Core.Path.{◌≡◌, refl, ◌∙◌}
use native.Mathlib.Decide.{dec_le}
use native.Mathlib.Omega.{arith}
use borrow.Author.Tests.{le-leb, lt-leb}
use lib.ListN.{length, get_or, take, drop, length-take, length-drop}
use lib.Seq.{get_or-take, get_or-drop}
use Rattle.model.specs.Limits.{item_limit}
use Rattle.model.specs.Pattern.{Patterns, items}
use Rattle.model.specs.Rule.{Rule, rule_of}
use Rattle.model.specs.Tables.{items_from, side_at, rule_words, rule_entry, item_words, left_at, right_at, side_words}
use Rattle.rule_table.specs.Slots.{PatternsAt}
use Rattle.rule_table.specs.Entries.{entry_of}
use Rattle.rule_table.proofs.Sides.{SideIs, items-length}

-- the m words from a on and those from b on are equal
abbrev pub Alike : List ℕ → ℕ → List ℕ → ℕ → ℕ → Type 0
Alike ws a ws' b m = (k : ℕ) → k < m → get_or ws (a + k) 0 ≡ get_or ws' (b + k) 0

-- the rule that the words of an entry say, from a place on
abbrev pub rule_from : List ℕ → ℕ → Option Rule
rule_from ws at = rule_of (get_or ws at 0) (side_at ws (at + left_at) (get_or ws (at + 1) 0)) (side_at ws (at + right_at) (get_or ws (at + 2) 0))

module _ (ws ws' : List ℕ) (a b m : ℕ) (same : Alike ws a ws' b m) where
  word : (k i j : ℕ) → k < m → i ≡ a + k → j ≡ b + k → get_or ws i 0 ≡ get_or ws' j 0
  word k i j h e f = rw (e, f) (same k h)

  pub items_alike : (n k i j : ℕ) → k + n * item_words ≤ m → i ≡ a + k → j ≡ b + k → items_from ws i n ≡ items_from ws' j n
  unfolding items_from
  items_alike zero k i j h e f = refl
  items_alike (suc n) k i j h e f =
      rw (
        word k i j (omega arith) e f,
        word (k + 1) (i + 1) (j + 1) (omega arith) (omega arith) (omega arith),
        word (k + 2) (i + 2) (j + 2) (omega arith) (omega arith) (omega arith),
        items_alike n (k + item_words) (i + item_words) (j + item_words) (omega arith) (omega arith) (omega arith),
      )

  side-alike : (k i j n : ℕ) → k + side_words ≤ m → i ≡ a + k → j ≡ b + k → side_at ws i n ≡ side_at ws' j n
  unfolding side_at
  side-alike k i j n h e f =
      elim (dec_le n item_limit) [
        | yes l ↦ rw (le-leb n item_limit l, items_alike n k i j (omega arith) e f)
        | no l ↦ rw (lt-leb n item_limit (omega arith))
      ]

  pub rule-alike : rule_words ≤ m → rule_from ws a ≡ rule_from ws' b
  rule-alike h =
      rw (
        word 0 a b (omega arith) (omega arith) (omega arith),
        word 1 (a + 1) (b + 1) (omega arith) refl refl,
        word 2 (a + 2) (b + 2) (omega arith) refl refl,
        side-alike left_at (a + left_at) (b + left_at) (get_or ws' (b + 1) 0) (omega arith) refl refl,
        side-alike right_at (a + right_at) (b + right_at) (get_or ws' (b + 2) 0) (omega arith) refl refl,
      )

-- a part is alike
pub part-alike : (ws : List ℕ) (at m : ℕ) → Alike (take m (drop at ws)) 0 ws at m
part-alike ws at m k h =
    let e : 0 + k ≡ k = omega arith in
    rw e (get_or-take m (drop at ws) k 0 h ∙ get_or-drop at ws k 0)

-- an entry that stands there whole, and one by itself
pub entry_whole : (ws : List ℕ) (i : ℕ) → i * rule_words + rule_words ≤ length ws → rule_entry ws i ≡ rule_from ws (i * rule_words)
unfolding rule_entry
entry_whole ws i h = rw (le-leb _ _ h)

pub entry-alone : (es : List ℕ) → length es ≡ rule_words → entry_of es ≡ rule_from es 0
unfolding entry_of rule_entry
entry-alone es h = rw h

-- a side spells its pattern in a part of the table that holds its slots
pub part-spells : (ws : List ℕ) (at n : ℕ) (q : Patterns) → SideIs ws at n q → (m : ℕ) → at + m ≤ length ws → n * item_words ≤ m
    → PatternsAt (take m (drop at ws)) 0 1 q
part-spells ws at n q s m r h =
    let l = items-length ws n at (items q) s.spelled in
    let d : length (take m (drop at ws)) ≡ m = simp (length-take, length-drop) (omega arith) in
    let same = items_alike (take m (drop at ws)) ws 0 at m (part-alike ws at m) n 0 0 at (omega arith) (omega arith) (omega arith) in
    record {
      narrow = s.narrow;
      counted = s.counted;
      room = omega arith;
      spelled = rw l (same ∙ s.spelled);
    }
