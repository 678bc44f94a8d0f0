-- A RULE IN WORDS AND IN ITS FRAME IS THE SAME RULE. A frame does not say how many items a side has: it is read pattern by pattern, so
-- that an entry has a frame where its left items are one whole pattern.
use Prim.Native.Nat.{ℕ, zero, suc, ◌+◌, ◌*◌}
use mathlib.Core.Bool.{Bool, true, false, ◌&&◌}
use mathlib.Core.List.{List, [], ◌∷◌, ◌++◌, append_assoc, append-nil}
use mathlib.Core.Option.{Option, none, some}
use mathlib.Core.Path.{◌≡◌, refl, sym, ap, ◌∙◌}
use borrow.Author.Tests.{eq-eqb}
use lib.Dec.{leb, eqb}
use lib.ListN.{length, get_or}
use Rattle.model.specs.Limits.{item_limit}
use Rattle.model.specs.Pattern.{Item, operator, Patterns, count_p, items, read_p}
use Rattle.model.specs.Rule.{side_if, one_pattern, side, rule_of}
use Rattle.model.specs.Tables.{item_words, left_at, right_at, rule_words, only_if, item_of, item_front, items_from, side_by, side_at, rule_entry}
use Rattle.model.specs.Frame.{frame_items, rule_items, rule_frame}
use Rattle.rule_table.proofs.Patterns.{scan, is_row, scan-read, read-items, items-read}
use Rattle.rule_table.proofs.Sides.{SideIs, items-length, side-is}
use Rattle.rule_table.proofs.Frames.{frame-sides}
use Rattle.layouts.specs.Bytes.{high, low, bytes_if, item_bytes, slot_bytes, is_pattern, rule_bytes}
use Rattle.layouts.proofs.Entries.{word}

-- items and items behind them
abbrev both : Option (List Item) → Option (List Item) → Option (List Item)
both none js = none
both (some is) none = none
both (some is) (some js) = some (is ++ js)

both-front : (i : Option Item) (is js : Option (List Item)) → item_front i (both is js) ≡ both (item_front i is) js
both-front none is js = refl
both-front (some i) none js = refl
both-front (some i) (some is) none = refl
both-front (some i) (some is) (some js) = refl

none-behind : (is : Option (List Item)) → both is (some []) ≡ is
none-behind none = refl
none-behind (some is) = ap some (append-nil is)

none_before : (js : Option (List Item)) → both (some []) js ≡ js
none_before none = refl
none_before (some js) = refl

-- a slot's bytes are its item
item-frame : (k v c : ℕ) (bs : List ℕ) → frame_items (item_bytes k v c ++ bs) ≡ item_front (item_of k v c) (frame_items bs)
unfolding frame_items
item-frame zero v c bs = refl
item-frame (suc zero) v c bs = ap (λ (o : ℕ). item_front (some (operator o c)) (frame_items bs)) (word v)
item-frame (suc (suc k)) v c bs = refl

slots-frame : (ws : List ℕ) (n at : ℕ) (bs : List ℕ) → frame_items (slot_bytes ws at n ++ bs) ≡ both (items_from ws at n) (frame_items bs)
unfolding slot_bytes items_from
slots-frame ws zero at bs = sym (none_before (frame_items bs))
slots-frame ws (suc n) at bs =
    let k = get_or ws at 0 in
    let v = get_or ws (at + 1) 0 in
    let c = get_or ws (at + 2) 0 in
    let rest = slot_bytes ws (at + item_words) n in
    ap frame_items (append_assoc (item_bytes k v c) rest bs)
    ∙ (item-frame k v c (rest ++ bs)
    ∙ (ap (item_front (item_of k v c)) (slots-frame ws n (at + item_words) bs)
    ∙ both-front (item_of k v c) (items_from ws (at + item_words) n) (frame_items bs)))

-- how many items a side may have is asked once: it is as many as the slots that were read
abbrev side_of : Option (List Item) → Option Patterns
side_of none = none
side_of (some is) = side is

too_long : (is : List Item) → leb (length is) item_limit ≡ false → none ≡ side is
unfolding side
too_long is h = by (read_p is) refl
  where
    no : (b : Bool) (q : Patterns) → none ≡ side_if (b && false) q
    no true q = refl
    no false q = refl

    by : (r : Option Patterns) → read_p is ≡ r → none ≡ one_pattern r
    by none e = refl
    by (some q) e = rw (← (read-items is q e).spelled, h) (no (eqb (count_p q) 1) q)

any-length : (ws : List ℕ) (at n : ℕ) → side_at ws at n ≡ side_of (items_from ws at n)
unfolding side_at
any-length ws at n = by (leb n item_limit) refl (items_from ws at n) refl
  where
    by : (b : Bool) → leb n item_limit ≡ b → (is : Option (List Item)) → items_from ws at n ≡ is → side_by b is ≡ side_of is
    by true h is e = (elim is [ none ↦ refl | some js ↦ refl ])
    by false h none e = refl
    by false h (some is) e = too_long is (rw (items-length ws n at is e) h)

right-frame : (ws : List ℕ) (at n : ℕ) → frame_items (slot_bytes ws at n) ≡ items_from ws at n
unfolding frame_items
right-frame ws at n =
    ap frame_items (sym (append-nil (slot_bytes ws at n))) ∙ (slots-frame ws n at [] ∙ none-behind (items_from ws at n))

-- both sides, where the left one is a pattern
sides-frame : (ws : List ℕ) (n la lc ra rc : ℕ) (l : Patterns) → side_at ws la lc ≡ some l
    → rule_items n (frame_items (slot_bytes ws la lc ++ slot_bytes ws ra rc)) ≡ rule_of n (some l) (side_at ws ra rc)
sides-frame ws n la lc ra rc l e =
    ap (rule_items n) frames ∙ (by (items_from ws ra rc) ∙ ap (rule_of n (some l)) (sym (any-length ws ra rc)))
  where
    is : SideIs ws la lc l
    is = side-is ws la lc l e

    frames : frame_items (slot_bytes ws la lc ++ slot_bytes ws ra rc) ≡ both (some (items l)) (items_from ws ra rc)
    frames = slots-frame ws lc la (slot_bytes ws ra rc) ∙ rw (is.spelled, right-frame ws ra rc) refl

    whole : scan (items l) 1 ≡ true
    whole = scan-read (items l) 1 ∙ (ap (is_row 1) (items-read l is.narrow) ∙ eq-eqb 1 (count_p l) (sym is.counted))

    left : side (items l) ≡ some l
    left = sym (any-length ws la lc ∙ ap side_of is.spelled) ∙ e

    by : (js : Option (List Item)) → rule_items n (both (some (items l)) js) ≡ rule_of n (some l) (side_of js)
    by none = refl
    by (some rs) = frame-sides n (items l) rs whole ∙ ap (λ (o : Option Patterns). rule_of n o (side rs)) left

pub rule-frame : (ws : List ℕ) (i : ℕ) → rule_frame (rule_bytes ws i) ≡ rule_entry ws i
unfolding rule_frame rule_bytes rule_entry
rule-frame ws i = by (leb (i * rule_words + rule_words) (length ws)) (side_at ws (i * rule_words + left_at) lc) refl
  where
    n : ℕ
    n = get_or ws (i * rule_words) 0

    lc : ℕ
    lc = get_or ws (i * rule_words + 1) 0

    rc : ℕ
    rc = get_or ws (i * rule_words + 2) 0

    la : ℕ
    la = i * rule_words + left_at

    ra : ℕ
    ra = i * rule_words + right_at

    by : (b : Bool) (o : Option Patterns) → side_at ws la lc ≡ o
        → rule_frame (bytes_if (b && is_pattern o) (high n ∷ low n ∷ (slot_bytes ws la lc ++ slot_bytes ws ra rc)))
        ≡ only_if b (rule_of n o (side_at ws ra rc))
    by false o e = refl
    by true none e = refl
    by true (some l) e =
        ap (λ (m : ℕ). rule_items m (frame_items (slot_bytes ws la lc ++ slot_bytes ws ra rc))) (word n)
        ∙ sides-frame ws n la lc ra rc l e
