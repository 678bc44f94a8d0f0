-- Laws of item slots: one turn of each pass over them, and that the passes say what the sides of a rule are.
-- Assumes nothing.
use Prim.Native.Nat.{ℕ, zero, suc, ◌+◌, ◌*◌, ◌-◌, ◌≤◌, ◌<◌}
use mathlib.Core.Bool.{Bool, true, false, ◌&&◌, ◌||◌}
use mathlib.Core.List.{List}
use mathlib.Core.Option.{Option as Maybe, none, some}
use Rattle.std.specs.Prelude.{Option, Some, None}
use mathlib.Core.Path.{◌≡◌, refl, ap, subst}
use native.Mathlib.Nat.{zero-add, add_comm}
use native.Mathlib.Omega.{arith}
use borrow.Author.Tests.{leb-true, ltb-true}
use lib.Dec.{leb, ltb, eqb}
use Rattle.model.specs.declared.OpNo.{OpNo}
use Rattle.model.specs.Limits.{child_limit, variable_limit}
use Rattle.model.specs.Pattern.{Item, variable, operator}
use Rattle.model.specs.Tables.{item_front, items_from, item_words}
use Rattle.rule_table.specs.declared.Item.{Item as Held}
use Rattle.rule_table.specs.declared.Item.TheVariants.{Variable, Operator}
use Rattle.rule_table.specs.Slots.{item_at, slot_if, slot_of, holds, holds_from, known, known_from}
use Rattle.rule_table.proofs.Patterns.{scan}

-- a slot's variable is below 16, and its operator has at most 8 children
abbrev Small : Option Held → Type 0
Small (Some (Variable x)) = x < variable_limit
Small (Some (Operator o c)) = c ≤ child_limit
Small None = Unit {0}

small-var : (b : Bool) (x : ℕ) → ltb x variable_limit ≡ b → Small (slot_if b (Variable x))
small-var true x e = ltb-true x variable_limit e
small-var false x e = tt

small-op : (b : Bool) (o : OpNo) (c : ℕ) → leb c child_limit ≡ b → Small (slot_if b (Operator o c))
small-op true o c e = leb-true c child_limit e
small-op false o c e = tt

small : (i : Maybe Item) → Small (slot_of i)
small none = tt
small (some (variable x)) = small-var (ltb x variable_limit) x refl
small (some (operator o c)) = small-op (leb c child_limit) _ c refl

pub variable-small : (i : Maybe Item) (x : ℕ) → slot_of i ≡ Some (Variable x) → x < variable_limit
variable-small i x e = subst Small e (small i)

pub operator-small : (i : Maybe Item) (o : OpNo) (c : ℕ) → slot_of i ≡ Some (Operator o c) → c ≤ child_limit
operator-small i o c e = subst Small e (small i)

-- the walk over items that slots say, and how it goes on behind a slot
abbrev pub scanned : Maybe (List Item) → ℕ → Bool
scanned none n = false
scanned (some is) n = scan is n

abbrev pub behind : Option Held → Maybe (List Item) → ℕ → Bool
behind (Some (Variable x)) r n = scanned r n
behind (Some (Operator o c)) r n = scanned r (n + c)
behind None r n = false

behind-var : (b : Bool) (x n : ℕ) (is : List Item) → b && scan is (0 + n) ≡ behind (slot_if b (Variable x)) (some is) n
behind-var true x n is = ap (scan is) (zero-add n)
behind-var false x n is = refl

behind-op : (b : Bool) (o : OpNo) (c n : ℕ) (is : List Item) → b && scan is (c + n) ≡ behind (slot_if b (Operator o c)) (some is) n
behind-op true o c n is = ap (scan is) (add_comm c n)
behind-op false o c n is = refl

no_items : (s : Option Held) (n : ℕ) → false ≡ behind s none n
no_items (Some (Variable x)) n = refl
no_items (Some (Operator o c)) n = refl
no_items None n = refl

scan-front : (i : Maybe Item) (r : Maybe (List Item)) (n : ℕ) → scanned (item_front i r) (suc n) ≡ behind (slot_of i) r n
unfolding scan
scan-front none r n = refl
scan-front (some i) none n = no_items (slot_of (some i)) n
scan-front (some (variable x)) (some is) n = behind-var (ltb x variable_limit) x n is
scan-front (some (operator o c)) (some is) n = behind-op (leb c child_limit) _ c n is

-- the turn behind the first k of n slots, and the end of the walk
module _ (ws : List ℕ) (at n k : ℕ) (h : k < n) where
  here : n - k ≡ suc (n - (k + 1))
  here = omega arith

  next : at + item_words * (k + 1) ≡ at + item_words * k + item_words
  next = omega arith

  pub scan-turn : (p : ℕ) → 0 < p → scanned (items_from ws (at + item_words * k) (n - k)) p
      ≡ behind (slot_of (item_at ws (at + item_words * k))) (items_from ws (at + item_words * (k + 1)) (n - (k + 1))) (p - 1)
  unfolding items_from
  scan-turn zero l = absurd (omega arith)
  scan-turn (suc p) l =
      let d : suc p - 1 ≡ p = omega arith in
      rw (here, next, d) (scan-front (item_at ws (at + item_words * k)) (items_from ws (at + item_words * k + item_words) (n - (k + 1))) p)

  pub scan-over : (p : ℕ) → p ≡ 0 → scanned (items_from ws (at + item_words * k) (n - k)) p ≡ false
  unfolding items_from scan
  scan-over p e = rw (e, here) (front-over (item_at ws (at + item_words * k)) (items_from ws (at + item_words * k + item_words) (n - (k + 1))))
    where
      front-over : (i : Maybe Item) (r : Maybe (List Item)) → scanned (item_front i r) 0 ≡ false
      front-over none r = refl
      front-over (some i) none = refl
      front-over (some i) (some is) = refl

  -- one turn of each pass over the variables
  pub holds-turn : (x : ℕ) → holds_from ws (at + item_words * k) (n - k) x
      ≡ holds x (slot_of (item_at ws (at + item_words * k))) || holds_from ws (at + item_words * (k + 1)) (n - (k + 1)) x
  unfolding holds_from
  holds-turn x = rw (here, next)

  pub known-turn : (on : List Bool) → known_from on ws (at + item_words * k) (n - k)
      ≡ known on (slot_of (item_at ws (at + item_words * k))) && known_from on ws (at + item_words * (k + 1)) (n - (k + 1))
  unfolding known_from
  known-turn on = rw (here, next)

pub scan-done : (ws : List ℕ) (at n p : ℕ) → n ≡ 0 → scanned (items_from ws at n) p ≡ eqb p 0
unfolding items_from scan
scan-done ws at n p e = rw e
