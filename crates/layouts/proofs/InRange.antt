-- The bytes that accepted entries are given are bytes: each is below 256, where each word is below 65,536 (16 bits).
use Prim.Native.Nat.{ℕ, zero, suc, ◌+◌, ◌*◌, ◌<◌}
use mathlib.Core.Bool.{Bool, true, false, ◌&&◌}
use mathlib.Core.List.{List, [], ◌∷◌, ◌++◌}
use mathlib.Core.Option.{Option, none, some}
use mathlib.Core.Path.{◌≡◌, refl, subst}
use native.Mathlib.Omega.{arith}
use borrow.Author.Tests.{leb-true, ltb-true}
use lib.Dec.{leb}
use lib.ListN.{length, get_or}
use Rattle.model.specs.declared.Connection.{Connection}
use Rattle.model.specs.declared.Justification.{Justification}
use Rattle.model.specs.Limits.{child_limit, variable_limit}
use Rattle.model.specs.Pattern.{Item, variable, operator, Patterns, items}
use Rattle.model.specs.Rule.{Rule, rule_of}
use Rattle.model.specs.Node.{Node}
use Rattle.model.specs.Tables.{children_at, node_words, item_words, left_at, right_at, rule_words, next_at, why_at, by_rule_at, forward_at, connection_words, only_if, words_from, node_at, node_entry, item_of, item_front, items_from, side_at, rule_entry, why_of, connection_of, connection_entry}
use Rattle.rule_table.proofs.Patterns.{none-some, Fields, narrow-fields}
use Rattle.rule_table.proofs.Sides.{side-is}
use Rattle.layouts.specs.Bytes.{high, low, pairs, bytes_if, node_bytes, item_bytes, slot_bytes, is_pattern, rule_bytes, connection_bytes, AreBytes}

-- every word has 16 bits
abbrev pub AreWords : List ℕ → Type 0
AreWords ws = (j : ℕ) → get_or ws j 0 < 65536

append-bytes : (xs ys : List ℕ) → AreBytes xs → AreBytes ys → AreBytes (xs ++ ys)
unfolding AreBytes
append-bytes [] ys a b = b
append-bytes (x ∷ xs) ys a b = (a.0, append-bytes xs ys a.1 b)

module _ (ws : List ℕ) (w : AreWords ws) where
  pairs-bytes : (n at : ℕ) → AreBytes (pairs (words_from ws at n))
  unfolding AreBytes pairs words_from
  pairs-bytes zero at = tt
  pairs-bytes (suc n) at = (omega (arith, w at), (omega arith, pairs-bytes n (suc at)))

  pub node-bytes : (i : ℕ) (e : Node) → node_entry ws i ≡ some e → AreBytes (node_bytes ws i)
  unfolding node_entry node_bytes AreBytes
  node-bytes i e p = by (leb (i * node_words + node_words) (length ws)) (leb c child_limit) refl p
    where
      c : ℕ
      c = get_or ws (i * node_words + 1) 0

      o : ℕ
      o = get_or ws (i * node_words) 0

      by : (s t : Bool) → leb c child_limit ≡ t → only_if (s && t) (some (node_at ws i)) ≡ some e
          → AreBytes (bytes_if s (high o ∷ low o ∷ c ∷ pairs (words_from ws (i * node_words + children_at) c)))
      by false t h q = absurd (none-some q)
      by true false h q = absurd (none-some q)
      by true true h q = (omega (arith, w (i * node_words)), (omega arith, (omega (arith, leb-true c child_limit h), pairs-bytes c (i * node_words + children_at))))

  -- the fields of a connection's justification
  why-kind : (k r f : ℕ) (j : Justification) → why_of k r f ≡ some j → (k < 2) × (f < 2)
  why-kind zero zero zero j p = (omega arith, omega arith)
  why-kind zero zero (suc f) j p = absurd (none-some p)
  why-kind zero (suc r) f j p = absurd (none-some p)
  why-kind (suc zero) r zero j p = (omega arith, omega arith)
  why-kind (suc zero) r (suc zero) j p = (omega arith, omega arith)
  why-kind (suc zero) r (suc (suc f)) j p = absurd (none-some p)
  why-kind (suc (suc k)) r f j p = absurd (none-some p)

  pub connection-bytes : (i : ℕ) (e : Connection) → connection_entry ws i ≡ some e → AreBytes (connection_bytes ws i)
  unfolding connection_entry connection_bytes AreBytes
  connection-bytes i e p = by (leb (at + connection_words) (length ws)) (why_of k r f) refl p
    where
      at : ℕ
      at = i * connection_words

      c : ℕ
      c = get_or ws at 0

      n : ℕ
      n = get_or ws (at + next_at) 0

      k : ℕ
      k = get_or ws (at + why_at) 0

      r : ℕ
      r = get_or ws (at + by_rule_at) 0

      f : ℕ
      f = get_or ws (at + forward_at) 0

      by : (b : Bool) (y : Option Justification) → why_of k r f ≡ y → only_if b (connection_of c n y) ≡ some e
          → AreBytes (bytes_if b (high c ∷ low c ∷ high n ∷ low n ∷ k ∷ high r ∷ low r ∷ f ∷ []))
      by false y h q = absurd (none-some q)
      by true none h q = absurd (none-some q)
      by true (some j) h q =
          let s = why-kind k r f j h in
          (omega (arith, w at), (omega arith, (omega (arith, w (at + next_at)), (omega arith, (omega (arith, s.0), (omega (arith, w (at + by_rule_at)), (omega arith, (omega (arith, s.1), tt))))))))

  -- a slot of a known kind, its field in its set, in front of others
  slot-bytes : (k v c : ℕ) → v < 65536 → (o : Option (List Item)) (is : List Item) → item_front (item_of k v c) o ≡ some is → Fields is
      → (rest : List ℕ) → ((js : List Item) → o ≡ some js → Fields js → AreBytes rest) → AreBytes (item_bytes k v c ++ rest)
  unfolding AreBytes Fields
  slot-bytes zero v c h none is p g rest f = absurd (none-some p)
  slot-bytes zero v c h (some js) is p g rest f =
      let x : is ≡ variable v ∷ js = cc in
      let y : Fields (variable v ∷ js) = subst Fields x g in
      (omega arith, (omega (arith, ltb-true v variable_limit y.0), f js refl y.1))
  slot-bytes (suc zero) v c h none is p g rest f = absurd (none-some p)
  slot-bytes (suc zero) v c h (some js) is p g rest f =
      let x : is ≡ operator v c ∷ js = cc in
      let y : Fields (operator v c ∷ js) = subst Fields x g in
      (omega arith, (omega arith, (omega arith, (omega (arith, leb-true c child_limit y.0), f js refl y.1))))
  slot-bytes (suc (suc k)) v c h o is p g rest f = absurd (none-some p)

  slots-bytes : (n at : ℕ) (is : List Item) → items_from ws at n ≡ some is → Fields is → AreBytes (slot_bytes ws at n)
  unfolding AreBytes slot_bytes items_from
  slots-bytes zero at is p g = tt
  slots-bytes (suc n) at is p g =
      slot-bytes (get_or ws at 0) (get_or ws (at + 1) 0) (get_or ws (at + 2) 0) (w (at + 1)) (items_from ws (at + item_words) n) is p g
      (slot_bytes ws (at + item_words) n) (slots-bytes n (at + item_words))

  side-bytes : (at n : ℕ) (q : Patterns) → side_at ws at n ≡ some q → AreBytes (slot_bytes ws at n)
  side-bytes at n q p = let s = side-is ws at n q p in slots-bytes n at (items q) s.spelled (narrow-fields q s.narrow)

  pub rule-bytes : (i : ℕ) (e : Rule) → rule_entry ws i ≡ some e → AreBytes (rule_bytes ws i)
  unfolding rule_entry rule_bytes AreBytes
  rule-bytes i e p = by (leb (at + rule_words) (length ws)) (side_at ws la lc) refl (side_at ws ra rc) refl p
    where
      at : ℕ
      at = i * rule_words

      n : ℕ
      n = get_or ws at 0

      la : ℕ
      la = at + left_at

      lc : ℕ
      lc = get_or ws (at + 1) 0

      ra : ℕ
      ra = at + right_at

      rc : ℕ
      rc = get_or ws (at + 2) 0

      by : (b : Bool) (o : Option Patterns) → side_at ws la lc ≡ o → (q : Option Patterns) → side_at ws ra rc ≡ q → only_if b (rule_of n o q) ≡ some e
          → AreBytes (bytes_if (b && is_pattern o) (high n ∷ low n ∷ (slot_bytes ws la lc ++ slot_bytes ws ra rc)))
      by false o l q r h = absurd (none-some h)
      by true none l q r h = absurd (none-some h)
      by true (some x) l none r h = absurd (none-some h)
      by true (some x) l (some y) r h =
          (omega (arith, w at), (omega arith, append-bytes (slot_bytes ws la lc) (slot_bytes ws ra rc) (side-bytes la lc x l) (side-bytes ra rc y r)))
