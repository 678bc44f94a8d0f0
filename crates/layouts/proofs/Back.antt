-- AND BACK: the entry that a frame says, as words of a table, is read as the same entry.
use Prim.Native.Nat.{ℕ, suc, ◌+◌, ◌-◌, ◌*◌, ◌≤◌}
use mathlib.Core.Bool.{Bool, true, false, ◌&&◌}
use mathlib.Core.List.{List, [], ◌∷◌, ◌++◌, append_assoc}
use mathlib.Core.Option.{Option, none, some}
use mathlib.Core.Path.{◌≡◌, refl, sym, ap, subst}
use native.Mathlib.Omega.{arith}
use borrow.Author.Tests.{le-leb, leb-true, eqb-true, eq-eqb}
use lib.Dec.{leb, eqb}
use lib.ListN.{length, get_or, replicate, length-append, length-replicate}
use lib.Seq.{get_or-append-add, get_or-append_seam}
use Rattle.model.specs.declared.Connection.{Connection}
use Rattle.model.specs.declared.Direction.TheVariants.{Forward, Backward}
use Rattle.model.specs.declared.Justification.{Justification}
use Rattle.model.specs.declared.Justification.TheVariants.{Rule as by_rule, Congruence}
use Rattle.model.specs.Limits.{child_limit, item_limit}
use Rattle.model.specs.Pattern.{Item, variable, operator, Patterns, count_p, items, NarrowP, CutP, cut_p, read_p}
use Rattle.model.specs.Rule.{Rule, side_if, one_pattern, side, rule_of}
use Rattle.model.specs.Node.{Node}
use Rattle.model.specs.Tables.{node_words, item_words, side_words, left_at, right_at, rule_words, only_if, words_from, node_at, node_entry, item_of, items_from, side_at, rule_entry, connection_entry}
use Rattle.model.specs.Frame.{twos, node_by, node_frame, frame_items, rule_by, rule_cut, rule_items, rule_frame, connection_frame}
use Rattle.rule_table.proofs.Patterns.{none-some, read-items, cut-is, items-read}
use Rattle.layouts.specs.Words.{padded, words_of_node, item_kind, item_field, item_count, slots_of, words_of_rule, words_of_connection}

-- every connection: its words are read as it
pub connection-words : (c : Connection) → connection_entry (words_of_connection c) 0 ≡ some c
unfolding connection_entry
connection-words c = by c.why
  where
    by : (w : Justification) → connection_entry (words_of_connection (record { current = c.current; next = c.next; why = w })) 0 ≡ some (record { current = c.current; next = c.next; why = w })
    by Congruence = refl
    by (by_rule n Forward) = refl
    by (by_rule n Backward) = refl

-- the words of a run stand where they were put
from-words : (ks pre post : List ℕ) → words_from (pre ++ (ks ++ post)) (length pre) (length ks) ≡ ks
unfolding words_from
from-words [] pre post = refl
from-words (k ∷ ks) pre post =
    let ws = pre ++ (k ∷ (ks ++ post)) in
    let here : get_or ws (length pre) 0 ≡ k = get_or-append_seam pre k (ks ++ post) 0 in
    let next : length (pre ++ (k ∷ [])) ≡ suc (length pre) = omega (arith, length-append pre (k ∷ [])) in
    let behind : words_from ws (suc (length pre)) (length ks) ≡ ks =
    subst (λ (n : ℕ). words_from ws n (length ks) ≡ ks) next
    (subst (λ (l : List ℕ). words_from l (length (pre ++ (k ∷ []))) (length ks) ≡ ks) (append_assoc pre (k ∷ []) (ks ++ post))
    (from-words ks (pre ++ (k ∷ [])) post)) in
    rw (here, behind) refl

-- a node with no more children than there may be
pub node-words : (e : Node) → length e.kids ≤ child_limit → node_entry (words_of_node e) 0 ≡ some e
unfolding node_entry node_at
node-words e h =
    let c = length e.kids in
    let zs : List ℕ = replicate (node_words - suc (suc c)) 0 in
    rw (
      le-leb node_words (length (words_of_node e)) (omega (arith, length-append e.kids zs, length-replicate {A = ℕ} (node_words - suc (suc c)) 0)),
      le-leb c child_limit h,
      from-words e.kids (e.op ∷ c ∷ []) zs,
    )
    refl

-- and a node's frame says no more children
pub node-few : (bs : List ℕ) (e : Node) → node_frame bs ≡ some e → length e.kids ≤ child_limit
unfolding node_frame
node-few [] e p = absurd (none-some p)
node-few (a ∷ []) e p = absurd (none-some p)
node-few (a ∷ b ∷ []) e p = absurd (none-some p)
node-few (a ∷ b ∷ c ∷ ks) e p = few (twos ks) p
  where
    few-if : (o : ℕ) (ns : List ℕ) (s t : Bool) → eqb (length ns) c ≡ s → leb c child_limit ≡ t
        → only_if (s && t) (some (record { op = o; kids = ns })) ≡ some e → length e.kids ≤ child_limit
    few-if o ns true true s t q =
        let x : record { op = o; kids = ns } ≡ e = cc in
        let n : length ns ≡ length e.kids = ap (λ (y : Node). length y.kids) x in
        omega (arith, eqb-true (length ns) c s, leb-true c child_limit t)
    few-if o ns true false s t q = absurd (none-some q)
    few-if o ns false t s u q = absurd (none-some q)

    few : (o : Option (List ℕ)) → node_by (a * 256 + b) c o ≡ some e → length e.kids ≤ child_limit
    few none q = absurd (none-some q)
    few (some ns) q = few-if (a * 256 + b) ns (eqb (length ns) c) (leb c child_limit) refl refl q

pub node-back : (bs : List ℕ) (e : Node) → node_frame bs ≡ some e → node_entry (words_of_node e) 0 ≡ some e
node-back bs e p = node-words e (node-few bs e p)

pub node-long : (bs : List ℕ) (e : Node) → node_frame bs ≡ some e → length (words_of_node e) ≡ node_words
node-long bs e p =
    let c = length e.kids in
    omega (arith, node-few bs e p, length-append e.kids (replicate (node_words - suc (suc c)) 0), length-replicate {A = ℕ} (node_words - suc (suc c)) 0)

-- a side's items stand in their slots
slot-item : (i : Item) → item_of (item_kind i) (item_field i) (item_count i) ≡ some i
slot-item (variable x) = refl
slot-item (operator o c) = refl

slots_items : (is : List Item) (pre post : List ℕ) → items_from (pre ++ (slots_of is ++ post)) (length pre) (length is) ≡ some is
unfolding items_from slots_of
slots_items [] pre post = refl
slots_items (i ∷ is) pre post =
    let slot = item_kind i ∷ item_field i ∷ item_count i ∷ [] in
    let rest = slots_of is ++ post in
    let ws = pre ++ (slot ++ rest) in
    let kind : get_or ws (length pre) 0 ≡ item_kind i = get_or-append_seam pre (item_kind i) (item_field i ∷ item_count i ∷ rest) 0 in
    let field : get_or ws (length pre + 1) 0 ≡ item_field i = get_or-append-add pre (slot ++ rest) 1 0 in
    let number : get_or ws (length pre + 2) 0 ≡ item_count i = get_or-append-add pre (slot ++ rest) 2 0 in
    let behind : items_from ws (length pre + item_words) (length is) ≡ some is =
    subst (λ (n : ℕ). items_from ws n (length is) ≡ some is) (length-append pre slot)
    (subst (λ (l : List ℕ). items_from l (length (pre ++ slot)) (length is) ≡ some is) (append_assoc pre slot rest)
    (slots_items is (pre ++ slot) post)) in
    rw (kind, field, number, slot-item i, behind) refl

-- what a side of a rule is
pub record IsSide (q : Patterns) : Type 0 where
  pub narrow : NarrowP q
  pub counted : count_p q ≡ 1
  pub few : length (items q) ≤ item_limit

side-words : (q : Patterns) → IsSide q → (pre post : List ℕ) → side_at (pre ++ (slots_of (items q) ++ post)) (length pre) (length (items q)) ≡ some q
unfolding side_at side
side-words q s pre post =
    rw (le-leb (length (items q)) item_limit s.few, slots_items (items q) pre post, items-read q s.narrow, eq-eqb (count_p q) 1 s.counted, le-leb (length (items q)) item_limit s.few) refl

pub slots_length : (is : List Item) → length (slots_of is) ≡ item_words * length is
unfolding slots_of
slots_length [] = refl
slots_length (i ∷ is) = omega (arith, slots_length is)

pub padded-length : (size : ℕ) (ws : List ℕ) → length ws ≤ size → length (padded size ws) ≡ size
padded-length size ws h = omega (arith, length-append ws (replicate (size - length ws) 0), length-replicate {A = ℕ} (size - length ws) 0)

side-length : (q : Patterns) → IsSide q → length (padded side_words (slots_of (items q))) ≡ side_words
side-length q s = padded-length side_words (slots_of (items q)) (omega (arith, slots_length (items q), s.few))

-- a rule whose two sides are patterns
pub rule-words : (r : Rule) → IsSide r.left → IsSide r.right → rule_entry (words_of_rule r) 0 ≡ some r
unfolding rule_entry words_of_rule
rule-words r l s =
    let head = r.number ∷ length (items r.left) ∷ length (items r.right) ∷ [] in
    let ls = slots_of (items r.left) in
    let rs = slots_of (items r.right) in
    let zeros : List ℕ = replicate (side_words - length ls) 0 in
    let left : side_at (words_of_rule r) left_at (length (items r.left)) ≡ some r.left =
    subst (λ (ws : List ℕ). side_at (head ++ ws) left_at (length (items r.left)) ≡ some r.left) (sym (append_assoc ls zeros (padded side_words rs)))
    (side-words r.left l head (zeros ++ padded side_words rs)) in
    let right : side_at (words_of_rule r) right_at (length (items r.right)) ≡ some r.right =
    subst (λ (at : ℕ). side_at (words_of_rule r) at (length (items r.right)) ≡ some r.right) (ap (λ (n : ℕ). suc (suc (suc n))) (side-length r.left l))
    (side-words r.right s (head ++ padded side_words ls) (replicate (side_words - length rs) 0)) in
    let long : rule_words ≤ length (words_of_rule r) =
    omega (arith, length-append (padded side_words ls) (padded side_words rs), side-length r.left l, side-length r.right s) in
    rw (le-leb rule_words (length (words_of_rule r)) long, left, right) refl

-- and a rule's frame says two patterns
one_side : (q l : Patterns) → NarrowP q → one_pattern (some q) ≡ some l → IsSide l
one_side q l n p = by (eqb (count_p q) 1) (leb (length (items q)) item_limit) refl refl p
  where
    by : (a b : Bool) → eqb (count_p q) 1 ≡ a → leb (length (items q)) item_limit ≡ b → side_if (a && b) q ≡ some l → IsSide l
    by true true e f h =
        let x : q ≡ l = cc in
        subst IsSide x (record { narrow = n; counted = eqb-true (count_p q) 1 e; few = leb-true (length (items q)) item_limit f })
    by true false e f h = absurd (none-some h)
    by false b e f h = absurd (none-some h)

module _ (n : ℕ) (r : Rule) where
  two-sides : (f b : Patterns) → NarrowP f → NarrowP b → (o p : Option Patterns) → one_pattern (some f) ≡ o → one_pattern (some b) ≡ p
      → rule_of n o p ≡ some r → IsSide r.left × IsSide r.right
  two-sides f b nf nb none p e g h = absurd (none-some h)
  two-sides f b nf nb (some l) none e g h = absurd (none-some h)
  two-sides f b nf nb (some l) (some q) e g h =
      let x : record { number = n; left = l; right = q } ≡ r = cc in
      subst (λ (y : Rule). IsSide y.left × IsSide y.right) x (one_side f l nf e, one_side b q nb g)

  cut-sides : (q : Patterns) → NarrowP q → (p : Option CutP) → cut_p 1 q ≡ p → rule_by n p ≡ some r → IsSide r.left × IsSide r.right
  cut-sides q narrow none e h = absurd (none-some h)
  cut-sides q narrow (some p) e h =
      let both = (cut-is 1 q p e).narrow narrow in
      two-sides p.front p.back both.0 both.1 _ _ refl refl h

  read-sides : (is : List Item) (q : Option Patterns) → read_p is ≡ q → rule_cut n q ≡ some r → IsSide r.left × IsSide r.right
  read-sides is none e h = absurd (none-some h)
  read-sides is (some q) e h = cut-sides q (read-items is q e).narrow (cut_p 1 q) refl h

  item-sides : (is : Option (List Item)) → rule_items n is ≡ some r → IsSide r.left × IsSide r.right
  item-sides none h = absurd (none-some h)
  item-sides (some is) h = read-sides is (read_p is) refl h

frame-sided : (bs : List ℕ) (r : Rule) → rule_frame bs ≡ some r → IsSide r.left × IsSide r.right
unfolding rule_frame
frame-sided [] r p = absurd (none-some p)
frame-sided (a ∷ []) r p = absurd (none-some p)
frame-sided (a ∷ b ∷ bs) r p = item-sides (a * 256 + b) r (frame_items bs) p

pub rule-back : (bs : List ℕ) (r : Rule) → rule_frame bs ≡ some r → rule_entry (words_of_rule r) 0 ≡ some r
rule-back bs r p = let s = frame-sided bs r p in rule-words r s.0 s.1

pub rule-long : (bs : List ℕ) (r : Rule) → rule_frame bs ≡ some r → length (words_of_rule r) ≡ rule_words
unfolding words_of_rule
rule-long bs r p =
    let s = frame-sided bs r p in
    let ls = padded side_words (slots_of (items r.left)) in
    let rs = padded side_words (slots_of (items r.right)) in
    omega (arith, length-append ls rs, side-length r.left s.0, side-length r.right s.1)

pub connection-back : (bs : List ℕ) (c : Connection) → connection_frame bs ≡ some c → connection_entry (words_of_connection c) 0 ≡ some c
connection-back bs c p = connection-words c
