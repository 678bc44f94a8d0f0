-- A node's frame: three bytes and two for each child, and the words that they are, place by place.
use Prim.Native.Nat.{ℕ, zero, suc, ◌+◌, ◌*◌, ◌-◌, ◌≤◌, ◌<◌}
use mathlib.Core.Bool.{Bool, true, false, ◌&&◌}
use mathlib.Core.List.{List, [], ◌∷◌, ◌++◌}
use mathlib.Core.Option.{Option, none, some}
use mathlib.Core.Path.{◌≡◌, refl, sym, ap, ◌∙◌}
use native.Mathlib.Omega.{arith}
use borrow.Author.Tests.{eq-eqb, ne_eqb, le-leb, lt-leb}
use lib.Dec.{eqb}
use lib.ListN.{length, get_or, set, drop, replicate, length-append, length-set, length-drop, length-replicate, get_or-eq_default}
use lib.Seq.{get_or-drop}
use Rattle.model.specs.Limits.{child_limit}
use Rattle.model.specs.Node.{Node}
use Rattle.model.specs.Tables.{node_words, only_if}
use Rattle.model.specs.Frame.{two, two_front, twos, node_by, node_frame}
use Rattle.layouts.specs.Words.{words_of_node}
use Rattle.rule_table.proofs.Patterns.{none-some}
use Rattle.laws.proofs.Stored.{Stored, stored-none, stored_next, stored-all}
use Rattle.laws.specs.Present.{present}
use Rattle.decode.specs.Slot.{slot_by}

-- the words of whole pairs of bytes
record Twos (c : ℕ) (l : List ℕ) : Type 0 where
  words : List ℕ
  is : twos l ≡ some words
  long : length words ≡ c
  at : (i : ℕ) → get_or words i 0 ≡ two (get_or l (2 * i) 0) (get_or l (2 * i + 1) 0)

first_two : (a b : ℕ) (l ws : List ℕ) → ((i : ℕ) → get_or ws i 0 ≡ two (get_or l (2 * i) 0) (get_or l (2 * i + 1) 0)) →
    (i : ℕ) → get_or (two a b ∷ ws) i 0 ≡ two (get_or (a ∷ b ∷ l) (2 * i) 0) (get_or (a ∷ b ∷ l) (2 * i + 1) 0)
first_two a b l ws h zero = refl
first_two a b l ws h (suc i) =
    let e : 2 * suc i ≡ suc (suc (2 * i)) = omega arith in
    let d : 2 * suc i + 1 ≡ suc (suc (2 * i + 1)) = omega arith in
    rw (d, e) (h i)

whole-twos : (c : ℕ) (l : List ℕ) → length l ≡ 2 * c → Twos c l
unfolding twos
whole-twos zero [] h = record { words = []; is = refl; long = refl; at = λ i. refl }
whole-twos zero (a ∷ l) h = absurd (omega arith)
whole-twos (suc c) [] h = absurd (omega arith)
whole-twos (suc c) (a ∷ []) h = absurd (omega arith)
whole-twos (suc c) (a ∷ b ∷ l) h =
    let t = whole-twos c l (omega arith) in
    record {
      words = two a b ∷ t.words;
      is = rw t.is refl;
      long = ap suc t.long;
      at = first_two a b l t.words t.at;
    }

twos-length : (l ns : List ℕ) → twos l ≡ some ns → length l ≡ 2 * length ns
unfolding twos
twos-length [] ns e = let p : [] ≡ ns = cc in rw (← p) refl
twos-length (a ∷ []) ns e = absurd (none-some e)
twos-length (a ∷ b ∷ l) ns e = more (twos l) (twos-length l) e
  where
    more : (o : Option (List ℕ)) → ((ms : List ℕ) → o ≡ some ms → length l ≡ 2 * length ms) → two_front (two a b) o ≡ some ns →
        suc (suc (length l)) ≡ 2 * length ns
    more none h e = absurd (none-some e)
    more (some ms) h e = let p : two a b ∷ ms ≡ ns = cc in rw (← p) (omega (arith, h ms refl))

-- Frames of no node: too short for a count, with more children than there may be, or not as long as the count says.
abbrev node_in : List ℕ → Option Node
node_in bs = node_by (two (get_or bs 0 0) (get_or bs 1 0)) (get_or bs 2 0) (twos (drop 3 bs))

pub no-head : (bs : List ℕ) → length bs < 3 → node_frame bs ≡ none
unfolding node_frame
no-head [] h = refl
no-head (a ∷ []) h = refl
no-head (a ∷ b ∷ []) h = refl
no-head (a ∷ b ∷ c ∷ ks) h = absurd (omega arith)

head : (bs : List ℕ) → 3 ≤ length bs → node_frame bs ≡ node_in bs
unfolding node_frame
head [] h = absurd (omega arith)
head (a ∷ []) h = absurd (omega arith)
head (a ∷ b ∷ []) h = absurd (omega arith)
head (a ∷ b ∷ c ∷ ks) h = refl

not-both : (a : Bool) {A : Type 0} (o : Option A) → only_if (a && false) o ≡ none
not-both true o = refl
not-both false o = refl

module _ (bs : List ℕ) (c : ℕ) (long : 3 ≤ length bs) (counted : c ≡ get_or bs 2 0) where
  pub many-children : child_limit < c → node_frame bs ≡ none
  many-children h = head bs long ∙ rw (← counted) (by (twos (drop 3 bs)))
    where
      by : (o : Option (List ℕ)) → node_by (two (get_or bs 0 0) (get_or bs 1 0)) c o ≡ none
      by none = refl
      by (some ks) = rw (lt-leb c child_limit h) (not-both (eqb (length ks) c) _)

  pub other-count : (length bs ≡ 3 + 2 * c → ⊥) → node_frame bs ≡ none
  other-count h = head bs long ∙ rw (← counted) (by (twos (drop 3 bs)) refl)
    where
      by : (o : Option (List ℕ)) → twos (drop 3 bs) ≡ o → node_by (two (get_or bs 0 0) (get_or bs 1 0)) c o ≡ none
      by none e = refl
      by (some ks) e =
          let l = twos-length (drop 3 bs) ks e in
          rw (ne_eqb (length ks) c (λ p. h (omega (arith, length-drop 3 bs)))) refl

-- The word that belongs at each place of a node's words, of which each byte behind the end is zero.
unfoldable pub node_word : List ℕ → ℕ → ℕ
node_word bs zero = two (get_or bs 0 0) (get_or bs 1 0)
node_word bs (suc zero) = get_or bs 2 0
node_word bs (suc (suc i)) = two (get_or bs (3 + 2 * i) 0) (get_or bs (3 + 2 * i + 1) 0)

pub behind-end : (bs : List ℕ) (at : ℕ) → length bs ≤ at → 0 ≡ two (get_or bs at 0) (get_or bs (at + 1) 0)
behind-end bs at h = rw (get_or-eq_default bs 0 {n = at} h, get_or-eq_default bs 0 {n = at + 1} (omega arith)) refl

-- zeros behind words change no word
zeros : (m k : ℕ) → get_or {A = ℕ} (replicate m 0) k 0 ≡ 0
zeros zero k = refl
zeros (suc m) zero = refl
zeros (suc m) (suc k) = zeros m k

with-zeros : (ws : List ℕ) (m k : ℕ) → get_or (ws ++ replicate m 0) k 0 ≡ get_or ws k 0
with-zeros [] m k = zeros m k
with-zeros (w ∷ ws) m zero = refl
with-zeros (w ∷ ws) m (suc k) = with-zeros ws m k

-- a frame as long as its count says is a node's
pub record Says (bs : List ℕ) : Type 0 where
  pub node : Node
  pub is : node_frame bs ≡ some node
  pub long : length (words_of_node node) ≡ node_words
  pub at : (k : ℕ) → get_or (words_of_node node) k 0 ≡ node_word bs k

places : (bs ns : List ℕ) → ((i : ℕ) → get_or ns i 0 ≡ two (get_or (drop 3 bs) (2 * i) 0) (get_or (drop 3 bs) (2 * i + 1) 0)) →
    length ns ≡ get_or bs 2 0 → (k : ℕ) → get_or (two (get_or bs 0 0) (get_or bs 1 0) ∷ length ns ∷ ns) k 0 ≡ node_word bs k
unfolding node_word
places bs ns h l zero = refl
places bs ns h l (suc zero) = l
places bs ns h l (suc (suc i)) =
    let e : 3 + (2 * i + 1) ≡ 3 + 2 * i + 1 = omega arith in
    h i ∙ rw (get_or-drop 3 bs (2 * i) 0, get_or-drop 3 bs (2 * i + 1) 0, e) refl

a-node : (o c : ℕ) (ks : List ℕ) → length ks ≡ c → c ≤ child_limit → node_by o c (some ks) ≡ some (record { op = o; kids = ks })
a-node o c ks l h = rw (eq-eqb (length ks) c l, le-leb c child_limit h) refl

pub node-says : (bs : List ℕ) (c : ℕ) → c ≡ get_or bs 2 0 → c ≤ child_limit → length bs ≡ 3 + 2 * c → Says bs
node-says bs c counted few h =
    let t = whole-twos c (drop 3 bs) (omega (arith, length-drop 3 bs)) in
    let e : Node = record { op = two (get_or bs 0 0) (get_or bs 1 0); kids = t.words } in
    let ws = e.op ∷ length e.kids ∷ e.kids in
    let m = node_words - length ws in
    record {
      node = e;
      is = head bs (omega arith) ∙ ap (node_by e.op (get_or bs 2 0)) t.is ∙ a-node e.op (get_or bs 2 0) t.words (t.long ∙ counted) (omega arith);
      long = omega (arith, length-append ws (replicate m 0), length-replicate {A = ℕ} m 0, t.long);
      at = λ k. with-zeros ws m k ∙ places bs t.words t.at (t.long ∙ counted) k;
    }

-- The places written so far, the first two before the loop.
pub record Filled (bs start slot : List ℕ) (k : ℕ) : Type 0 where
  pub stored : Stored (node_word bs) start slot k
  pub long : length slot ≡ node_words
  pub some : 2 ≤ k

pub filled-start : (bs old : List ℕ) (o c : ℕ) → length old ≡ node_words → o ≡ two (get_or bs 0 0) (get_or bs 1 0) → c ≡ get_or bs 2 0 →
    Filled bs (set (set old 0 o) 1 c) (set (set old 0 o) 1 c) 2
unfolding node_word
filled-start bs old o c h p q =
    let l : length (set (set old 0 o) 1 c) ≡ node_words = simp length-set h in
    let s : Stored (node_word bs) old (set (set old 0 o) 1 c) 2 = stored_next (stored_next (stored-none old) (omega arith) p) (simp length-set (omega arith)) q in
    record {
      stored = record { some = omega arith; long = refl; done = s.done; rest = λ k g. refl };
      long = l;
      some = omega arith;
    }

child-word : (bs : List ℕ) (k v : ℕ) → 2 ≤ k → v ≡ two (get_or bs (3 + 2 * (k - 2)) 0) (get_or bs (3 + 2 * (k - 2) + 1) 0) → v ≡ node_word bs k
unfolding node_word
child-word bs zero v h p = absurd (omega arith)
child-word bs (suc zero) v h p = absurd (omega arith)
child-word bs (suc (suc i)) v h p = let d : suc (suc i) - 2 ≡ i = omega arith in p ∙ rw d refl

pub filled_more : {bs start slot : List ℕ} {k v : ℕ} → Filled bs start slot k → k < length slot →
    v ≡ two (get_or bs (3 + 2 * (k - 2)) 0) (get_or bs (3 + 2 * (k - 2) + 1) 0) → Filled bs start (set slot k v) (k + 1)
filled_more {bs} {start} {slot} {k} {v} f h p = record {
  stored = stored_next f.stored h (child-word bs k v f.some p);
  long = length-set slot k v ∙ f.long;
  some = omega (arith, f.some);
}

pub filled-all : {bs start slot : List ℕ} {k : ℕ} → Filled bs start slot k → length slot ≤ k → Says bs → (old : List ℕ) →
    (true ≡ present (node_frame bs)) × (slot ≡ slot_by words_of_node old (node_frame bs))
filled-all f h s old =
    let l = s.long ∙ sym f.long ∙ f.stored.long in
    (rw s.is refl, rw s.is (stored-all f.stored h (words_of_node s.node) l (λ k g. s.at k)))
