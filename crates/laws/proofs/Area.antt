-- Words in an area: what stands at each place of words written over others, parts of them, and one writing after another.
use Prim.Native.Nat.{ℕ, suc, ◌+◌, ◌-◌, ◌≤◌, ◌<◌}
use native.Mathlib.Omega.{arith}
use native.Mathlib.Nat.{add-zero}
use native.Mathlib.Numerals.{add-one}
use mathlib.Core.Path.{◌≡◌, refl, sym, ap, ap₂, ◌∙◌}
use mathlib.Core.List.{List, [], ◌∷◌, ◌++◌, append_assoc, append-nil}
use lib.ListN.{length, get_or, set, take, drop, length-append, length-drop, length-take, take-append-drop, drop_of_length-le, get_or-append}
use lib.Seq.{drop-cons, length-take-le, take_all, drop-append-add, get_or-append-add, get_or-take, get_or-drop, take-add, take_at, drop_at, drop-drop, set_split, ext_get_or}
use Rattle.model.specs.Limits.{flat_words}
use Rattle.laws.specs.Area.{splice, part}

-- What stands in words written over others: before them, in them, behind them.
module _ (old : List ℕ) (at : ℕ) (ws : List ℕ) (fits : at + length ws ≤ length old) where
  front : length (take at old) ≡ at
  front = length-take-le at old (omega arith)

  pub length-splice : length (splice old at ws) ≡ length old
  unfolding splice
  length-splice = simp (length-append, length-drop, front) (omega arith)

  pub splice-before : (i : ℕ) → i < at → get_or (splice old at ws) i 0 ≡ get_or old i 0
  unfolding splice
  splice-before i h =
      get_or-append (take at old) (ws ++ drop (at + length ws) old) 0 i (omega (arith, front)) ∙ get_or-take at old i 0 h

  behind-front : (i : ℕ) → get_or (splice old at ws) (at + i) 0 ≡ get_or (ws ++ drop (at + length ws) old) i 0
  unfolding splice
  behind-front i =
      ap (λ (k : ℕ). get_or (splice old at ws) (k + i) 0) (sym front)
      ∙ get_or-append-add (take at old) (ws ++ drop (at + length ws) old) i 0

  pub splice-inside : (i : ℕ) → i < length ws → get_or (splice old at ws) (at + i) 0 ≡ get_or ws i 0
  splice-inside i h = behind-front i ∙ get_or-append ws (drop (at + length ws) old) 0 i h

  pub splice-behind : (i : ℕ) → at + length ws ≤ i → get_or (splice old at ws) i 0 ≡ get_or old i 0
  splice-behind i h =
      let k = i - (at + length ws) in
      let e : i ≡ at + (length ws + k) = omega arith in
      ap (λ (n : ℕ). get_or (splice old at ws) n 0) e
      ∙ behind-front (length ws + k)
      ∙ get_or-append-add ws (drop (at + length ws) old) k 0
      ∙ get_or-drop (at + length ws) old k 0
      ∙ ap (λ (n : ℕ). get_or old n 0) (omega arith)

-- Parts: their length, their words, one behind another, a part of a part.
pub length_part : (ws : List ℕ) (at n : ℕ) → at + n ≤ length ws → length (part ws at n) ≡ n
unfolding part
length_part ws at n h = simp (length-take, length-drop) (omega arith)

pub part_at : (ws : List ℕ) (at n i : ℕ) → i < n → get_or (part ws at n) i 0 ≡ get_or ws (at + i) 0
unfolding part
part_at ws at n i h = rw (get_or-take, get_or-drop)

-- two parts are equal where their words are
pub same-part : (a b : List ℕ) (p q n : ℕ) → p + n ≤ length a → q + n ≤ length b →
    ((i : ℕ) → i < n → get_or a (p + i) 0 ≡ get_or b (q + i) 0) → part a p n ≡ part b q n
same-part a b p q n h g e =
    let l = length_part a p n h in
    ext_get_or 0 (part a p n) (part b q n) (l ∙ sym (length_part b q n g))
    (λ i k. let s : i < n = omega arith in part_at a p n i s ∙ e i s ∙ sym (part_at b q n i s))

pub part_none : (ws : List ℕ) (at : ℕ) → part ws at 0 ≡ []
unfolding part
part_none ws at = refl

pub part-all : (ws : List ℕ) → part ws 0 (length ws) ≡ ws
unfolding part
part-all ws = take_all (length ws) ws (omega arith)

pub part-more : (ws : List ℕ) (at n m : ℕ) → part ws at (n + m) ≡ part ws at n ++ part ws (at + n) m
unfolding part
part-more ws at n m = take-add n m (drop at ws) ∙ ap (λ (l : List ℕ). take n (drop at ws) ++ take m l) (drop-drop n at ws)

pub part-part : (ws : List ℕ) (at m p n : ℕ) → at + m ≤ length ws → p + n ≤ m → part (part ws at m) p n ≡ part ws (at + p) n
part-part ws at m p n h g =
    same-part (part ws at m) ws p (at + p) n (omega (arith, length_part ws at m h)) (omega arith)
    (λ i k. part_at ws at m (p + i) (omega arith) ∙ ap (λ (j : ℕ). get_or ws j 0) (omega arith))

-- a word, and the part behind it
pub part-cons : (ws : List ℕ) (at n : ℕ) → at < length ws → part ws at (suc n) ≡ get_or ws at 0 ∷ part ws (at + 1) n
unfolding part
part-cons ws at n h = rw (drop-cons ws at 0 h, add-one) refl

-- words cut in three, and the middle of three
pub cut-part : (ws : List ℕ) (at n : ℕ) → ws ≡ take at ws ++ (part ws at n ++ drop (at + n) ws)
unfolding part
cut-part ws at n =
    sym (take-append-drop at ws)
    ∙ ap (λ (l : List ℕ). take at ws ++ l)
    (sym (take-append-drop n (drop at ws)) ∙ ap (λ (l : List ℕ). take n (drop at ws) ++ l) (drop-drop n at ws))

pub part-middle : (x y z : List ℕ) (at n : ℕ) → length x ≡ at → length y ≡ n → part (x ++ (y ++ z)) at n ≡ y
unfolding part
part-middle x y z at n h g = ap (take n) (drop_at x (y ++ z) at h) ∙ take_at y z n g

pub splice-middle : (x y z : List ℕ) (at : ℕ) (ws : List ℕ) → length x ≡ at → length y ≡ length ws →
    splice (x ++ (y ++ z)) at ws ≡ x ++ (ws ++ z)
unfolding splice
splice-middle x y z at ws h g =
    let e : drop (at + length ws) (x ++ (y ++ z)) ≡ z =
    ap (λ (k : ℕ). drop (k + length ws) (x ++ (y ++ z))) (sym h)
    ∙ drop-append-add x (y ++ z) (length ws)
    ∙ drop_at y z (length ws) g in
    ap₂ (λ (a b : List ℕ). a ++ (ws ++ b)) (take_at x (y ++ z) at h) e

-- Parts of words written over others: before them, in them, behind them.
module _ (old : List ℕ) (at : ℕ) (ws : List ℕ) (fits : at + length ws ≤ length old) where
  pub part-before : (p n : ℕ) → p + n ≤ at → part (splice old at ws) p n ≡ part old p n
  part-before p n h =
      same-part (splice old at ws) old p p n (omega (arith, length-splice old at ws fits)) (omega arith)
      (λ i k. splice-before old at ws fits (p + i) (omega arith))

  pub part-inside : (p n : ℕ) → p + n ≤ length ws → part (splice old at ws) (at + p) n ≡ part ws p n
  part-inside p n h =
      same-part (splice old at ws) ws (at + p) p n (omega (arith, length-splice old at ws fits)) h
      (λ i k.
      ap (λ (j : ℕ). get_or (splice old at ws) j 0) (omega arith) ∙ splice-inside old at ws fits (p + i) (omega arith))

  pub part-written : part (splice old at ws) at (length ws) ≡ ws
  part-written =
      ap (λ (p : ℕ). part (splice old at ws) p (length ws)) (sym (add-zero at)) ∙ part-inside 0 (length ws) (omega arith) ∙ part-all ws

  pub part-of-written : (x y z : List ℕ) → ws ≡ x ++ (y ++ z) → part (splice old at ws) (at + length x) (length y) ≡ y
  part-of-written x y z e =
      let l : length ws ≡ length x + (length y + length z) =
      ap length e ∙ length-append x (y ++ z) ∙ ap (λ (k : ℕ). length x + k) (length-append y z) in
      part-inside (length x) (length y) (omega arith)
      ∙ ap (λ (s : List ℕ). part s (length x) (length y)) e
      ∙ part-middle x y z (length x) (length y) refl refl

  pub part-behind : (p n : ℕ) → at + length ws ≤ p → p + n ≤ length old → part (splice old at ws) p n ≡ part old p n
  part-behind p n h g =
      same-part (splice old at ws) old p p n (omega (arith, length-splice old at ws fits)) g
      (λ i k. splice-behind old at ws fits (p + i) (omega arith))

  pub take-splice : (n : ℕ) → n ≤ at → take n (splice old at ws) ≡ take n old
  unfolding part
  take-splice n h = part-before 0 n (omega arith)

-- One writing after another.
pub splice-none : (old : List ℕ) (at : ℕ) → splice old at [] ≡ old
unfolding splice
splice-none old at = ap (λ (k : ℕ). take at old ++ drop k old) (add-zero at) ∙ take-append-drop at old

pub splice-one : (old : List ℕ) (at w : ℕ) → at < length old → set old at w ≡ splice old at (w ∷ [])
unfolding splice
splice-one old at w h = set_split old at w h ∙ ap (λ (k : ℕ). take at old ++ w ∷ drop k old) (sym (add-one at))

-- words that reach the end, and words over all of the old ones
pub splice-end : (old : List ℕ) (at : ℕ) (ws : List ℕ) → at + length ws ≡ length old → splice old at ws ≡ take at old ++ ws
unfolding splice
splice-end old at ws h =
    let none : drop (at + length ws) old ≡ [] = drop_of_length-le old {i = at + length ws} (omega arith) in
    ap (λ (l : List ℕ). take at old ++ (ws ++ l)) none ∙ ap (λ (l : List ℕ). take at old ++ l) (append-nil ws)

pub splice_all : (old ws : List ℕ) → length ws ≡ length old → splice old 0 ws ≡ ws
splice_all old ws h = splice-end old 0 ws (omega arith)

module _ (old : List ℕ) (at : ℕ) (u : List ℕ) where
  -- behind what was written
  pub splice-more : (v : List ℕ) → at + length u ≤ length old → splice (splice old at u) (at + length u) v ≡ splice old at (u ++ v)
  unfolding splice
  splice-more v h =
      let p = take at old ++ u in
      let rest = drop (at + length u) old in
      let n : length p ≡ at + length u =
      length-append (take at old) u ∙ ap (λ (k : ℕ). k + length u) (length-take-le at old (omega arith)) in
      let q : splice old at u ≡ p ++ rest = sym (append_assoc (take at old) u rest) in
      let both : at + length u + length v ≡ at + length (u ++ v) = omega (arith, length-append u v) in
      let b : drop (at + length u + length v) (p ++ rest) ≡ drop (at + length (u ++ v)) old =
      ap (λ (k : ℕ). drop (k + length v) (p ++ rest)) (sym n)
      ∙ drop-append-add p rest (length v)
      ∙ drop-drop (length v) (at + length u) old
      ∙ ap (λ (k : ℕ). drop k old) both in
      ap (λ (s : List ℕ). take (at + length u) s ++ (v ++ drop (at + length u + length v) s)) q
      ∙ ap₂ (λ (x y : List ℕ). x ++ (v ++ y)) (take_at p rest (at + length u) n) b
      ∙ simp append_assoc

  -- again over the first of them
  pub splice_front : (v new : List ℕ) → at + length (u ++ v) ≤ length old → length new ≡ length u →
      splice (splice old at (u ++ v)) at new ≡ splice old at (new ++ v)
  unfolding splice
  splice_front v new h g =
      let rest = drop (at + length (u ++ v)) old in
      let same : length (u ++ v) ≡ length (new ++ v) = omega (arith, length-append u v, length-append new v) in
      ap (λ (l : List ℕ). splice (take at old ++ l) at new) (append_assoc u v rest)
      ∙ splice-middle (take at old) u (v ++ rest) at new (length-take-le at old (omega arith)) (sym g)
      ∙ ap (λ (l : List ℕ). take at old ++ l) (sym (append_assoc new v rest))
      ∙ ap (λ (k : ℕ). take at old ++ ((new ++ v) ++ drop (at + k) old)) same

-- one word more, and a node's four words
pub splice-push : (old : List ℕ) (at : ℕ) (u : List ℕ) (w : ℕ) → at + length u < length old →
    set (splice old at u) (at + length u) w ≡ splice old at (u ++ (w ∷ []))
splice-push old at u w h =
    splice-one (splice old at u) (at + length u) w (omega (arith, length-splice old at u (omega arith)))
    ∙ splice-more old at u (w ∷ []) (omega arith)

pub splice-node : (old : List ℕ) (at a b c d : ℕ) → at + flat_words ≤ length old →
    set (set (set (set old at a) (at + 1) b) (at + 2) c) (at + 3) d ≡ splice old at (a ∷ b ∷ c ∷ d ∷ [])
splice-node old at a b c d h =
    ap (λ (l : List ℕ). set (set (set l (at + 1) b) (at + 2) c) (at + 3) d) (splice-one old at a (omega arith))
    ∙ ap (λ (l : List ℕ). set (set l (at + 2) c) (at + 3) d) (splice-push old at (a ∷ []) b (omega arith))
    ∙ ap (λ (l : List ℕ). set l (at + 3) d) (splice-push old at (a ∷ b ∷ []) c (omega arith))
    ∙ splice-push old at (a ∷ b ∷ c ∷ []) d (omega arith)
