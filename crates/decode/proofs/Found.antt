-- A side of a rule's frame, item by item: how many items it has and where they end.
use Prim.Native.Nat.{ℕ, zero, suc, ◌+◌, ◌*◌, ◌-◌, ◌≤◌, ◌<◌}
use mathlib.Core.List.{List, [], ◌∷◌, ◌++◌, append_assoc}
use mathlib.Core.Option.{Option as Maybe, none, some}
use mathlib.Core.Path.{◌≡◌, refl, sym, ap, ap₂, ◌∙◌}
use Rattle.std.proofs.Common.{Option, Some, None}
use native.Mathlib.Omega.{arith}
use lib.ListN.{length, drop, length-append, length-drop}
use lib.Seq.{drop-drop}
use Rattle.model.specs.Limits.{child_limit, item_limit}
use Rattle.model.specs.Pattern.{Item}
use Rattle.decode.specs.declared.sides.Part.{Part}
use Rattle.decode.specs.Sides.{part_of, item_of, Found, longer, behind, found, side_found, side_of}
use Rattle.decode.proofs.Parts.{sound}

-- one turn of the walk, and its ends
abbrev onward : ℕ → ℕ → List ℕ → Part → Maybe Found
onward k p l q = longer (item_of q) (found (k - 1) (p - 1 + q.count) (drop q.size l))

pub found_turn : (k p : ℕ) (l : List ℕ) → 0 < k → 0 < p → found k p l ≡ behind (part_of l) (onward k p l)
unfolding found
found_turn zero p l h g = absurd (omega arith)
found_turn (suc k) zero l h g = absurd (omega arith)
found_turn (suc k) (suc p) l h g =
    let e : suc k - 1 ≡ k = omega arith in
    let d : suc p - 1 ≡ p = omega arith in
    ap₂ (λ (a b : ℕ). behind (part_of l) (λ q. longer (item_of q) (found a (b + q.count) (drop q.size l)))) (sym e) (sym d)

pub found-over : (k p : ℕ) (l : List ℕ) → k ≡ 0 → 0 < p → found k p l ≡ none
unfolding found
found-over k zero l e h = absurd (omega arith)
found-over k (suc p) l e h = rw e refl

pub found-done : (k p : ℕ) (l : List ℕ) → p ≡ 0 → found k p l ≡ some (record { items = []; rest = l })
unfolding found
found-done zero p l e = rw e refl
found-done (suc k) p l e = rw e refl

-- items in front of others, if there are others
abbrev pub before : List Item → Maybe Found → Maybe Found
before front none = none
before front (some f) = some (record { items = front ++ f.items; rest = f.rest })

pub before-none : (o : Maybe Found) → before [] o ≡ o
before-none none = refl
before-none (some f) = refl

before-longer : (front : List Item) (i : Item) (o : Maybe Found) → before front (longer i o) ≡ before (front ++ (i ∷ [])) o
before-longer front i none = refl
before-longer front i (some f) = ap (λ (is : List Item). some (record { items = is; rest = f.rest })) (sym (append_assoc front (i ∷ []) f.items))

module _ (bs : List ℕ) (pos : ℕ) (front : List Item) (k p : ℕ) (some_left : 0 < k) (pending : 0 < p) where
  -- no item: no side
  pub turn-none : None ≡ part_of (drop pos bs) → before front (found k p (drop pos bs)) ≡ none
  turn-none e = ap (before front)
      (found_turn k p (drop pos bs) some_left pending ∙ ap (λ (o : Option Part). behind o (onward k p (drop pos bs))) (sym e))

  module _ (q : Part) (is : Some q ≡ part_of (drop pos bs)) where
    pub turn-item : before front (found k p (drop pos bs)) ≡ before (front ++ (item_of q ∷ [])) (found (k - 1) (p - 1 + q.count) (drop (pos + q.size) bs))
    turn-item =
        let l = drop pos bs in
        ap (before front) (found_turn k p l some_left pending ∙ ap (λ (o : Option Part). behind o (onward k p l)) (sym is))
        ∙ before-longer front (item_of q) _
        ∙ ap (λ (m : List ℕ). before (front ++ (item_of q ∷ [])) (found (k - 1) (p - 1 + q.count) m)) (drop-drop q.size pos bs)

    pub turn-fits : pos ≤ length bs → (pos + q.size ≤ length bs) × (q.count ≤ child_limit)
    turn-fits h = let s = sound (drop pos bs) q is in (omega (arith, s.fits, length-drop pos bs), s.few)

-- The first pass: what is read so far, and what is still to be read.
pub record Walk (bs : List ℕ) (at pos n pending : ℕ) : Type 0 where
  pub front : List Item
  pub long : length front ≡ n
  pub few : n ≤ item_limit
  pub within : pos ≤ length bs
  pub slow : pending ≤ 1 + child_limit * n
  pub goes : before front (found (item_limit - n) pending (drop pos bs)) ≡ side_found bs at

pub walk_start : (bs : List ℕ) (at : ℕ) → at ≤ length bs → Walk bs at at 0 1
walk_start bs at h = record { front = []; long = refl; few = omega arith; within = h; slow = omega arith; goes = before-none (side_found bs at) }

module _ {bs : List ℕ} {at pos n pending : ℕ} (w : Walk bs at pos n pending) (more : 0 < pending) where
  pub walk-over : item_limit ≤ n → None ≡ side_of (length bs) (side_found bs at)
  walk-over h =
      let e = found-over (item_limit - n) pending (drop pos bs) (omega arith) more in
      ap (side_of (length bs)) (sym (ap (before w.front) e) ∙ w.goes)

  module _ (few : n < item_limit) where
    pub walk_none : None ≡ part_of (drop pos bs) → None ≡ side_of (length bs) (side_found bs at)
    walk_none h = ap (side_of (length bs)) (sym (turn-none bs pos w.front (item_limit - n) pending (omega arith) more h) ∙ w.goes)

    module _ (p : Part) (is : Some p ≡ part_of (drop pos bs)) where
      pub walk-fits : (pos + p.size ≤ length bs) × (p.count ≤ child_limit)
      walk-fits = turn-fits bs pos w.front (item_limit - n) pending (omega arith) more p is w.within

      pub walk_more : (c : ℕ) → c ≡ p.count → Walk bs at (pos + p.size) (n + 1) (pending - 1 + c)
      walk_more c c-is =
          let f = walk-fits in
          let left : item_limit - n - 1 ≡ item_limit - (n + 1) = omega arith in
          let e = turn-item bs pos w.front (item_limit - n) pending (omega arith) more p is in
          record {
            front = w.front ++ (item_of p ∷ []);
            long = omega (arith, length-append w.front (item_of p ∷ []), w.long);
            few = omega arith;
            within = f.0;
            slow = omega (arith, f.1, w.slow, c-is);
            goes =
                ap₂ (λ (k m : ℕ). before (w.front ++ (item_of p ∷ [])) (found k (pending - 1 + m) (drop (pos + p.size) bs))) (sym left) c-is
                ∙ (sym e ∙ w.goes);
          }

pub walk-done : {bs : List ℕ} {at pos n pending : ℕ} → Walk bs at pos n pending → pending ≡ 0 → Some (n, pos) ≡ side_of (length bs) (side_found bs at)
walk-done {bs} {at} {pos} {n} {pending} w h =
    let e = found-done (item_limit - n) pending (drop pos bs) h in
    let many : n ≡ length (w.front ++ []) = omega (arith, length-append w.front [], w.long) in
    let end : pos ≡ length bs - length (drop pos bs) = omega (arith, length-drop pos bs, w.within) in
    ap₂ (λ (k m : ℕ). Some (k, m)) many end ∙ ap (side_of (length bs)) (sym (ap (before w.front) e) ∙ w.goes)
