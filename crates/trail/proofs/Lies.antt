-- A path on the trail: laid by two climbs, the first connection to be walked highest, and taken from the top.
use Prim.Native.Nat.{ℕ, zero, suc, ◌+◌, ◌-◌, ◌≤◌, ◌<◌}
use mathlib.Core.Bool.{Bool, true, false}
use mathlib.Core.List.{List, [], ◌∷◌, ◌++◌, append_assoc, append-nil, reverse, reverse-cons}
use mathlib.Core.Path.{◌≡◌, refl, sym, ap, ap₂, subst, subst₂, ◌∙◌}
use native.Mathlib.Omega.{arith}
use native.Mathlib.Nat.{add-zero}
use borrow.Author.Tests.{le-leb, lt-leb}
use lib.Dec.{leb}
use lib.ListN.{length, get_or, take, length-append, get_or-append}
use lib.Seq.{get_or-take, get_or-append-add}
use Rattle.forest.specs.declared.Row.{Row}
use Rattle.model.specs.declared.Connection.{Connection}
use Rattle.model.specs.Forest.{cur, root, Parent, top as highest, below, parent_of}
use Rattle.paths.specs.Hangs.{next_of, Forest}
use Rattle.paths.specs.Meet.{top_of}
use Rattle.paths.proofs.Ways.{hop, ups, downs}
use Rattle.paths.proofs.Above.{walk-climb, halves}
use Rattle.forest.specs.Rows.{cost_in}
use Rattle.laws.specs.Area.{splice}
use Rattle.laws.proofs.Area.{splice-inside}
use Rattle.trail.specs.Legs.{Leg, costly, legs, ages}
use Rattle.trail.specs.Laid.{LaidOut}

-- ages as connections to be walked up, and, last to first, as those to be walked down
abbrev ups_of : List ℕ → List Leg
ups_of [] = []
ups_of (a ∷ xs) = record { age = a; up = true } ∷ ups_of xs

abbrev downs_of : List ℕ → List Leg
downs_of [] = []
downs_of (a ∷ xs) = downs_of xs ++ (record { age = a; up = false } ∷ [])

ups-append : (xs ys : List ℕ) → ups_of (xs ++ ys) ≡ ups_of xs ++ ups_of ys
ups-append [] ys = refl
ups-append (x ∷ xs) ys = ap (λ (hs : List Leg). record { age = x; up = true } ∷ hs) (ups-append xs ys)

downs-append : (xs ys : List ℕ) → downs_of (xs ++ ys) ≡ downs_of ys ++ downs_of xs
downs-append [] ys = sym (append-nil (downs_of ys))
downs-append (x ∷ xs) ys = ap (λ (hs : List Leg). hs ++ (record { age = x; up = false } ∷ [])) (downs-append xs ys) ∙ append_assoc (downs_of ys) (downs_of xs) _

length-ups : (xs : List ℕ) → length (ups_of xs) ≡ length xs
length-ups [] = refl
length-ups (x ∷ xs) = ap suc (length-ups xs)

length-downs : (xs : List ℕ) → length (downs_of xs) ≡ length xs
length-downs [] = refl
length-downs (x ∷ xs) = omega (arith, length-append (downs_of xs) (record { age = x; up = false } ∷ []), length-downs xs)

-- the legs of a path lie on the trail, from `used` up to `top`, the first highest; those at `turn` and above go up
abbrev pub Lies : List ℕ → ℕ → ℕ → List Leg → ℕ → Type 0
Lies trail turn used [] top = top ≡ used
Lies trail turn used (h ∷ hs) top =
    (used < top) × (get_or trail (top - 1) 0 ≡ h.age) × (leb turn (top - 1) ≡ h.up) × Lies trail turn used hs (top - 1)

-- as long as what is below stays
pub lies-kept : (trail new : List ℕ) (turn used : ℕ) (hs : List Leg) (top n : ℕ) → top ≤ n → take n new ≡ take n trail →
    Lies trail turn used hs top → Lies new turn used hs top
lies-kept trail new turn used [] top n h e k = k
lies-kept trail new turn used (g ∷ hs) top n h e k =
    let p = k.0 in
    let i : top - 1 < n = omega arith in (
      p,
      sym (get_or-take n new (top - 1) 0 i) ∙ ap (λ (l : List ℕ). get_or l (top - 1) 0) e ∙ get_or-take n trail (top - 1) 0 i ∙ k.1,
      k.2,
      lies-kept trail new turn used hs (top - 1) n (omega arith) e k.3,
    )

pub lies-long : (trail : List ℕ) (turn used : ℕ) (hs : List Leg) (top : ℕ) → Lies trail turn used hs top → top ≡ used + length hs
lies-long trail turn used [] top k = k ∙ sym (add-zero used)
lies-long trail turn used (h ∷ hs) top k = let p = k.0 in omega (arith, lies-long trail turn used hs (top - 1) k.3)

-- one more below the others
lies-under : (trail : List ℕ) (turn used : ℕ) (hs : List Leg) (d : Leg) (top : ℕ) → Lies trail turn (suc used) hs top →
    get_or trail used 0 ≡ d.age → leb turn used ≡ d.up → Lies trail turn used (hs ++ (d ∷ [])) top
lies-under trail turn used [] d top k a u =
    let e : top - 1 ≡ used = omega arith in
    (omega arith, ap (λ (i : ℕ). get_or trail i 0) e ∙ a, ap (leb turn) e ∙ u, e)
lies-under trail turn used (h ∷ hs) d top k a u =
    let p = k.0 in (omega arith, k.1, k.2, lies-under trail turn used hs d (top - 1) k.3 a u)

pub length_back : (xs : List ℕ) → length (reverse xs) ≡ length xs
length_back [] = refl
length_back (x ∷ xs) = ap length (reverse-cons x xs) ∙ omega (arith, length-append (reverse xs) (x ∷ []), length_back xs)

module _ (trail : List ℕ) (turn : ℕ) where
  lies-ups : (us : List ℕ) → ((i : ℕ) → i < length us → get_or trail (turn + i) 0 ≡ get_or (reverse us) i 0) →
      Lies trail turn turn (ups_of us) (turn + length us)
  lies-ups [] h = add-zero turn
  lies-ups (u ∷ us) h =
      let e : turn + length (u ∷ us) - 1 ≡ turn + length us = omega arith in
      let back = length_back us in
      let last : length us ≡ length (reverse us) + 0 = omega arith in
      let first : get_or trail (turn + length us) 0 ≡ u =
      h (length us) (omega arith)
      ∙ ap (λ (l : List ℕ). get_or l (length us) 0) (reverse-cons u us)
      ∙ ap (λ (i : ℕ). get_or (reverse us ++ (u ∷ [])) i 0) last
      ∙ get_or-append-add (reverse us) (u ∷ []) 0 0 in (
        omega arith,
        ap (λ (i : ℕ). get_or trail i 0) e ∙ first,
        ap (leb turn) e ∙ le-leb turn (turn + length us) (omega arith),
        subst (Lies trail turn turn (ups_of us)) (sym e)
            (lies-ups us (λ i b.
            h i (omega arith)
            ∙ ap (λ (l : List ℕ). get_or l i 0) (reverse-cons u us)
            ∙ get_or-append (reverse us) (u ∷ []) 0 i (omega arith))),
      )

  lies-downs : (ds : List ℕ) (used : ℕ) (hs : List Leg) (top : ℕ) → used + length ds ≤ turn →
      ((i : ℕ) → i < length ds → get_or trail (used + i) 0 ≡ get_or ds i 0) → Lies trail turn (used + length ds) hs top →
      Lies trail turn used (hs ++ downs_of ds) top
  lies-downs [] used hs top b h k = subst₂ (λ (i : ℕ) (gs : List Leg). Lies trail turn i gs top) (add-zero used) (sym (append-nil hs)) k
  lies-downs (d ∷ ds) used hs top b h k =
      let e : used + length (d ∷ ds) ≡ suc used + length ds = omega arith in
      subst (λ (gs : List Leg). Lies trail turn used gs top) (append_assoc hs (downs_of ds) _)
      (lies-under trail turn used (hs ++ downs_of ds) (record { age = d; up = false }) top
      (lies-downs ds (suc used) hs top (omega arith)
      (λ i c. ap (λ (n : ℕ). get_or trail n 0) (omega arith) ∙ h (suc i) (omega arith))
      (subst (λ (i : ℕ). Lies trail turn i hs top) e k))
      (ap (λ (n : ℕ). get_or trail n 0) (sym (add-zero used)) ∙ h 0 (omega arith))
      (lt-leb turn used (omega arith)))

laid-lies : (trail : List ℕ) (used : ℕ) (ds us : List ℕ) → used + length ds + length us ≤ length trail →
    Lies (splice trail used (ds ++ reverse us)) (used + length ds) used (ups_of us ++ downs_of ds) (used + length ds + length us)
laid-lies trail used ds us h =
    let t = splice trail used (ds ++ reverse us) in
    let back = length_back us in
    let n = length-append ds (reverse us) in
    let at : (i : ℕ) → i < length (ds ++ reverse us) → get_or t (used + i) 0 ≡ get_or (ds ++ reverse us) i 0 =
    splice-inside trail used (ds ++ reverse us) (omega arith) in
    lies-downs t (used + length ds) ds used (ups_of us) (used + length ds + length us) (omega arith)
    (λ i b. at i (omega arith) ∙ get_or-append ds (reverse us) 0 i b)
    (lies-ups t (used + length ds) us (λ i b.
    ap (λ (k : ℕ). get_or t k 0) (omega arith) ∙ at (length ds + i) (omega arith) ∙ get_or-append-add ds (reverse us) i 0))

-- The legs of a path are those of the two climbs.
module _ (rows : List Row) where
  abbrev leg_step : List Connection → (ℕ → ℕ → List Leg) → Connection → Bool → List Leg
  leg_step older _ c u = costly (cost_in rows (cur c)) (record { age = length older; up = u })

  abbrev age_step : List Connection → (ℕ → ℕ → List ℕ) → Connection → Bool → List ℕ
  age_step older _ c u = costly (cost_in rows (cur c)) (length older)

  costly-up : (k a : ℕ) → costly k (record { age = a; up = true }) ≡ ups_of (costly k a)
  costly-up zero a = refl
  costly-up (suc k) a = refl

  costly-down : (k a : ℕ) → costly k (record { age = a; up = false }) ≡ downs_of (costly k a)
  costly-down zero a = refl
  costly-down (suc k) a = refl

  hop-up : (cs : List Connection) (n : ℕ) → hop [] ◌++◌ leg_step cs n true ≡ ups_of (hop [] ◌++◌ age_step cs n true)
  unfolding hop
  hop-up cs n = go (parent_of cs n) refl
    where
      go : (p : Parent) → parent_of cs n ≡ p → hop [] ◌++◌ leg_step cs n true ≡ ups_of (hop [] ◌++◌ age_step cs n true)
      go highest q = rw q refl
      go (below c o) q = rw q (costly-up (cost_in rows (cur c)) (length o))

  hop-down : (cs : List Connection) (n : ℕ) → hop [] ◌++◌ leg_step cs n false ≡ downs_of (hop [] ◌++◌ age_step cs n true)
  unfolding hop
  hop-down cs n = go (parent_of cs n) refl
    where
      go : (p : Parent) → parent_of cs n ≡ p → hop [] ◌++◌ leg_step cs n false ≡ downs_of (hop [] ◌++◌ age_step cs n true)
      go highest q = rw q refl
      go (below c o) q = rw q (costly-down (cost_in rows (cur c)) (length o))

  climb-up : (k : ℕ) (cs : List Connection) (n : ℕ) → ups [] ◌++◌ leg_step cs k n ≡ ups_of (ups [] ◌++◌ age_step cs k n)
  unfolding ups
  climb-up zero cs n = refl
  climb-up (suc k) cs n = ap₂ ◌++◌ (hop-up cs n) (climb-up k cs (next_of cs n)) ∙ sym (ups-append (hop [] ◌++◌ age_step cs n true) _)

  climb-down : (k : ℕ) (cs : List Connection) (n : ℕ) → downs [] ◌++◌ leg_step cs k n ≡ downs_of (ups [] ◌++◌ age_step cs k n)
  unfolding ups downs
  climb-down zero cs n = refl
  climb-down (suc k) cs n = ap₂ ◌++◌ (climb-down k cs (next_of cs n)) (hop-down cs n) ∙ sym (downs-append (hop [] ◌++◌ age_step cs n true) _)

  module _ (cs : List Connection) (l r : ℕ) (f : Forest cs) (j : root cs l ≡ root cs r) where
    two-climbs : legs rows cs l r ≡ ups_of (ages rows cs l (top_of cs l r)) ++ downs_of (ages rows cs r (top_of cs l r))
    unfolding legs ages
    two-climbs =
        let m = halves [] ◌++◌ leg_step append_assoc (λ x. refl) append-nil cs l r f j in
        let a = walk-climb [] ◌++◌ age_step append_assoc (λ x. refl) append-nil m.i cs l f m.left-deep in
        let b = walk-climb [] ◌++◌ age_step append_assoc (λ x. refl) append-nil m.j cs r f m.right-deep in
        m.whole
        ∙ ap₂ ◌++◌
        (climb-up m.i cs l ∙ ap ups_of (sym a ∙ ap (ages rows cs l) m.left))
        (climb-down m.j cs r ∙ ap downs_of (sym b ∙ ap (ages rows cs r) m.right))

    -- as many as lie on the trail
    pub legs-long : length (legs rows cs l r) ≡ length (ages rows cs r (top_of cs l r)) + length (ages rows cs l (top_of cs l r))
    legs-long =
        let us = ages rows cs l (top_of cs l r) in
        let ds = ages rows cs r (top_of cs l r) in
        ap length two-climbs ∙ omega (arith, length-append (ups_of us) (downs_of ds), length-ups us, length-downs ds)

    -- A PATH THAT WAS LAID LIES ON THE TRAIL
    pub lies : {trail after : List ℕ} {used turn top : ℕ} → LaidOut rows cs trail used l r after turn top →
        used + length (legs rows cs l r) ≤ length trail → Lies after turn used (legs rows cs l r) top
    lies {trail} {used = used} {top = high} k h =
        let us = ages rows cs l (top_of cs l r) in
        let ds = ages rows cs r (top_of cs l r) in
        let a = k.turn_is in
        let b = k.top-is in
        let c : used + length ds + length us ≡ high = omega arith in
        rw (k.trail_is, two-climbs, a, ← c) (laid-lies trail used ds us (omega (arith, legs-long)))
