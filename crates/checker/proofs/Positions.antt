-- Marks and their positions: a row with a mark has one at a position, one with two has them at two, and one with one has it at one.
-- Assumes nothing.
use Prim.Native.Nat.{ℕ, zero, suc, ◌≤◌}
use mathlib.Core.List.{[], ◌∷◌}
use mathlib.Core.Option.{none-ne-some}
use mathlib.Core.Path.{◌≡◌, refl, ap, ap₂, ◌∙◌}
use native.Mathlib.Omega.{arith}
use native.Mathlib.Decide.{ℕ_discrete}
use Rattle.model.specs.declared.Direction.{Direction}
use Rattle.model.specs.Term.{Mark, unmarked, marked, Terms, no_terms, tree, Term, mark_count, marks}
use Rattle.model.specs.Book.{Position, subterm, MarkAt}
use Rattle.checker.specs.Fault.{TwoMarks}

-- a mark among a node's children, and one behind a term, are marks of the row
pub inside : {o j : ℕ} {x m : Mark} {k s : Terms} {p : Position} → MarkAt k (j ∷ p) m → MarkAt (tree o x k s) (zero ∷ j ∷ p) m
unfolding subterm
inside h = record { term = h.term; stands = h.stands; bears = h.bears }

pub behind : {o j : ℕ} {x m : Mark} {k s : Terms} {p : Position} → MarkAt s (j ∷ p) m → MarkAt (tree o x k s) (suc j ∷ p) m
unfolding subterm
behind h = record { term = h.term; stands = h.stands; bears = h.bears }

pub here : {o : ℕ} {x : Mark} {k s : Terms} → MarkAt (tree o x k s) (zero ∷ []) x
unfolding subterm
here {o} {x} {k} {s} = record { term = record { op = o; mark = x; kids = k }; stands = refl; bears = refl }

-- and the other way round
pub root : {o : ℕ} {x m : Mark} {k s : Terms} → MarkAt (tree o x k s) (zero ∷ []) m → x ≡ m
unfolding subterm
root {o} {x} {m} {k} {s} h =
    let e : record { op = o; mark = x; kids = k } ≡ h.term = cc in ap (λ (t : Term). t.mark) e ∙ h.bears

pub among : {o j : ℕ} {x m : Mark} {k s : Terms} {p : Position} → MarkAt (tree o x k s) (zero ∷ j ∷ p) m → MarkAt k (j ∷ p) m
unfolding subterm
among h = record { term = h.term; stands = h.stands; bears = h.bears }

pub after : {o j : ℕ} {x m : Mark} {k s : Terms} {p : Position} → MarkAt (tree o x k s) (suc j ∷ p) m → MarkAt s (j ∷ p) m
unfolding subterm
after h = record { term = h.term; stands = h.stands; bears = h.bears }

pub nowhere : {p : Position} {m : Mark} {A : Type 0} → MarkAt no_terms p m → A
unfolding subterm
nowhere h = absurd (none-ne-some h.term h.stands)

pub unplaced : {o : ℕ} {x m : Mark} {k s : Terms} {A : Type 0} → MarkAt (tree o x k s) [] m → A
unfolding subterm
unplaced h = absurd (none-ne-some h.term h.stands)

counts-one : {x : Mark} {d : Direction} {n : ℕ} → x ≡ marked d n → mark_count x ≡ 1
counts-one e = ap mark_count e

-- a mark at a position counts
pub counts : (t : Terms) (p : Position) (d : Direction) (n : ℕ) → MarkAt t p (marked d n) → 1 ≤ marks t
unfolding marks
counts no_terms p d n h = nowhere h
counts (tree o x k s) [] d n h = unplaced h
counts (tree o x k s) (zero ∷ []) d n h = omega (arith, counts-one (root h))
counts (tree o x k s) (zero ∷ j ∷ p) d n h = omega (arith, counts k (j ∷ p) d n (among h))
counts (tree o x k s) (suc j ∷ p) d n h = omega (arith, counts s (j ∷ p) d n (after h))

-- a row with a mark has one somewhere
pub record HasMark (t : Terms) : Type 0 where
  pub index : ℕ
  pub path : Position
  pub way : Direction
  pub number : ℕ
  pub is : MarkAt t (index ∷ path) (marked way number)

module _ {o : ℕ} {x : Mark} {k s : Terms} where
  mark-inside : HasMark k → HasMark (tree o x k s)
  mark-inside f = record { index = 0; path = f.index ∷ f.path; way = f.way; number = f.number; is = inside f.is }

  mark-behind : HasMark s → HasMark (tree o x k s)
  mark-behind f = record { index = suc f.index; path = f.path; way = f.way; number = f.number; is = behind f.is }

top : {o n : ℕ} {d : Direction} {k s : Terms} → HasMark (tree o (marked d n) k s)
top {o} {n} {d} {k} {s} = record { index = 0; path = []; way = d; number = n; is = here }

pub find : (t : Terms) → 1 ≤ marks t → HasMark t
unfolding marks
find no_terms h = absurd (omega arith)
find (tree o unmarked k s) h =
    elim (ℕ_discrete (marks k) 0) [
      | yes z ↦ mark-behind (find s (omega arith))
      | no z ↦ mark-inside (find k (omega arith))
    ]
find (tree o (marked d n) k s) h = top

-- one with two has them at two positions
record Two (t : Terms) : Type 0 where
  a : HasMark t
  b : HasMark t
  apart : a.index ∷ a.path ≡ b.index ∷ b.path → ⊥

two-heads : {i j : ℕ} {p q : Position} → (i ≡ j → ⊥) → i ∷ p ≡ j ∷ q → ⊥
two-heads {i} {j} h e = let z : i ≡ j = cc in h z

module _ {o : ℕ} {x : Mark} {k s : Terms} where
  two-behind : Two s → Two (tree o x k s)
  unfolding mark-behind
  two-behind t =
      record {
        a = mark-behind t.a;
        b = mark-behind t.b;
        apart = λ e.
            let i : suc t.a.index ≡ suc t.b.index = cc in
            let r : t.a.path ≡ t.b.path = cc in
            t.apart (ap₂ ◌∷◌ (omega arith) r);
      }

  two-inside : Two k → Two (tree o x k s)
  unfolding mark-inside
  two-inside t =
      record {
        a = mark-inside t.a;
        b = mark-inside t.b;
        apart = λ e. let r : t.a.index ∷ t.a.path ≡ t.b.index ∷ t.b.path = cc in t.apart r;
      }

  two-beside : HasMark k → HasMark s → Two (tree o x k s)
  unfolding mark-inside mark-behind
  two-beside f g = record { a = mark-inside f; b = mark-behind g; apart = two-heads (λ e. omega arith) }

module _ {o n : ℕ} {d : Direction} {k s : Terms} where
  top-inside : HasMark k → Two (tree o (marked d n) k s)
  unfolding top mark-inside
  top-inside f = record { a = top; b = mark-inside f; apart = λ e. let z : ◌≡◌ {A = ℕ} 0 1 = cc in omega arith }

  top-behind : HasMark s → Two (tree o (marked d n) k s)
  unfolding top mark-behind
  top-behind f = record { a = top; b = mark-behind f; apart = two-heads (λ e. omega arith) }

find-two : (t : Terms) → 2 ≤ marks t → Two t
unfolding marks
find-two no_terms h = absurd (omega arith)
find-two (tree o unmarked k s) h =
    elim (ℕ_discrete (marks k) 0) [
      | yes y ↦ two-behind (find-two s (omega arith))
      | no y ↦
          elim (ℕ_discrete (marks s) 0) [
            | yes z ↦ two-inside (find-two k (omega arith))
            | no z ↦ two-beside (find k (omega arith)) (find s (omega arith))
          ]
    ]
find-two (tree o (marked d n) k s) h =
    elim (ℕ_discrete (marks k) 0) [
      | yes y ↦ top-behind (find s (omega arith))
      | no y ↦ top-inside (find k (omega arith))
    ]

pub two-marks : (t : Terms) → 2 ≤ marks t → TwoMarks t
two-marks t h =
    let f = find-two t h in
    record {
      first = f.a.index ∷ f.a.path;
      second = f.b.index ∷ f.b.path;
      apart = f.apart;
      way = f.a.way;
      number = f.a.number;
      is_first = f.a.is;
      way' = f.b.way;
      number' = f.b.number;
      is_second = f.b.is;
    }

-- and one with one has it at one
pub one_place : (t : Terms) → marks t ≤ 1 → (p q : Position) (d e : Direction) (m n : ℕ) → MarkAt t p (marked d m) → MarkAt t q (marked e n) → p ≡ q
unfolding marks
one_place no_terms l p q d e m n g h = nowhere g
one_place (tree o x k s) l [] q d e m n g h = unplaced g
one_place (tree o x k s) l (zero ∷ []) [] d e m n g h = unplaced h
one_place (tree o x k s) l (zero ∷ []) (zero ∷ []) d e m n g h = refl
one_place (tree o x k s) l (zero ∷ []) (zero ∷ j ∷ q) d e m n g h =
    absurd (omega (arith, counts-one (root g), counts k (j ∷ q) e n (among h)))
one_place (tree o x k s) l (zero ∷ []) (suc j ∷ q) d e m n g h =
    absurd (omega (arith, counts-one (root g), counts s (j ∷ q) e n (after h)))
one_place (tree o x k s) l (zero ∷ i ∷ p) [] d e m n g h = unplaced h
one_place (tree o x k s) l (zero ∷ i ∷ p) (zero ∷ []) d e m n g h =
    absurd (omega (arith, counts-one (root h), counts k (i ∷ p) d m (among g)))
one_place (tree o x k s) l (zero ∷ i ∷ p) (zero ∷ j ∷ q) d e m n g h =
    ap (λ (r : Position). zero ∷ r) (one_place k (omega arith) (i ∷ p) (j ∷ q) d e m n (among g) (among h))
one_place (tree o x k s) l (zero ∷ i ∷ p) (suc j ∷ q) d e m n g h =
    absurd (omega (arith, counts k (i ∷ p) d m (among g), counts s (j ∷ q) e n (after h)))
one_place (tree o x k s) l (suc i ∷ p) [] d e m n g h = unplaced h
one_place (tree o x k s) l (suc i ∷ p) (zero ∷ []) d e m n g h =
    absurd (omega (arith, counts-one (root h), counts s (i ∷ p) d m (after g)))
one_place (tree o x k s) l (suc i ∷ p) (zero ∷ j ∷ q) d e m n g h =
    absurd (omega (arith, counts k (j ∷ q) e n (among h), counts s (i ∷ p) d m (after g)))
one_place (tree o x k s) l (suc i ∷ p) (suc j ∷ q) d e m n g h =
    let r = one_place s (omega arith) (i ∷ p) (j ∷ q) d e m n (after g) (after h) in
    let a : i ≡ j = cc in
    let b : p ≡ q = cc in
    ap₂ ◌∷◌ (ap suc a) b
