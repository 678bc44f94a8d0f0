-- One mark, none, or more, from two walks: to the first mark, and from behind it on.
-- Assumes nothing.
use Prim.Native.Nat.{ℕ, zero, suc, ◌+◌, ◌-◌, ◌*◌, ◌≤◌, ◌<◌}
use mathlib.Core.Bool.{Bool, true, false}
use mathlib.Core.List.{List}
use mathlib.Core.Path.{◌≡◌, refl, sym, ap, ◌∙◌}
use native.Mathlib.Omega.{arith}
use borrow.Author.Tests.{ne_eqb}
use lib.ListN.{length}
use Rattle.model.specs.Limits.{flat_words}
use Rattle.model.specs.Term.{Mark, unmarked, marked, Terms, no_terms, tree, Term, one, join, count, size, mark_count, marks, mark_word}
use Rattle.model.specs.Step.{some_mark, is_mark}
use Rattle.terms.specs.Place.{TermAt, RowAt, node_of}
use Rattle.std.specs.Prelude.{not, nat_eq}
use Rattle.marks.specs.declared.Rest.{Rest}
use Rattle.terms.proofs.Place.{row-tree, term-length, term-row}
use Rattle.terms.proofs.Rows.{size-join, count_none, length-words}
use Rattle.terms.proofs.Marks.{marks-join, no-mark, none_found}
use Rattle.marks.specs.Marks.{from_mark, RestOf, RestIs, OneAt}
use Rattle.marks.proofs.First.{from-marks, headed, Headed, some_left}

pub none_left : (ws : List ℕ) (at nodes pending : ℕ) (f : Terms) → RestOf ws at nodes pending f → pending ≡ 0 → marks f ≡ 0
unfolding marks
none_left ws at nodes pending f r z = sym (from-marks f) ∙ ap marks (count_none (from_mark f) (r.left.counted ∙ z))

-- a row has a mark exactly where something is left
pub left-marked : (ws : List ℕ) (at nodes pending : ℕ) (f : Terms) → RestOf ws at nodes pending f → not (nat_eq pending 0) ≡ some_mark is_mark f
left-marked ws at nodes zero f r = sym (no-mark is_mark refl f (none_left ws at nodes zero f r refl))
left-marked ws at nodes (suc n) f r = rw (ne_eqb (suc n) 0 (λ z. omega arith)) (go (some_mark is_mark f) refl)
  where
    go : (b : Bool) → some_mark is_mark f ≡ b → true ≡ b
    go true e = refl
    go false e = absurd (omega (arith, none_found f e, some_left f (from_mark f) refl (λ z. omega (arith, z, r.left.counted))))

-- what is left of a term at its first mark: that node, and the row below and behind it
pub record AtMark (ws : List ℕ) (at nodes pending : ℕ) (f : Terms) : Type 0 where
  pub below : Terms
  pub row : RowAt ws (at + flat_words * nodes + flat_words) (pending - 1 + (node_of ws (at + flat_words * nodes)).count) below
  pub counted : marks f ≡ suc (marks below)
  pub sized : size f ≡ nodes + suc (size below)
  pub room : at + flat_words * nodes + flat_words ≤ length ws

head-mark : (m : Mark) → (mark_word m ≡ 0 → ⊥) → mark_count m ≡ 1
head-mark unmarked h = absurd (h refl)
head-mark (marked d n) h = refl

module _ (ws : List ℕ) (at nodes pending : ℕ) (f : Terms) (r : RestOf ws at nodes pending f) where
  go : 0 < pending → (g : Terms) → from_mark f ≡ g → AtMark ws at nodes pending f
  unfolding count marks size Headed
  go l no_terms e = absurd (omega (arith, r.left.counted, ap count e))
  go l (tree o m k s) e =
      let p : pending ≡ suc (pending - 1) = omega arith in
      let t = row-tree ws (at + flat_words * nodes) (pending - 1) o m k s (rw p at (rw e at r.left)) in
      let c : pending - 1 + (node_of ws (at + flat_words * nodes)).count ≡ count k + (pending - 1) = omega (arith, t.kids) in
      let h : mark_count m ≡ 1 = head-mark m (rw e at (headed f)) in
      record {
        below = join k s;
        row = rw c t.below;
        counted = omega (arith, h, marks-join k s, from-marks f, ap marks e);
        sized = omega (arith, size-join k s, r.walked, ap size e);
        room = t.room;
      }

  at_mark : 0 < pending → AtMark ws at nodes pending f
  at_mark l = go l (from_mark f) refl

-- so of the term at a place
pub first_mark : (ws : List ℕ) (at e : ℕ) (t : Term) (r : Rest) → TermAt ws at e t → RestIs ws at 1 r → 0 < r.pending
    → AtMark ws at r.nodes r.pending (one t)
first_mark ws at e t r h q l = at_mark ws at r.nodes r.pending (one t) (q (one t) (term-row ws at e t h)) l

module _ (ws : List ℕ) (at nodes pending : ℕ) (l : 0 < pending) where
  abbrev below_at : ℕ
  below_at = at + flat_words * nodes + flat_words

  abbrev below-count : ℕ
  below-count = pending - 1 + (node_of ws (at + flat_words * nodes)).count

  module _ (nodes' pending' : ℕ) (f : Terms) (r : RestOf ws at nodes pending f) (q : (g : Terms) → RowAt ws below_at below-count g → RestOf ws below_at nodes' pending' g) where
    -- a second mark is left
    pub two-marks : (pending' ≡ 0 → ⊥) → marks f ≡ 1 → ⊥
    two-marks h e =
        let a = at_mark ws at nodes pending f r l in
        let b = q a.below a.row in
        omega (arith, a.counted, e, some_left a.below (from_mark a.below) refl (λ z. h (sym b.left.counted ∙ z)))

    -- none is
    pub one_only : pending' ≡ 0 → marks f ≡ 1
    one_only z =
        let a = at_mark ws at nodes pending f r l in
        omega (arith, a.counted, none_left ws below_at nodes' pending' a.below (q a.below a.row) z)

    pub whole-size : pending' ≡ 0 → size f ≡ nodes + suc nodes'
    unfolding size
    whole-size z =
        let a = at_mark ws at nodes pending f r l in
        let b = q a.below a.row in
        omega (arith, a.sized, b.walked, ap size (count_none (from_mark a.below) (b.left.counted ∙ z)))

  pub one_at : (e nodes' pending' : ℕ) (t : Term) → TermAt ws at e t → RestOf ws at nodes pending (one t)
      → ((g : Terms) → RowAt ws below_at below-count g → RestOf ws below_at nodes' pending' g) → pending' ≡ 0
      → OneAt ws at e nodes (below_at + flat_words * nodes') t
  one_at e nodes' pending' t h r q z =
      record {
        alone = one_only nodes' pending' (one t) r q z;
        ends = omega (arith, whole-size nodes' pending' (one t) r q z, term-length ws at e t h, length-words (one t));
        rest = rw r.left.counted r;
      }
