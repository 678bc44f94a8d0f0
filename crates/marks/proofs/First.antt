-- A row from its first mark on: laws of the definition.
-- Assumes nothing.
use Prim.Native.Nat.{ℕ, ◌+◌, ◌≤◌}
use mathlib.Core.Bool.{Bool, false, ◌||◌}
use mathlib.Core.Path.{◌≡◌, refl, sym, ap, subst, ◌∙◌}
use native.Mathlib.Omega.{arith}
use Rattle.model.specs.Term.{Mark, unmarked, marked, Terms, no_terms, tree, join, count, size, mark_count, marks, mark_word}
use Rattle.model.specs.Step.{some_mark}
use Rattle.terms.proofs.Read.{direction-some}
use Rattle.terms.proofs.Rows.{join-assoc, size-join}
use Rattle.terms.proofs.Marks.{marks-join, some-join}
use Rattle.marks.specs.Marks.{or_behind, from_mark}

-- in rows one behind the other
behind-behind : (k r s x y : Terms) → or_behind k (join r s) (or_behind x s y) ≡ or_behind (or_behind k r x) s y
unfolding join
behind-behind no_terms r s x y = refl
behind-behind (tree o m k t) r s x y = sym (join-assoc (tree o m k t) r s)

pub from-join : (k s : Terms) → from_mark (join k s) ≡ or_behind (from_mark k) s (from_mark s)
unfolding from_mark join
from-join no_terms s = refl
from-join (tree o unmarked k r) s =
    ap (or_behind (from_mark k) (join r s)) (from-join r s) ∙ behind-behind (from_mark k) r s (from_mark r) (from_mark s)
from-join (tree o (marked d n) k r) s = refl

-- a node with no mark word is passed, and what is below it and behind it goes on; one with a mark word is the first
pub from-down : (o : ℕ) (m : Mark) (k s : Terms) → mark_word m ≡ 0 → from_mark (join k s) ≡ from_mark (tree o m k s)
unfolding from_mark
from-down o unmarked k s e = from-join k s
from-down o (marked d n) k s e = absurd (direction-some d e)

pub from-here : (o : ℕ) (m : Mark) (k s : Terms) → (mark_word m ≡ 0 → ⊥) → from_mark (tree o m k s) ≡ tree o m k s
unfolding from_mark
from-here o unmarked k s h = absurd (h refl)
from-here o (marked d n) k s h = refl

-- what is left has the row's marks, and is no larger
parts-marks : (x s r : Terms) → marks r ≡ marks s → marks (or_behind x s r) ≡ marks x + marks s
unfolding marks
parts-marks no_terms s r h = omega arith
parts-marks (tree o m k t) s r h = marks-join (tree o m k t) s

pub from-marks : (f : Terms) → marks (from_mark f) ≡ marks f
unfolding from_mark marks
from-marks no_terms = refl
from-marks (tree o unmarked k s) = omega (arith, parts-marks (from_mark k) s (from_mark s) (from-marks s), from-marks k)
from-marks (tree o (marked d n) k s) = refl

parts-size : (x s r : Terms) → size r ≤ size s → size (or_behind x s r) ≤ size x + size s
unfolding size
parts-size no_terms s r h = omega arith
parts-size (tree o m k t) s r h = omega (arith, size-join (tree o m k t) s)

pub from-size : (f : Terms) → size (from_mark f) ≤ size f
unfolding from_mark size
from-size no_terms = omega arith
from-size (tree o unmarked k s) = omega (arith, parts-size (from_mark k) s (from_mark s) (from-size s), from-size k)
from-size (tree o (marked d n) k s) = omega arith

-- what is as large as the row is the row
pub from-whole : (f : Terms) → size (from_mark f) ≡ size f → from_mark f ≡ f
unfolding from_mark size
from-whole no_terms e = refl
from-whole (tree o unmarked k s) e = absurd (omega (arith, parts-size (from_mark k) s (from_mark s) (from-size s), from-size k))
from-whole (tree o (marked d n) k s) e = refl

-- and so of the marks of a kind that the unmarked are not of
module _ (p : Mark → Bool) (u : p unmarked ≡ false) where
  parts-some : (x s r : Terms) → some_mark p r ≡ some_mark p s → some_mark p (or_behind x s r) ≡ (some_mark p x || some_mark p s)
  unfolding some_mark
  parts-some no_terms s r h = h
  parts-some (tree o m k t) s r h = some-join p (tree o m k t) s

  pub from_some : (f : Terms) → some_mark p (from_mark f) ≡ some_mark p f
  unfolding from_mark some_mark
  from_some no_terms = refl
  from_some (tree o unmarked k s) =
      parts-some (from_mark k) s (from_mark s) (from_some s) ∙ rw (u, from_some k)
  from_some (tree o (marked d n) k s) = refl

-- it begins with a mark, if it is not empty
unfoldable pub Headed : Terms → Type 0
Headed no_terms = Unit {0}
Headed (tree o m k s) = mark_word m ≡ 0 → ⊥

parts-headed : (x s r : Terms) → Headed x → Headed r → Headed (or_behind x s r)
unfolding Headed join
parts-headed no_terms s r h i = i
parts-headed (tree o m k t) s r h i = h

pub headed : (f : Terms) → Headed (from_mark f)
unfolding Headed from_mark
headed no_terms = tt
headed (tree o unmarked k s) = parts-headed (from_mark k) s (from_mark s) (headed k) (headed s)
headed (tree o (marked d n) k s) = direction-some d

-- so it is empty exactly where the row has no mark
head-one : (m : Mark) (n : ℕ) → (mark_word m ≡ 0 → ⊥) → 1 ≤ mark_count m + n
head-one unmarked n h = absurd (h refl)
head-one (marked d r) n h = omega arith

pub some_left : (f : Terms) (g : Terms) → from_mark f ≡ g → (count g ≡ 0 → ⊥) → 1 ≤ marks f
unfolding marks count Headed
some_left f no_terms e h = absurd (h refl)
some_left f (tree o m k s) e h =
    let i : mark_word m ≡ 0 → ⊥ = subst Headed e (headed f) in omega (arith, head-one m (marks k + marks s) i, from-marks f, ap marks e)

pub none-empty : (f : Terms) → marks f ≡ 0 → from_mark f ≡ no_terms
unfolding count
none-empty f z = go (from_mark f) refl
  where
    go : (g : Terms) → from_mark f ≡ g → g ≡ no_terms
    go no_terms e = refl
    go (tree o m k s) e = absurd (omega (arith, z, some_left f (tree o m k s) e (λ c. omega arith)))
