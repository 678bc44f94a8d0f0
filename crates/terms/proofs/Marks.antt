-- The marks of rows: how many there are in rows one behind the other, and rows that have none.
-- Assumes nothing.
use Prim.Native.Nat.{◌+◌}
use mathlib.Core.Bool.{Bool, false, ◌||◌, or_assoc, true≢false}
use mathlib.Core.Path.{◌≡◌, refl, sym, ap, ap₂, ◌∙◌}
use native.Mathlib.Omega.{arith}
use Rattle.model.specs.Term.{Mark, unmarked, marked, Terms, no_terms, tree, join, strip, marks}
use Rattle.model.specs.Step.{some_mark, is_mark}
use Rattle.laws.proofs.Truth.{neither}

pub marks-join : (f g : Terms) → marks (join f g) ≡ marks f + marks g
unfolding marks join
marks-join no_terms g = omega arith
marks-join (tree o m k s) g = omega (arith, marks-join s g)

pub some-join : (p : Mark → Bool) (k s : Terms) → some_mark p (join k s) ≡ (some_mark p k || some_mark p s)
unfolding some_mark join
some-join p no_terms s = refl
some-join p (tree o m k r) s =
    ap (λ (b : Bool). p m || (some_mark p k || b)) (some-join p r s)
    ∙ (ap (λ (b : Bool). p m || b) (sym (or_assoc (some_mark p k) (some_mark p r) (some_mark p s)))
    ∙ sym (or_assoc (p m) (some_mark p k || some_mark p r) (some_mark p s)))

-- no mark, none of any kind that the unmarked are not of
pub no-mark : (p : Mark → Bool) → p unmarked ≡ false → (f : Terms) → marks f ≡ 0 → some_mark p f ≡ false
unfolding marks some_mark
no-mark p u no_terms h = refl
no-mark p u (tree o unmarked k s) h = rw (u, no-mark p u k (omega arith), no-mark p u s (omega arith))
no-mark p u (tree o (marked d n) k s) h = absurd (omega arith)

pub none_found : (f : Terms) → some_mark is_mark f ≡ false → marks f ≡ 0
unfolding marks some_mark
none_found no_terms h = refl
none_found (tree o unmarked k s) h =
    let p = neither (some_mark is_mark k) (some_mark is_mark s) h in omega (arith, none_found k p.0, none_found s p.1)
none_found (tree o (marked d n) k s) h = absurd (true≢false h)

-- a row without marks is itself without its marks, and the other way round
pub unmarked-strip : (f : Terms) → marks f ≡ 0 → strip f ≡ f
unfolding marks strip
unmarked-strip no_terms h = refl
unmarked-strip (tree o unmarked k s) h = ap₂ (tree o unmarked) (unmarked-strip k (omega arith)) (unmarked-strip s (omega arith))
unmarked-strip (tree o (marked d n) k s) h = absurd (omega arith)

pub strip-unmarked : (f : Terms) → marks (strip f) ≡ 0
unfolding marks strip
strip-unmarked no_terms = refl
strip-unmarked (tree o m k s) = omega (arith, strip-unmarked k, strip-unmarked s)
