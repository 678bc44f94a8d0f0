-- Laws of a child's run within its node, the other children held: each of its terms becomes one term, by what is held larger,
-- with the same marks, and the last becomes the last.
use Prim.Native.Nat.{ℕ, suc, ◌+◌, ◌*◌, ◌≤◌}
use mathlib.Core.Path.{◌≡◌, refl, sym, ap, ap₂, ◌∙◌}
use mathlib.Core.List.{List}
use native.Mathlib.Omega.{arith}
use Rattle.model.specs.Term.{unmarked, Terms, no_terms, tree, one, count, join, strip, Narrow, size, marks}
use Rattle.model.specs.Limits.{child_limit}
use Rattle.model.specs.Node.{Node, term_of}
use Rattle.model.specs.Flat.{within}
use Rattle.flat.specs.Marks.{OneMarkEach}
use Rattle.flat.specs.Ends.{last_or, Leads}
use Rattle.terms.proofs.Rows.{count-join, narrow-join, strip-join, size-join}
use Rattle.terms.proofs.Marks.{marks-join, unmarked-strip}

-- the last term of two rows, of rows that are alike but for marks
pub last-join : (t f g : Terms) → last_or t (join f g) ≡ last_or (last_or t f) g
unfolding last_or join
last-join t no_terms g = refl
last-join t (tree o m k s) g = last-join (tree o m k no_terms) s g

pub last-alike : (t u f : Terms) → strip t ≡ strip u → strip (last_or t f) ≡ strip (last_or u f)
unfolding last_or
last-alike t u no_terms p = p
last-alike t u (tree o m k s) p = refl

pub leads-join : (ns : List Node) (l m r : ℕ) (f g : Terms) → Leads ns l m f → Leads ns m r g → Leads ns l r (join f g)
leads-join ns l m r f g v w =
    ap strip (last-join (one (term_of ns l)) f g)
    ∙ last-alike (last_or (one (term_of ns l)) f) (one (term_of ns m)) g v
    ∙ w

module _ (o : ℕ) (before behind : Terms) where
  pub within_count : (f : Terms) → count (within o before behind f) ≡ count f
  unfolding count within
  within_count no_terms = refl
  within_count (tree p m k s) = ap suc (within_count s)

  pub within-size : (f : Terms) → size (within o before behind f) ≡ size f + count f * (suc (size before) + size behind)
  unfolding size count within
  within-size no_terms = omega arith
  within-size (tree p m k s) = omega (arith, within-size s, size-join before (tree p m k behind))

  pub within-last : (t f : Terms) →
      last_or (within o before behind t) (within o before behind f) ≡ within o before behind (last_or t f)
  unfolding last_or within
  within-last t no_terms = refl
  within-last t (tree p m k s) = within-last (tree p m k no_terms) s

  pub within-narrow : Narrow before → Narrow behind → suc (count before + count behind) ≤ child_limit → (f : Terms) → Narrow f →
      Narrow (within o before behind f)
  unfolding Narrow count within
  within-narrow b h c no_terms e = tt
  within-narrow b h c (tree p m k s) e =
      let kids = tree p m k behind in
      (omega (arith, count-join before kids), narrow-join before kids b (e.0, e.1, h), within-narrow b h c s e.2)

  pub within-one-mark : marks before ≡ 0 → marks behind ≡ 0 → (f : Terms) → OneMarkEach f →
      OneMarkEach (within o before behind f)
  unfolding OneMarkEach marks within
  within-one-mark b h no_terms e = tt
  within-one-mark b h (tree p m k s) e = (omega (arith, marks-join before (tree p m k behind), e.0), within-one-mark b h s e.1)

  pub within-strip : marks before ≡ 0 → marks behind ≡ 0 → (f : Terms) →
      strip (within o before behind f) ≡ within o before behind (strip f)
  unfolding strip within
  within-strip b h no_terms = refl
  within-strip b h (tree p m k s) =
      ap₂ (tree o unmarked)
      (strip-join before (tree p m k behind)
      ∙ ap₂ join (unmarked-strip before b) (ap (tree p unmarked (strip k)) (unmarked-strip behind h)))
      (within-strip b h s)

  -- a run from a term like u to one like v, and its node from within u to within v
  pub within-arrives : marks before ≡ 0 → marks behind ≡ 0 → (t u f v : Terms) → strip t ≡ strip (within o before behind u) →
      strip (last_or u f) ≡ strip v → strip (last_or t (within o before behind f)) ≡ strip (within o before behind v)
  within-arrives b h t u f v p q =
      last-alike t (within o before behind u) (within o before behind f) p
      ∙ ap strip (within-last u f)
      ∙ within-strip b h (last_or u f)
      ∙ ap (within o before behind) q
      ∙ sym (within-strip b h v)
