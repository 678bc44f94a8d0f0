-- The model's terms as the Rust's flat terms, and what the Rust's operations on flat terms are on them.
use Prim.Native.Nat.{ℕ, suc, ◌+◌, ◌<◌}
use mathlib.Core.Path.{◌≡◌, refl, ap, ap₂, ◌∙◌}
use mathlib.Core.Bool.{false}
use mathlib.Core.Option.{Option, none, some}
use native.Mathlib.Omega.{arith}
use borrow.Author.Tests.{eq-eqb, ne_eqb}
use Rattle.model.specs.declared.Direction.TheVariants.{Forward, Backward}
use Rattle.model.specs.Term.{Mark, unmarked, marked, Terms, no_terms, tree, count, join, strip}
use Rattle.model.specs.Flat.{within}
use Rattle.flat.specs.Ends.{last_or, last}
use Rattle.rust.specs.Flatten.{Flats, no_flats, flat_term, last_of, drop_last, extend}
use Rattle.rust.specs.Flatten.{has_forward, has_backward, remove_rewrites, combine_rewrites, set_term, replaced, pushed}
use Rattle.rust.specs.Read.{mark_of, terms_of}
use Rattle.rust.proofs.Vectors.{on}

-- a mark as backward_rule and forward_rule
abbrev pub back_rule : Mark → Option ℕ
back_rule unmarked = none
back_rule (marked Forward n) = none
back_rule (marked Backward n) = some n

abbrev pub fore_rule : Mark → Option ℕ
fore_rule unmarked = none
fore_rule (marked Forward n) = some n
fore_rule (marked Backward n) = none

unfoldable pub flats : Terms → Flats
flats no_terms = no_flats
flats (tree o m k s) = flat_term o (back_rule m) (fore_rule m) (flats k) (flats s)

mark-back : (m : Mark) → mark_of (back_rule m) (fore_rule m) ≡ some m
mark-back unmarked = refl
mark-back (marked Forward n) = refl
mark-back (marked Backward n) = refl

pub read_back : (t : Terms) → terms_of (flats t) ≡ some t
unfolding flats terms_of
read_back no_terms = refl
read_back (tree o m k s) = on _ (mark-back m) ∙ on _ (read_back k) ∙ on _ (read_back s)

pub extend-flats : (a b : Terms) → extend (flats a) (flats b) ≡ flats (join a b)
unfolding flats extend join
extend-flats no_terms b = refl
extend-flats (tree o m k s) b = ap (flat_term o (back_rule m) (fore_rule m) (flats k)) (extend-flats s b)

pub remove-flats : (t : Terms) → remove_rewrites (flats t) ≡ flats (strip t)
unfolding flats remove_rewrites strip
remove-flats no_terms = refl
remove-flats (tree o m k s) = ap₂ (flat_term o none none) (remove-flats k) (remove-flats s)

-- all terms of a row but the last
unfoldable pub front : Terms → Terms
front no_terms = no_terms
front (tree o m k no_terms) = no_terms
front (tree o m k (tree o' m' k' s)) = tree o m k (front (tree o' m' k' s))

pub front-last : (o : ℕ) (m : Mark) (k s : Terms) → join (front (tree o m k s)) (last (tree o m k s)) ≡ tree o m k s
unfolding join front last last_or
front-last o m k no_terms = refl
front-last o m k (tree o' m' k' s) = ap (tree o m k) (front-last o' m' k' s)

pub drop-flats : (t : Terms) → drop_last (flats t) ≡ flats (front t)
unfolding flats drop_last front
drop-flats no_terms = refl
drop-flats (tree o m k no_terms) = refl
drop-flats (tree o m k (tree o' m' k' s)) = ap (flat_term o (back_rule m) (fore_rule m) (flats k)) (drop-flats (tree o' m' k' s))

pub last-flats : (o : ℕ) (m : Mark) (k s : Terms) → last_of (flats (tree o m k s)) ≡ some (flats (last (tree o m k s)))
unfolding flats last_of last last_or
last-flats o m k no_terms = refl
last-flats o m k (tree o' m' k' s) = last-flats o' m' k' s

-- an unmarked row has no rewrite, and combining puts the marks of the marked row on it
pub no-forward : (t : Terms) → has_forward (flats (strip t)) ≡ false
unfolding flats strip has_forward
no-forward no_terms = refl
no-forward (tree o m k s) = rw (no-forward k, no-forward s) refl

pub no-backward : (t : Terms) → has_backward (flats (strip t)) ≡ false
unfolding flats strip has_backward
no-backward no_terms = refl
no-backward (tree o m k s) = rw (no-backward k, no-backward s) refl

pub combine-flats : (t : Terms) → combine_rewrites (flats (strip t)) (flats t) ≡ some (flats t)
unfolding flats strip combine_rewrites
combine-flats no_terms = refl
combine-flats (tree o unmarked k s) = on _ (combine-flats k) ∙ on _ (combine-flats s)
combine-flats (tree o (marked Forward n) k s) = on _ (combine-flats k) ∙ on _ (combine-flats s)
combine-flats (tree o (marked Backward n) k s) = on _ (combine-flats k) ∙ on _ (combine-flats s)

-- a term of a row set, by its place
pub set-flats : (b c s : Terms) (o : ℕ) (m : Mark) (k : Terms) →
    set_term (count b) (flats c) (flats (join b (tree o m k s))) ≡ some (flats (join b (join c s)))
unfolding flats set_term join count
set-flats no_terms c s o m k = ap some (extend-flats c s)
set-flats (tree o' m' k' b) c s o m k = on _ (set-flats b c s o m k)

-- the loop that replaces one: those before it, and those behind it, stay
kept-behind : (i j : ℕ) (c s : Terms) → i < j → replaced i (flats c) j (flats s) ≡ flats s
unfolding flats replaced extend
kept-behind i j c no_terms h = refl
kept-behind i j c (tree o m k s) h =
    rw (ne_eqb j i (λ e. omega arith)) (ap (flat_term o (back_rule m) (fore_rule m) (flats k)) (kept-behind i (suc j) c s (omega arith)))

replace-flats : (i j : ℕ) (b c s : Terms) (o : ℕ) (m : Mark) (k : Terms) → i ≡ j + count b →
    replaced i (flats c) j (flats (join b (tree o m k s))) ≡ flats (join b (join c s))
unfolding flats replaced extend join count
replace-flats i j no_terms c s o m k e =
    rw (eq-eqb j i (omega arith)) (ap (extend (flats c)) (kept-behind i (suc j) c s (omega arith)) ∙ extend-flats c s)
replace-flats i j (tree o' m' k' b) c s o m k e =
    rw (ne_eqb j i (λ q. omega arith))
    (ap (flat_term o' (back_rule m') (fore_rule m') (flats k')) (replace-flats i (suc j) b c s o m k (omega arith)))

-- so that a child's run is written with the other children held
pub pushed-flats : (o : ℕ) (b s : Terms) (p : ℕ) (n : Mark) (j f : Terms) →
    pushed o (count b) (flats (join b (tree p n j s))) (flats f) ≡ flats (within o b s f)
unfolding flats pushed within
pushed-flats o b s p n j no_terms = refl
pushed-flats o b s p n j (tree q m k f) =
    ap₂ (flat_term o none none)
    (replace-flats (count b) 0 b (tree q m k no_terms) s p n j (omega arith))
    (pushed-flats o b s p n j f)
