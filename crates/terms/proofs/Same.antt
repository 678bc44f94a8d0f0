-- `same` says whether two rows are equal.
-- Assumes nothing.
use mathlib.Core.Bool.{true, ◌&&◌, false≢true, and-eq-true_iff}
use mathlib.Core.Path.{◌≡◌, refl}
use mathlib.Core.Logic.{◌↔◌}
use borrow.Author.Tests.{eq-eqb, eqb-true}
use lib.Dec.{eqb}
use Rattle.model.specs.declared.Direction.{Direction}
use Rattle.model.specs.declared.Direction.TheVariants.{Forward, Backward}
use Rattle.model.specs.Term.{Mark, unmarked, marked, Terms, no_terms, tree, same_op, same_direction, same_mark, same}

same-direction : (d e : Direction) → same_direction d e ≡ true → d ≡ e
same-direction Forward Forward h = refl
same-direction Forward Backward h = absurd (false≢true h)
same-direction Backward Forward h = absurd (false≢true h)
same-direction Backward Backward h = refl

direction-same : (d : Direction) → same_direction d d ≡ true
direction-same Forward = refl
direction-same Backward = refl

same-mark : (m n : Mark) → same_mark m n ≡ true → m ≡ n
same-mark unmarked unmarked e = refl
same-mark unmarked (marked d r) e = absurd (false≢true e)
same-mark (marked d r) unmarked e = absurd (false≢true e)
same-mark (marked d r) (marked c n) e =
    let p = (and-eq-true_iff (same_direction d c) (eqb r n)).0 e in rw (same-direction d c p.0, eqb-true r n p.1)

mark-same : (m : Mark) → same_mark m m ≡ true
mark-same unmarked = refl
mark-same (marked d r) = rw (direction-same d, eq-eqb r r refl)

same-is : (f g : Terms) → same f g ≡ true → f ≡ g
unfolding same
same-is no_terms no_terms e = refl
same-is no_terms (tree o m k s) e = absurd (false≢true e)
same-is (tree o m k s) no_terms e = absurd (false≢true e)
same-is (tree o m k s) (tree o' m' k' s') e =
    let p = (and-eq-true_iff (same_op o o' && same_mark m m') (same k k' && same s s')).0 e in
    let q = (and-eq-true_iff (same_op o o') (same_mark m m')).0 p.0 in
    let r = (and-eq-true_iff (same k k') (same s s')).0 p.1 in
    rw (eqb-true o o' q.0, same-mark m m' q.1, same-is k k' r.0, same-is s s' r.1)

same_self : (f : Terms) → same f f ≡ true
unfolding same
same_self no_terms = refl
same_self (tree o m k s) = rw (eq-eqb o o refl, mark-same m, same_self k, same_self s)

pub same-equal : (f g : Terms) → (same f g ≡ true) ↔ (f ≡ g)
same-equal f g = (same-is f g, λ e. rw e (same_self g))
