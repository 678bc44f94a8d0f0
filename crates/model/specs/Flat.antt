-- The flat proof of a joined pair, and how many words it needs.
use Rattle.std.specs.Prelude.{ℕ, zero, suc, ◌+◌, ◌*◌, Bool, true, false, List, [], ◌∷◌}
use Rattle.model.specs.declared.Connection.{Connection}
use Rattle.model.specs.declared.Direction.{Direction}
use Rattle.model.specs.declared.Direction.TheVariants.{Forward, Backward}
use Rattle.model.specs.declared.Justification.{Justification}
use Rattle.model.specs.declared.Justification.TheVariants.{Rule as by_rule, Congruence}
use Rattle.model.specs.Term.{Mark, unmarked, marked, Terms, no_terms, tree, put, one, join}
use Rattle.model.specs.Node.{Node, op_of, kids_of, row, term_of}
use Rattle.model.specs.Forest.{cur, nxt, walk, dist}

-- "A connection walked backwards has its direction turned."
abbrev pub turned : Direction → Direction
turned Forward = Backward
turned Backward = Forward

abbrev pub walked : Direction → Bool → Direction
walked d true = d
walked d false = turned d

abbrev pub mark_for : ℕ → Direction → Bool → Mark
mark_for n d up = marked (walked d up) n

-- "A rule connection appends the next node's term, marked at its root": node b's term, so marked
abbrev pub marked_term : List Node → Mark → ℕ → Terms
marked_term ns m b = tree (op_of ns b) m (term_of ns b).kids no_terms

-- each term of a child's run, the other children held: those before it and those behind it
unfoldable pub within : ℕ → Terms → Terms → Terms → Terms
unfolding join
within o before behind no_terms = no_terms
within o before behind (tree p m k s) =
    tree o unmarked (join before (tree p m k behind)) (within o before behind s)

-- "A congruence rewrites the children first to last, each by its own flat proof, the other children held": those before are
-- the right node's already, those behind still the left node's. "The first term of that run merges into the last one
-- written and keeps its marks": so only the later terms of each run are appended. (Pairs stop at the shorter list: judging has
-- refused a congruence of unequal counts. So it is in `runs_size`.)
unfoldable pub runs : List Node → (ℕ → ℕ → Terms) → ℕ → Terms → List ℕ → List ℕ → Terms
unfolding within join row term_of
runs ns proof o before [] ys = no_terms
runs ns proof o before (x ∷ xs) [] = no_terms
runs ns proof o before (x ∷ xs) (y ∷ ys) =
    join (within o before (row (term_of ns) xs) (proof x y)) (runs ns proof o (join before (one (term_of ns y))) xs ys)

-- what a connection appends, walked from node a to node b, `up` where that is from current to next
unfoldable pub appended : List Node → (ℕ → ℕ → Terms) → Justification → Bool → ℕ → ℕ → Terms
unfolding runs term_of
appended ns proof (by_rule n d) up a b = marked_term ns (mark_for n.0 d up) b
appended ns proof Congruence up a b = runs ns proof (op_of ns a) no_terms (kids_of ns a) (kids_of ns b)

abbrev pub later_step : List Node → List Connection → (ℕ → ℕ → Terms) → Connection → Bool → Terms
later_step ns older proof c true = appended ns proof c.why true (cur c) (nxt c)
later_step ns older proof c false = appended ns proof c.why false (nxt c) (cur c)

-- the later terms of the flat proof
unfoldable pub later : List Node → List Connection → ℕ → ℕ → Terms
unfolding walk appended join
later ns = walk no_terms join (later_step ns)

-- "Start with the left node's term, unmarked."
unfoldable pub flat_proof : List Node → List Connection → ℕ → ℕ → Terms
unfolding later term_of
flat_proof ns cs l r = put (term_of ns l) (later ns cs l r)

-- Needed words, without writing the proof. How many nodes a node's term has:
unfoldable pub sum : (ℕ → ℕ) → List ℕ → ℕ
sum f [] = 0
sum f (n ∷ ns) = f n + sum f ns

unfoldable pub size_by : List Node → ℕ → ℕ → ℕ
unfolding sum
size_by ns zero n = 1
size_by ns (suc d) n = suc (sum (size_by ns d) (kids_of ns n))

unfoldable pub size_of : List Node → ℕ → ℕ
unfolding size_by
size_of ns n = size_by ns n n

-- how many a congruence appends: those of each child's run, and for each of its terms the root and the children held
unfoldable pub runs_size : List Node → (ℕ → ℕ → ℕ) → (ℕ → ℕ → ℕ) → ℕ → List ℕ → List ℕ → ℕ
unfolding sum size_of
runs_size ns d rec before [] ys = 0
runs_size ns d rec before (x ∷ xs) [] = 0
runs_size ns d rec before (x ∷ xs) (y ∷ ys) =
    rec x y + d x y * (before + sum (size_of ns) xs) + runs_size ns d rec (before + size_of ns y) xs ys

unfoldable pub appended_size : List Node → (ℕ → ℕ → ℕ) → (ℕ → ℕ → ℕ) → Justification → ℕ → ℕ → ℕ
unfolding runs_size size_of
appended_size ns d rec (by_rule n f) a b = size_of ns b
appended_size ns d rec Congruence a b = runs_size ns d rec 1 (kids_of ns a) (kids_of ns b)

abbrev pub later_size_step : List Node → List Connection → (ℕ → ℕ → ℕ) → Connection → Bool → ℕ
later_size_step ns older rec c true = appended_size ns (dist ns older) rec c.why (cur c) (nxt c)
later_size_step ns older rec c false = appended_size ns (dist ns older) rec c.why (nxt c) (cur c)

unfoldable pub later_size : List Node → List Connection → ℕ → ℕ → ℕ
unfolding walk appended_size dist
later_size ns = walk 0 ◌+◌ (later_size_step ns)

-- "four a tree node"
unfoldable pub needed : List Node → List Connection → ℕ → ℕ → ℕ
unfolding later_size size_of
needed ns cs l r = 4 * (size_of ns l + later_size ns cs l r)
