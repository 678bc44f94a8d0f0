-- The Rust on values: how src/explain.rs flattens a tree of proofs. Each definition has the name of its type or function there.
-- antt has no trees over lists of trees: a `Vec` of terms is a row, first child and next sibling, as in the model.
use Rattle.std.specs.Prelude.{ℕ, zero, suc, Bool, true, false, cond, ◌||◌, List, [], ◌∷◌, eqb}
use Rattle.std.proofs.Math.Option.{Option, none, some}
use Rattle.rust.specs.Panics.{◌>>=◌}

-- type TreeExplanation, a `Vec` of `TreeTerm`s (operator, backward_rule, forward_rule, child_proofs), and child_proofs, a `Vec` of these
mutual
  pub data Trees : Type 0 where
    no_trees : Trees
    tree_term : ℕ → Option ℕ → Option ℕ → Proofs → Trees → Trees

  pub data Proofs : Type 0 where
    no_proofs : Proofs
    proof_of : Trees → Proofs → Proofs

-- type FlatExplanation, a `Vec` of `FlatTerm`s: operator, backward_rule, forward_rule, children
pub data Flats : Type 0 where
  no_flats : Flats
  flat_term : ℕ → Option ℕ → Option ℕ → Flats → Flats → Flats

-- `Option::is_some`
abbrev pub is_some : Option ℕ → Bool
is_some none = false
is_some (some n) = true

-- the first term of a `Vec` (as a row of one), those behind it, the last one, and those before it
abbrev pub first_of : Flats → Option Flats
first_of no_flats = none
first_of (flat_term o b f k s) = some (flat_term o b f k no_flats)

abbrev pub skip_one : Flats → Flats
skip_one no_flats = no_flats
skip_one (flat_term o b f k s) = s

unfoldable pub last_of : Flats → Option Flats
last_of no_flats = none
last_of (flat_term o b f k no_flats) = some (flat_term o b f k no_flats)
last_of (flat_term o b f k (flat_term o' b' f' k' s)) = last_of (flat_term o' b' f' k' s)

unfoldable pub drop_last : Flats → Flats
drop_last no_flats = no_flats
drop_last (flat_term o b f k no_flats) = no_flats
drop_last (flat_term o b f k (flat_term o' b' f' k' s)) = flat_term o b f k (drop_last (flat_term o' b' f' k' s))

-- `Vec::extend`
unfoldable pub extend : Flats → Flats → Flats
extend no_flats g = g
extend (flat_term o b f k s) g = flat_term o b f k (extend s g)

-- fn has_rewrite_forward, fn has_rewrite_backward, of any term of a row
unfoldable pub has_forward : Flats → Bool
has_forward no_flats = false
has_forward (flat_term o b f k s) = is_some f || (has_forward k || has_forward s)

unfoldable pub has_backward : Flats → Bool
has_backward no_flats = false
has_backward (flat_term o b f k s) = is_some b || (has_backward k || has_backward s)

-- fn remove_rewrites, of each term of a row
unfoldable pub remove_rewrites : Flats → Flats
remove_rewrites no_flats = no_flats
remove_rewrites (flat_term o b f k s) = flat_term o none none (remove_rewrites k) (remove_rewrites s)

-- fn combine_rewrites: the marks of another term put on this one, where there is none; children are paired to the end of the shorter list
abbrev pub combine_rule : Option ℕ → Option ℕ → Option (Option ℕ)
combine_rule mine none = some mine
combine_rule none (some n) = some (some n)
combine_rule (some m) (some n) = none

unfoldable pub combine_rewrites : Flats → Flats → Option Flats
combine_rewrites no_flats g = some no_flats
combine_rewrites (flat_term o b f k s) no_flats = some (flat_term o b f k s)
combine_rewrites (flat_term o b f k s) (flat_term o' b' f' k' s') =
    do
      forward ← combine_rule f f'
      backward ← combine_rule b b'
      children ← combine_rewrites k k'
      rest ← combine_rewrites s s'
      some (flat_term o backward forward children rest)

-- fn flatten_proof, a round of its loop: an explanation whose first term has no mark is merged into the last term written, which is popped
unfoldable pub appended : Flats → Flats → Option Flats
unfolding extend last_of drop_last has_forward has_backward combine_rewrites
appended no_flats explanation = some explanation
appended (flat_term o b f k s) explanation = do
  first ← first_of explanation
  cond (has_forward first || has_backward first) (some (extend (flat_term o b f k s) explanation)) do
    last ← last_of (flat_term o b f k s)
    merged ← combine_rewrites first last
    some (extend (drop_last (flat_term o b f k s)) (extend merged (skip_one explanation)))

-- `terms[i] = term`
unfoldable pub set_term : ℕ → Flats → Flats → Option Flats
unfolding extend
set_term i term no_flats = none
set_term zero term (flat_term o b f k s) = some (extend term s)
set_term (suc i) term (flat_term o b f k s) = do
  rest ← set_term i term s
  some (flat_term o b f k rest)

-- fn flatten_explanation. Its first loop: the first term of each child's proof, without marks
unfoldable pub representatives : List Flats → Option Flats
unfolding remove_rewrites extend
representatives [] = some no_flats
representatives (p ∷ ps) = do
  first ← first_of p
  rest ← representatives ps
  some (extend (remove_rewrites first) rest)

-- `proof.last_mut().unwrap().children[i] = child`
abbrev pub set_child : ℕ → Flats → Flats → Option Flats
set_child i child no_flats = none
set_child i child (flat_term o b f k s) = do
  children ← set_term i child k
  some (flat_term o b f children s)

-- its inner loops: for each of the others of a child's proof a term of the representatives, the one at place i replaced by it
unfoldable pub replaced : ℕ → Flats → ℕ → Flats → Flats
unfolding extend
replaced i child j no_flats = no_flats
replaced i child j (flat_term o b f k s) = extend (cond (eqb j i) child (flat_term o b f k no_flats)) (replaced i child (suc j) s)

unfoldable pub pushed : ℕ → ℕ → Flats → Flats → Flats
unfolding replaced
pushed o i reps no_flats = no_flats
pushed o i reps (flat_term p b f k s) = flat_term o none none (replaced i (flat_term p b f k no_flats) 0 reps) (pushed o i reps s)

-- its outer loop
unfoldable pub child_loop : ℕ → ℕ → Flats → List Flats → Flats → Option Flats
unfolding extend last_of drop_last set_term pushed remove_rewrites
child_loop o i reps [] proof = some proof
child_loop o i reps (p ∷ ps) proof = do
  first ← first_of p
  last ← last_of proof
  kept ← set_child i first last
  end ← last_of p
  next ← set_term i (remove_rewrites end) reps
  child_loop o (suc i) next ps (extend (extend (drop_last proof) kept) (pushed o i reps (skip_one p)))

-- `proof[0].backward_rule = ..; proof[0].forward_rule = ..`
abbrev pub set_rules : Option ℕ → Option ℕ → Flats → Option Flats
set_rules backward forward no_flats = none
set_rules backward forward (flat_term o b f k s) = some (flat_term o backward forward k s)

unfoldable pub flatten_explanation : ℕ → Option ℕ → Option ℕ → List Flats → Option Flats
unfolding representatives child_loop
flatten_explanation o backward forward ps = do
  reps ← representatives ps
  proof ← child_loop o 0 reps ps (flat_term o none none reps no_flats)
  set_rules backward forward proof

-- fn flatten_proof, and the flattened proofs of the children
unfoldable mutual
  unfolding flatten_explanation appended

  pub flatten_proof : Trees → Flats → Option Flats
  flatten_proof no_trees flat = some flat
  flatten_proof (tree_term o b f kids rest) flat = do
    ps ← flatten_children kids
    explanation ← flatten_explanation o b f ps
    longer ← appended flat explanation
    flatten_proof rest longer

  pub flatten_children : Proofs → Option (List Flats)
  flatten_children no_proofs = some []
  flatten_children (proof_of p ps) = do
    q ← flatten_proof p no_flats
    qs ← flatten_children ps
    some (q ∷ qs)
