-- What the Rust answers on a table, in the terms of the model: the connections walked, the distance, and the flat proof's terms.
use Rattle.std.specs.Prelude.{ℕ, Bool, true, false, not, List, [], length}
use Rattle.std.proofs.Math.Option.{Option, none, some}
use Rattle.model.specs.declared.Connection.{Connection as TableConnection}
use Rattle.model.specs.declared.Direction.TheVariants.{Forward, Backward}
use Rattle.model.specs.Term.{Mark, unmarked, marked, Terms, no_terms, tree}
use Rattle.model.specs.Node.{Node}
use Rattle.model.specs.Forest.{Hop}
use Rattle.rust.specs.Panics.{◌>>=◌}
use Rattle.rust.specs.Explain.{Connection, justified, goes_forward, explain_of}
use Rattle.rust.specs.Paths.{get_path_unoptimized, get_path, walked}
use Rattle.rust.specs.Distances.{unclimbed, distance_between}
use Rattle.rust.specs.Flatten.{Flats, no_flats, flat_term, flatten_proof}
use Rattle.rust.specs.Trees.{explain_enodes}

-- A hop of document 01's path as the connection that the Rust walks: from the node that it leaves to the node that it comes to, its direction turned on
-- the way down.
abbrev pub up : TableConnection → Connection
up c = record { next = c.next.0; current = c.current.0; justification = justified c.why; forward = goes_forward c.why }

abbrev pub down : TableConnection → Connection
down c = record { next = c.current.0; current = c.next.0; justification = justified c.why; forward = not (goes_forward c.why) }

abbrev pub as_walked_by : TableConnection → Bool → Connection
as_walked_by c true = up c
as_walked_by c false = down c

abbrev pub as_walked : Hop → Connection
as_walked h = as_walked_by h.conn h.up

-- a flat term's backward_rule and forward_rule as a mark: a term with both has none
abbrev pub mark_of : Option ℕ → Option ℕ → Option Mark
mark_of none none = some unmarked
mark_of none (some n) = some (marked Forward n)
mark_of (some n) none = some (marked Backward n)
mark_of (some m) (some n) = none

unfoldable pub terms_of : Flats → Option Terms
terms_of no_flats = some no_terms
terms_of (flat_term o b f k s) = do
  mark ← mark_of b f
  children ← terms_of k
  rest ← terms_of s
  some (tree o mark children rest)

-- fn get_path, and fn get_path_unoptimized, as explain_enodes walks them
unfoldable pub rust_path : ℕ → List Node → List TableConnection → ℕ → ℕ → Option (List Connection)
unfolding explain_of get_path
rust_path rounds ns cs left right = do
  e ← explain_of rounds ns cs
  p ← get_path rounds e [] left right
  some (walked p)

unfoldable pub rust_path_unoptimized : ℕ → List Node → List TableConnection → ℕ → ℕ → Option (List Connection)
unfolding explain_of get_path_unoptimized
rust_path_unoptimized rounds ns cs left right = do
  e ← explain_of rounds ns cs
  p ← get_path_unoptimized rounds e left right
  some (walked p)

-- fn distance_between, from an empty memo
unfoldable pub rust_distance : ℕ → ℕ → List Node → List TableConnection → ℕ → ℕ → Option ℕ
unfolding explain_of distance_between
rust_distance nesting rounds ns cs left right = do
  e ← explain_of rounds ns cs
  f ← distance_between nesting rounds ns e (unclimbed (length ns)) left right
  some f.cost

-- fn explain_equivalence, and fn make_flat_explanation of it
unfoldable pub rust_flat : ℕ → ℕ → List Node → List TableConnection → ℕ → ℕ → Option Terms
unfolding explain_of explain_enodes flatten_proof terms_of
rust_flat nesting rounds ns cs left right = do
  e ← explain_of rounds ns cs
  ts ← explain_enodes nesting rounds ns e left right
  flat ← flatten_proof ts no_flats
  terms_of flat
