-- THE RUST ON VALUES IS DOCUMENT 01. On tables judged good, for any two nodes of the node table: the Rust's path, distance and flat proof are document 01's
-- where connections join the two, and it panics (`none`) where none do. The memo that `union` fills changes no path.
-- `nesting` and `rounds` bound the Rust's calls and loops, which have no bound themselves; any that are large enough will do.
use Prim.Native.Nat.{ℕ, ◌+◌, ◌*◌, ◌≤◌, ◌<◌}
use mathlib.Core.Path.{◌≡◌, refl, sym, ap, ◌∙◌}
use mathlib.Core.Bool.{Bool, true, false}
use mathlib.Core.List.{List, map}
use mathlib.Core.Option.{Option, none, some}
use native.Mathlib.Omega.{arith}
use lib.ListN.{length}
use Rattle.model.specs.declared.Connection.{Connection}
use Rattle.model.specs.Judged.{good}
use Rattle.model.specs.Node.{Node}
use Rattle.model.specs.Forest.{root, joined, path, dist}
use Rattle.model.specs.Flat.{flat_proof}
use Rattle.model.specs.Query.{Tables}
use Rattle.model.specs.Tables.{only_if, judge_tables}
use Rattle.paths.proofs.Joined.{joined-root, apart-root}
use Rattle.flat.specs.Accepted.{AcceptedTables}
use Rattle.flat.proofs.Tables.{tables-accepted}
use Rattle.rust.specs.Read.{as_walked, rust_path, rust_path_unoptimized, rust_distance, rust_flat}
use Rattle.rust.proofs.Vectors.{on, off}
use Rattle.rust.proofs.Built.{Built, built}
use Rattle.rust.proofs.PathRust.{unoptimized, no-unoptimized}
use Rattle.rust.proofs.MemoRust.{optimized, no-optimized}
use Rattle.rust.proofs.DistanceRust.{distance_is, no_distance}
use Rattle.rust.proofs.Flats.{read_back}
use Rattle.rust.proofs.FlatRust.{flat-is, no-flat}

-- calls may nest once more than there are connections; a loop may climb from both nodes, or go through the nodes
pub record Enough (t : Tables) (nesting rounds : ℕ) : Type 0 where
  pub nested : length t.conns < nesting
  pub long : 2 * length t.conns + 1 < rounds
  pub wide : length t.nodes ≤ rounds

-- what there is where two nodes are joined, and nothing where they are not
by-joined : {A : Type 0} {o : Option A} (t : Tables) (l r : ℕ) (a : A) → (root t.conns l ≡ root t.conns r → o ≡ some a) →
    ((root t.conns l ≡ root t.conns r → ⊥) → o ≡ none) → o ≡ only_if (joined t.conns l r) (some a)
by-joined {o = o} t l r a yes-some no_none = go (joined t.conns l r) refl
  where
    go : (b : Bool) → joined t.conns l r ≡ b → o ≡ only_if b (some a)
    go true p = yes-some (joined-root t.conns l r p)
    go false p = no_none (apart-root t.conns l r p)

module _ (nws rws cws : List ℕ) (t : Tables) (accepted : judge_tables nws rws cws ≡ good t) (nesting rounds : ℕ) (enough : Enough t nesting rounds)
    (l r : ℕ) (l-in : l < length t.nodes) (r-in : r < length t.nodes) where
  abbrev ns : List Node
  ns = t.nodes

  abbrev cs : List Connection
  cs = t.conns

  sound : AcceptedTables t
  sound = tables-accepted nws rws cws t accepted

  forest : Built rounds ns cs
  forest = built rounds ns cs sound.conns (omega (arith, enough.long))

  short : 2 * length cs < rounds
  short = omega (arith, enough.long)

  -- the path, as it is walked
  pub path-rust : rust_path rounds ns cs l r ≡ only_if (joined cs l r) (some (map as_walked (path cs l r)))
  unfolding rust_path
  path-rust =
      by-joined t l r (map as_walked (path cs l r))
      (λ same. let w = optimized sound.conns forest.holds rounds short l r l-in r-in same in on _ forest.is ∙ on _ w.is ∙ ap some w.same)
      (λ apart. on _ forest.is ∙ off _ (no-optimized sound.conns forest.holds rounds short l r l-in r-in apart))

  -- without the memo it is the same one
  unoptimized-rust : rust_path_unoptimized rounds ns cs l r ≡ only_if (joined cs l r) (some (map as_walked (path cs l r)))
  unfolding rust_path_unoptimized
  unoptimized-rust =
      by-joined t l r (map as_walked (path cs l r))
      (λ same. let w = unoptimized sound.conns forest.holds rounds short l r l-in r-in same in on _ forest.is ∙ on _ w.is ∙ ap some w.same)
      (λ apart. on _ forest.is ∙ off _ (no-unoptimized sound.conns forest.holds rounds short l r l-in r-in apart))

  pub memo-rust : rust_path rounds ns cs l r ≡ rust_path_unoptimized rounds ns cs l r
  memo-rust = path-rust ∙ sym unoptimized-rust

  -- the distance
  pub distance-rust : rust_distance nesting rounds ns cs l r ≡ only_if (joined cs l r) (some (dist ns cs l r))
  unfolding rust_distance
  distance-rust =
      by-joined t l r (dist ns cs l r)
      (λ same.
      let d = distance_is sound.nodes sound.conns forest.holds nesting rounds enough.nested enough.long l r l-in r-in same in
      on _ forest.is ∙ on _ d.is)
      (λ apart. on _ forest.is ∙ off _ (no_distance sound.conns forest.holds nesting rounds _ l r l-in r-in apart))

  -- the flat proof
  pub flat-rust : rust_flat nesting rounds ns cs l r ≡ only_if (joined cs l r) (some (flat_proof ns cs l r))
  unfolding rust_flat
  flat-rust =
      by-joined t l r (flat_proof ns cs l r)
      (λ same.
      let f = flat-is sound.nodes sound.conns forest.holds rounds short enough.wide nesting enough.nested l r l-in r-in same in
      on _ forest.is ∙ on _ f.is ∙ on _ f.flat ∙ read_back (flat_proof ns cs l r))
      (λ apart. on _ forest.is ∙ off _ (no-flat sound.nodes sound.conns forest.holds rounds short enough.wide nesting l r l-in r-in apart))
