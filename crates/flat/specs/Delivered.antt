-- What the flat proof of a joined pair is, over accepted tables: demand 3's core.
use Rattle.std.specs.Prelude.{ℕ, suc, ◌≤◌, ◌≡◌, length}
use Rattle.model.specs.Limits.{distance_limit, word_limit}
use Rattle.model.specs.Term.{count}
use Rattle.model.specs.Verdict.{Proves}
use Rattle.model.specs.Flat.{later, needed}
use Rattle.model.specs.Premise.{Premise}
use Rattle.model.specs.Query.{Tables, distance_in, proof_of, proof_words}
use Rattle.flat.specs.Marks.{OneMarkEach}
use Rattle.flat.specs.Ends.{Ends}

-- distance + 1 terms, as many words as are said to be needed, from the left term to the right, one mark in each later term;
-- and, where each rule connection is an instance of its listed rule and 10 and 11 do not refuse it, a proof by demand 2
pub record Delivered (t : Tables) (l r : ℕ) : Type 0 where
  pub counted : count (proof_of t l r) ≡ suc (distance_in t l r)
  pub written : length (proof_words t l r) ≡ needed t.nodes t.conns l r
  pub between : Ends t.nodes l r (proof_of t l r)
  pub marked : OneMarkEach (later t.nodes t.conns l r)
  pub proves : Premise t.rules t.nodes t.conns → distance_in t l r ≤ distance_limit → length (proof_words t l r) ≤ word_limit →
      Proves t.rules (proof_words t l r) (suc (distance_in t l r))
