-- What holds of the flat proof of a joined pair, over accepted tables: how many terms and words it has, its marks and its
-- ends; and, where each rule connection is an instance of its listed rule, that it is a strict proof.
use Prim.Native.Nat.{ℕ, suc, ◌≤◌}
use mathlib.Core.Path.{◌≡◌, refl, ap, ◌∙◌}
use mathlib.Core.Bool.{true}
use mathlib.Core.List.{List}
use native.Mathlib.Omega.{arith}
use lib.ListN.{length}
use Rattle.model.specs.declared.Connection.{Connection}
use Rattle.model.specs.Limits.{distance_limit, word_limit}
use Rattle.model.specs.Term.{count, one, Narrow, words, size}
use Rattle.model.specs.Rule.{Rule}
use Rattle.model.specs.Step.{is_mark}
use Rattle.model.specs.Verdict.{Strict, Proves}
use Rattle.model.specs.Node.{Node, term_of}
use Rattle.model.specs.Forest.{joined, dist}
use Rattle.model.specs.Flat.{later, flat_proof, needed}
use Rattle.model.specs.Premise.{Premise}
use Rattle.terms.proofs.Rows.{length-words}
use Rattle.paths.specs.Hangs.{AcceptedConnections}
use Rattle.paths.proofs.Joined.{joined-root}
use Rattle.flat.specs.Marks.{OneMarkEach}
use Rattle.flat.specs.Ends.{first, last_or, last, Ends}
use Rattle.flat.specs.Nodes.{AcceptedNodes}
use Rattle.flat.proofs.NodeTerms.{term-unmarked, term-strip, term-size, term-narrow}
use Rattle.terms.proofs.Marks.{no-mark}
use Rattle.flat.proofs.Way.{Way, way}
use Rattle.flat.proofs.Needed.{later-size}
use Rattle.flat.proofs.Stepping.{stepping-chain}
use Rattle.flat.proofs.Steps.{step-way}

module _ (ns : List Node) (cs : List Connection) (nodes : AcceptedNodes ns) (conns : AcceptedConnections ns cs) (l r : ℕ)
    (joins : joined cs l r ≡ true) where
  on-the-way : Way ns l r (later ns cs l r) (dist ns cs l r)
  on-the-way = way ns nodes cs conns l r (joined-root cs l r joins)

  pub later-count : count (later ns cs l r) ≡ dist ns cs l r
  later-count = on-the-way.counted

  -- the distance is "one less than the terms"
  pub proof-count : count (flat_proof ns cs l r) ≡ suc (dist ns cs l r)
  unfolding flat_proof count
  proof-count = ap suc later-count

  pub needed-words : length (words (flat_proof ns cs l r)) ≡ needed ns cs l r
  unfolding flat_proof needed size
  needed-words =
      length-words (flat_proof ns cs l r)
      ∙ omega (arith, term-size ns l, later-size ns nodes cs conns l r (joined-root cs l r joins))

  pub one-mark : OneMarkEach (later ns cs l r)
  one-mark = on-the-way.marked

  pub narrow : Narrow (flat_proof ns cs l r)
  unfolding flat_proof Narrow
  narrow = let n = term-narrow ns nodes l in (n.0, n.1, on-the-way.narrow)

  pub ends : Ends ns l r (flat_proof ns cs l r)
  unfolding flat_proof first last last_or
  ends =
      record {
        starts = refl;
        plain = no-mark is_mark refl (one (term_of ns l)) (term-unmarked ns l);
        arrives = on-the-way.arrives ∙ term-strip ns r;
      }

  module _ (rs : List Rule) (premise : Premise rs ns cs) where
    pub strict : Strict rs (flat_proof ns cs l r)
    unfolding flat_proof Strict first
    strict = (
      ends.plain,
      stepping-chain rs (one (term_of ns l)) (later ns cs l r) one-mark
          (step-way rs ns nodes cs (record { accepted = conns; premise = premise }) l r (joined-root cs l r joins)).steps,
    )

    -- what is not refused by 10 and 11 is a proof of distance + 1 terms
    pub proves : dist ns cs l r ≤ distance_limit → needed ns cs l r ≤ word_limit →
        Proves rs (words (flat_proof ns cs l r)) (suc (dist ns cs l r))
    proves d w =
        record {
          terms = flat_proof ns cs l r;
          form = record { narrow = narrow; spelled = refl };
          counted = proof-count;
          few_words = omega (arith, needed-words);
          few_terms = omega arith;
          strict = strict;
        }
