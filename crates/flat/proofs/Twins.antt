-- Twins: what the support of a congruence says of its two nodes.
use Prim.Native.Nat.{ℕ}
use mathlib.Core.Path.{◌≡◌, sym}
use mathlib.Core.Bool.{true, and-eq-true_iff}
use mathlib.Core.List.{List, [], ◌∷◌}
use borrow.Author.Tests.{eqb-true}
use Rattle.model.specs.declared.Connection.{Connection}
use Rattle.model.specs.declared.Justification.{Justification}
use Rattle.model.specs.declared.Justification.TheVariants.{Congruence}
use Rattle.model.specs.Node.{Node, op_of, kids_of}
use Rattle.model.specs.Term.{same_op}
use Rattle.model.specs.Forest.{cur, nxt, joined}
use Rattle.model.specs.Connect.{pairs_joined, supported}
use Rattle.paths.specs.Hangs.{AcceptedConnections, Paired}
use Rattle.paths.proofs.Accept.{sound, paired}

-- "equal operators and child counts, and each pair of children equal or joined by older connections alone"
pub record Twins (ns : List Node) (older : List Connection) (a b : ℕ) : Type 0 where
  pub ops : op_of ns a ≡ op_of ns b
  pub kids : Paired older (kids_of ns a) (kids_of ns b)

paired-turned : (cs : List Connection) (xs ys : List ℕ) → Paired cs xs ys → Paired cs ys xs
paired-turned cs [] [] p = tt
paired-turned cs [] (y ∷ ys) p = absurd p
paired-turned cs (x ∷ xs) [] p = absurd p
paired-turned cs (x ∷ xs) (y ∷ ys) p = (sym p.0, paired-turned cs xs ys p.1)

module _ {ns : List Node} {cs : List Connection} where
  twins-turned : {a b : ℕ} → Twins ns cs a b → Twins ns cs b a
  twins-turned {a} {b} t =
      record { ops = sym t.ops; kids = paired-turned cs (kids_of ns a) (kids_of ns b) t.kids }

  supported-twins : (w : Justification) (a b : ℕ) → supported ns cs w a b ≡ true → w ≡ Congruence → Twins ns cs a b
  unfolding supported
  supported-twins w a b s e =
      let p : supported ns cs Congruence a b ≡ true = rw e at s in
      let q = (and-eq-true_iff (same_op (op_of ns a) (op_of ns b)) (pairs_joined (joined cs) (kids_of ns a) (kids_of ns b))).0 p in
      record { ops = eqb-true _ _ q.0; kids = paired cs (kids_of ns a) (kids_of ns b) q.1 }

  -- the ends of an accepted congruence, both ways round
  pub twins : {c : Connection} → AcceptedConnections ns (c ∷ cs) → c.why ≡ Congruence → Twins ns cs (cur c) (nxt c)
  twins {c} a = supported-twins c.why (cur c) (nxt c) (sound a.0).support

  pub twins-back : {c : Connection} → AcceptedConnections ns (c ∷ cs) → c.why ≡ Congruence → Twins ns cs (nxt c) (cur c)
  twins-back a e = twins-turned (twins a e)
