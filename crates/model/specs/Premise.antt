-- Demand 3's premise: each rule connection is an instance of its listed rule.
use Rattle.std.specs.Prelude.{ℕ, List, [], ◌∷◌}
use Rattle.model.specs.declared.Connection.{Connection}
use Rattle.model.specs.declared.Justification.{Justification}
use Rattle.model.specs.declared.Justification.TheVariants.{Rule as by_rule, Congruence}
use Rattle.model.specs.Term.{one}
use Rattle.model.specs.Rule.{Rule}
use Rattle.model.specs.Step.{ByRule, left_of, right_of}
use Rattle.model.specs.Node.{Node, term_of}
use Rattle.model.specs.Forest.{cur, nxt}

-- "It is an instance of its listed rule when one substitution makes the left side current's term and the right side next's
-- (forward), or the two swapped (backward)." Nothing is asked of a congruence.
abbrev pub InstanceBy : List Rule → List Node → Justification → ℕ → ℕ → Type 0
InstanceBy rs ns (by_rule n d) a b =
    let s = one (term_of ns a) in let t = one (term_of ns b) in ByRule rs n.0 (left_of d s t) (right_of d s t)
InstanceBy rs ns Congruence a b = Unit {0}

unfoldable pub Premise : List Rule → List Node → List Connection → Type 0
Premise rs ns [] = Unit {0}
Premise rs ns (c ∷ cs) = InstanceBy rs ns c.why (cur c) (nxt c) × Premise rs ns cs
