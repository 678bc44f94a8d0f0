-- `connections::supports` meets its contract: unequal operators or unequal counts decide, else the pairs of children do.
use native.Mathlib.Omega.{arith}
use Prim.Native.Nat.{ℕ, ◌+◌, ◌*◌}
use mathlib.Core.Path.{◌≡◌, refl, sym, ap₂, ◌∙◌}
use lib.ListN.{get_or}
use mathlib.Core.Bool.{not, and-false}
use borrow.Author.Tests.{not-true, not-false}
use Rattle.model.specs.Term.{same_op}
use Rattle.model.specs.Tables.{node_words, children_at}
use Rattle.entries.specs.Nodes.{count_in}
use Rattle.entries.proofs.Children.{pairs-uneven}
use Rattle.connections.specs.Classes.{same_class}
use Rattle.connections.proofs.supports.Goals.{After-ne}
use Rattle.connections.proofs.supports.Goals as goal

-- whether the two operators differ
ops : (c : After-ne) →
    not (same_op (get_or c.args.nodes.now (c.args.a.0 * node_words) 0) (get_or c.args.nodes.now (c.args.b.0 * node_words) 0)) ≡ c.ne.result
ops c = ap₂ (λ (x y : ℕ). not (same_op x y)) (sym c.operator_of.ensures) (sym c.operator_of-2.ensures) ∙ sym c.ne.ensures

pub operator_of-requires : goal.operator_of-requires
operator_of-requires c = omega (arith, c.requires.0.room)

pub operator_of-requires-2 : goal.operator_of-requires-2
operator_of-requires-2 c = omega (arith, c.requires.0.room)

pub returns-then-ne : goal.returns-then-ne
returns-then-ne c = rw (not-true _ (ops (goal.at.returns-then-ne c).After-ne ∙ c.if-ne.true)) refl

pub count_of-requires : goal.count_of-requires
count_of-requires c = omega (arith, c.requires.0.room)

pub count_of-requires-2 : goal.count_of-requires-2
count_of-requires-2 c = omega (arith, c.requires.0.room)

pub returns-then-count_of : goal.returns-then-count_of
returns-then-count_of c =
    let s = c.args in
    let n : count_in s.nodes.now s.a.0 ≡ count_in s.nodes.now s.b.0 → ⊥ =
    λ q. c.if-count_of.true (c.count_of.ensures ∙ q ∙ sym c.count_of-2.ensures) in
    rw (pairs-uneven (same_class s.classes.now) s.nodes.now (s.a.0 * node_words + children_at) (s.b.0 * node_words + children_at) _ _ n)
    (sym (and-false (same_op (get_or s.nodes.now (s.a.0 * node_words) 0) (get_or s.nodes.now (s.b.0 * node_words) 0))))

pub children_joined-requires : goal.children_joined-requires
children_joined-requires c = record {
  nodes_stand = c.requires;
  a_value = sym c.count_of.ensures ∙ c.if-count_of.false ∙ c.count_of-2.ensures;
}

pub returns : goal.returns
returns c = c.children_joined.ensures ∙ rw (not-false _ (ops (goal.at.returns c).After-ne ∙ c.if-ne.false)) refl
