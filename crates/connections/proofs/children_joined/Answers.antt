use native.Mathlib.Omega.{arith}
use Prim.Native.Nat.{ℕ, ◌+◌, ◌*◌}
use mathlib.Core.Path.{◌≡◌, sym, ap, ap₂, ◌∙◌}
use mathlib.Core.Bool.{Bool}
use mathlib.Core.List.{List}
use borrow.Author.Tests.{not-true, not-false}
use Rattle.model.specs.Connect.{pairs_joined}
use Rattle.model.specs.Tables.{words_from, node_words, children_at}
use Rattle.entries.specs.Nodes.{count_in, child_in, children_in}
use Rattle.entries.proofs.Children.{pairs-all, pairs_next, pairs-off, pairs-done}
use Rattle.connections.specs.Classes.{same_class}
use Rattle.connections.proofs.children_joined.Goals.{After-joined}
use Rattle.connections.proofs.children_joined.Goals as goal

-- as many of b's children as a has are all of them
even : (f : ℕ → ℕ → Bool) (ws : List ℕ) (a b : ℕ) → count_in ws a ≡ count_in ws b →
    pairs_joined f (children_in ws a) (words_from ws (b * node_words + children_at) (count_in ws a)) ≡ pairs_joined f (children_in ws a) (children_in ws b)
even f ws a b h = ap (λ (k : ℕ). pairs_joined f (children_in ws a) (words_from ws (b * node_words + children_at) k)) h

-- the pair that is asked for
asked : (c : After-joined) →
    same_class c.args.classes.now (child_in c.args.nodes.now c.args.a.0 c.loop-i.i) (child_in c.args.nodes.now c.args.b.0 c.loop-i.i) ≡ c.joined.result
asked c = ap₂ (same_class c.args.classes.now) (sym c.child_of.ensures) (sym c.child_of-in-loop-i.ensures) ∙ sym c.joined.ensures

pub count_of-i-end-requires : goal.count_of-i-end-requires
count_of-i-end-requires c = omega (arith, c.requires.nodes_stand.0.room)

pub loop-i-init : goal.loop-i-init
loop-i-init c = pairs-all _ _ _ _ _

pub child_of-requires : goal.child_of-requires
child_of-requires c =
    (omega (arith, c.requires.nodes_stand.0.room), omega (arith, c.requires.nodes_stand.0.narrow c.args.a.0 c.requires.nodes_stand.1))

pub child_of-requires-in-loop-i : goal.child_of-requires-in-loop-i
child_of-requires-in-loop-i c =
    (omega (arith, c.requires.nodes_stand.0.room), omega (arith, c.requires.nodes_stand.0.narrow c.args.a.0 c.requires.nodes_stand.1))

pub joined-requires : goal.joined-requires
joined-requires c = (
  omega (arith, c.requires.nodes_stand.0.lower c.args.a.0 c.loop-i.i c.requires.nodes_stand.1 (omega arith), c.child_of.ensures),
  omega (arith, c.requires.nodes_stand.0.lower c.args.b.0 c.loop-i.i c.requires.nodes_stand.2 (omega (arith, c.requires.a_value)), c.child_of-in-loop-i.ensures),
)

pub returns-then-not-joined : goal.returns-then-not-joined
returns-then-not-joined c =
    pairs-off c.loop-i.invariant (omega arith) (asked (goal.at.returns-then-not-joined c).After-joined ∙ not-true _ c.if-not-joined.true-raw)
    ∙ even (same_class c.args.classes.now) c.args.nodes.now _ _ c.requires.a_value

pub loop-i-preserved : goal.loop-i-preserved
loop-i-preserved c =
    pairs_next c.loop-i.invariant (omega arith) (asked (goal.at.loop-i-preserved c).After-joined ∙ not-false _ c.if-not-joined.false-raw)

pub returns : goal.returns
returns c =
    pairs-done c.loop-i.invariant (omega (arith, c.count_of-i-end.ensures))
    ∙ even (same_class c.args.classes.now) c.args.nodes.now _ _ c.requires.a_value
