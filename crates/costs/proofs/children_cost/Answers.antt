use native.Mathlib.Omega.{arith}
use Prim.Native.Nat.{ℕ, ◌+◌, ◌*◌, ◌<◌}
use mathlib.Core.List.{List}
use mathlib.Core.Path.{◌≡◌, ap, ap₂, ◌∙◌}
use Rattle.model.specs.declared.Connection.{Connection}
use Rattle.model.specs.Forest.{sum_pairs}
use Rattle.model.specs.Tables.{node_words, children_at, words_from}
use Rattle.entries.specs.Nodes.{child_in, children_in, count_in}
use Rattle.forest.specs.Rows.{Climbs}
use Rattle.costs.specs.Costs.{held, nodes_in, weigh}
use Rattle.costs.proofs.Sums.{sums-done, sums_next}
use Rattle.costs.proofs.children_cost.Goals as goal

pub loop-i-preserved : goal.loop-i-preserved
loop-i-preserved c =
    let more : c.loop-i.i < count_in c.args.nodes.now c.args.a.0 = omega (arith, c.loop-i.invariant.0) in
    let pair : let a = c.args in
    let i = c.loop-i.i in
    (cs : List Connection) → Climbs cs (nodes_in a.nodes.now) a.rows.now →
    c.path_cost.result ≡ held (weigh a.rows.now cs (child_in a.nodes.now a.a.0 i) (child_in a.nodes.now a.b.0 i)) = λ cs k.
    let i = c.loop-i.i in
    c.path_cost.ensures cs _ k (omega (arith, c.child_of.ensures, c.requires.left_in i (more))) (omega (arith, c.child_of-in-loop-i.ensures, c.requires.right-in i (more)))
    ∙ ap held (ap₂ (weigh c.args.rows.now cs) c.child_of.ensures c.child_of-in-loop-i.ensures) in
    let l = c.loop-i in
    (l.invariant.0, λ cs k. sums_next (l.invariant.1 cs k) (more) (pair cs k) c.capped-sum.ensures)

pub returns : goal.returns
returns c = λ cs k.
    let a = c.args in
    sums-done (c.loop-i.invariant.1 cs k) (omega arith)
    ∙ ap (λ (x : ℕ). held (sum_pairs (weigh a.rows.now cs) (children_in a.nodes.now a.a.0) (words_from a.nodes.now (a.b.0 * node_words + children_at) x)))
    c.requires.even
