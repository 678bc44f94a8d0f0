use native.Mathlib.Omega.{arith}
use native.Mathlib.Nat.{mul-le-mul}
use Prim.Native.Nat.{ℕ, suc, ◌+◌, ◌*◌, ◌<◌, ◌≤◌}
use mathlib.Core.List.{List}
use mathlib.Core.Path.{◌≡◌, ap, ap₂, ◌∙◌}
use lib.ListN.{get_or}
use Rattle.model.specs.declared.Connection.{Connection}
use Rattle.model.specs.Limits.{child_limit}
use Rattle.model.specs.Tables.{children_at, node_words, words_from}
use Rattle.model.specs.Flat.{sum}
use Rattle.entries.specs.Nodes.{child_in, children_in, count_in}
use Rattle.entries.proofs.Children.{left}
use Rattle.forest.specs.Rows.{Climbs}
use Rattle.costs.specs.Costs.{nodes_in, weigh}
use Rattle.trees.specs.Sizes.{held_nodes, node_cap, table_bound}
use Rattle.trees.proofs.Filled.{drop-words}
use Rattle.needs.specs.Needs.{Comes, path_nodes, runs_by}
use Rattle.needs.proofs.Runs.{Runs, runs_done, runs-next}
use Rattle.needs.proofs.runs_need.Goals as goal
use Rattle.needs.proofs.runs_need.Goals.{After-path_need-run, After-sizes_from, At-loop-i, In-loop-i}

abbrev roomy : ℕ
roomy = suc (child_limit * table_bound) + child_limit * table_bound

more : (c : In-loop-i) → let a = c.args in
    c.loop-i.i < count_in a.lent.nodes.words.now a.a.0
more c = omega (arith, c.loop-i.invariant.0)

few : (c : In-loop-i) → c.loop-i.i < child_limit
few c = omega (arith, (more c), c.requires.left-known.narrow)

runs : (c : At-loop-i) → let a = c.args in
    Runs (λ k. get_or a.lent.sizes.now k 0) (weigh a.lent.rows.now c.requires.conns) (path_nodes a.appended.now.ups a.appended.now.downs c.requires.conns) a.lent.nodes.words.now
    (a.a.0 * node_words + children_at) (a.b.0 * node_words + children_at) (count_in a.lent.nodes.words.now a.a.0) c.loop-i.i c.loop-i.before c.loop-i.sum
runs c = c.loop-i.invariant.1 c.requires.conns c.requires.charged.climbs

around-small : (c : After-sizes_from) → c.loop-i.before + c.sizes_from.result ≤ roomy
around-small c =
    let above = goal.at.After-sizes_from c in
    omega (arith, c.sizes_from.ensures.1, (runs above.At-loop-i).low, (few above.In-loop-i))

pair : (c : After-path_need-run) → let a = c.args in
    let x = child_in a.lent.nodes.words.now a.a.0 c.loop-i.i in
    let y = child_in a.lent.nodes.words.now a.b.0 c.loop-i.i in
    (cs : List Connection) → Climbs cs (nodes_in a.lent.nodes.words.now) a.lent.rows.now →
    Comes c.path_need-run.result (weigh a.lent.rows.now cs x y) (path_nodes a.appended.now.ups a.appended.now.downs cs x y)
pair c =
    let above = goal.at.After-path_need-run c in
    λ cs k.
    let i = c.loop-i.i in
    let r = c.path_need-run.ensures cs _ k (omega (arith, c.child_of-x.ensures, c.requires.left_in i (more above.In-loop-i))) (omega (arith, c.child_of-y.ensures, c.requires.right-in i (more above.In-loop-i))) in
    record {
      cost = r.cost ∙ ap held_nodes (ap₂ (weigh c.args.lent.rows.now cs) c.child_of-x.ensures c.child_of-y.ensures);
      nodes = r.nodes ∙ ap held_nodes (ap₂ (path_nodes c.args.appended.now.ups c.args.appended.now.downs cs) c.child_of-x.ensures c.child_of-y.ensures);
    }

pair_small : (c : After-path_need-run) → (c.path_need-run.result.cost ≤ node_cap) × (c.path_need-run.result.nodes ≤ node_cap)
pair_small c = let r = (pair c) c.requires.conns c.requires.charged.climbs in
    (omega (arith, r.cost), omega (arith, r.nodes))

product : (c : After-sizes_from) → c.path_need-run.result.cost * (c.loop-i.before + c.sizes_from.result) ≤ node_cap * roomy
product c =
    let above = goal.at.After-sizes_from c in
    mul-le-mul (pair_small above.After-path_need-run).0 (around-small c)

pub overflow_mul-run : goal.overflow_mul-run
overflow_mul-run c =
    let above = goal.at.overflow_mul-run c in
    omega (arith, product above.After-sizes_from)

pub overflow_add-sum-in-loop-i : goal.overflow_add-sum-in-loop-i
overflow_add-sum-in-loop-i c =
    let above = goal.at.overflow_add-sum-in-loop-i c in
    omega (arith, (product above.After-sizes_from), (pair_small above.After-path_need-run).1, (runs above.At-loop-i).small)

pub loop-i-preserved : goal.loop-i-preserved
loop-i-preserved c =
    let above = goal.at.loop-i-preserved c in
    let around : let a = c.args in
    c.loop-i.before + c.sizes_from.result ≡
    c.loop-i.before
    + sum (λ k. get_or a.lent.sizes.now k 0) (left a.lent.nodes.words.now (a.a.0 * node_words + children_at) (count_in a.lent.nodes.words.now a.a.0) (c.loop-i.i + 1)) = let a = c.args in
    ap (λ (k : ℕ). c.loop-i.before + k)
    (c.sizes_from.ensures.0 ∙ ap (sum (λ k. get_or a.lent.sizes.now k 0)) (drop-words a.lent.nodes.words.now (a.a.0 * node_words + children_at) _ (c.loop-i.i + 1))) in
    let a = c.args in (
      c.loop-i.invariant.0,
      λ cs k. runs-next (c.loop-i.invariant.1 cs k) _ _ _ _ _ (more above.In-loop-i) ((pair above.After-path_need-run) cs k).cost ((pair above.After-path_need-run) cs k).nodes (around)
          (c.size_of-before.ensures.0 ∙ ap (λ (z : ℕ). get_or a.lent.sizes.now z 0) c.child_of-y.ensures) c.size_of-before.ensures.1 c.held-sum.ensures,
    )

pub returns : goal.returns
returns c = λ cs k.
    let a = c.args in
    runs_done (c.loop-i.invariant.1 cs k) (omega arith)
    ∙ ap
    (λ (x : ℕ).
    held_nodes (runs_by (λ k. get_or a.lent.sizes.now k 0) (weigh a.lent.rows.now cs) (path_nodes a.appended.now.ups a.appended.now.downs cs) 1
    (children_in a.lent.nodes.words.now a.a.0) (words_from a.lent.nodes.words.now (a.b.0 * node_words + children_at) x)))
    c.requires.even
