-- `connections::judge_connections` meets its contract: the room that it lends has a word for each node.
use native.Mathlib.Omega.{arith}
use Prim.Native.Nat.{ℕ, ◌/◌}
use mathlib.Core.Path.{◌≡◌, sym}
use lib.ListN.{length, take, replicate, length-replicate}
use lib.Seq.{length-take-le}
use Rattle.model.specs.Limits.{node_limit}
use Rattle.model.specs.Tables.{node_words}
use Rattle.connections.proofs.judge_connections.Goals as goal

pub slice_bounds-classes-end : goal.slice_bounds-classes-end
slice_bounds-classes-end c = omega (arith, c.args.nodes.whole.stand.few)

pub slice_bounds-judge_ages-end : goal.slice_bounds-judge_ages-end
slice_bounds-judge_ages-end c =
    let lent : length {A = ℕ} (take (length c.args.nodes.words.now / node_words) (replicate node_limit 0)) ≡ length c.args.nodes.words.now / node_words = length-take-le _ _ (omega (arith, c.args.nodes.whole.stand.few, length-replicate {A = ℕ} node_limit 0)) in
    sym (lent)

pub judge_ages-requires : goal.judge_ages-requires
judge_ages-requires c =
    let lent : length {A = ℕ} (take (length c.args.nodes.words.now / node_words) (replicate node_limit 0)) ≡ length c.args.nodes.words.now / node_words = length-take-le _ _ (omega (arith, c.args.nodes.whole.stand.few, length-replicate {A = ℕ} node_limit 0)) in
    lent

pub returns : goal.returns
returns c = c.judge_ages.ensures
