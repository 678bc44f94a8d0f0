use native.Mathlib.Omega.{arith}
use Prim.Native.Nat.{ℕ, ◌+◌, ◌/◌, ◌<◌}
use mathlib.Core.Path.{refl, sym, ap, ◌∙◌, subst}
use mathlib.Core.List.{List}
use lib.ListN.{length, set}
use Rattle.model.specs.Tables.{node_words}
use Rattle.entries.specs.Nodes.{nodes_of}
use Rattle.trees.specs.Sizes.{held_nodes, Sized}
use Rattle.trees.proofs.Filled.{filled-sized, filled_none, filled_more, size-held}
use Rattle.trees.proofs.fill_sizes.Goals as goal

pub loop-i-init : goal.loop-i-init
loop-i-init c = (refl, filled_none _ _)

pub loop-i-preserved : goal.loop-i-preserved
loop-i-preserved c =
    let inv = c.loop-i.invariant in
    let ns = nodes_of c.args.nodes.words.now in
    let here : c.loop-i.i < length c.args.nodes.words.now / node_words = omega (arith, inv.0) in
    let sized = subst (λ (t : List ℕ). Sized ns t c.loop-i.i) (sym inv.1) (filled-sized ns c.loop-i.i c.args.sizes.now (omega (arith, c.args.nodes.whole.stand.few, c.told-sizes))) in (
      inv.0,
      ap (λ (t : List ℕ). set t c.loop-i.i c.held.result) inv.1
          ∙ filled_more ns c.loop-i.i c.args.sizes.now
          (c.held.ensures
          ∙ ap (λ (k : ℕ). held_nodes (1 + k)) c.sizes_from.ensures.0
          ∙ size-held c.args.nodes.words.now c.args.nodes.whole c.loop-i.i here c.loop-i.sizes sized),
    )
