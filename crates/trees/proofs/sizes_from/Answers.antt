use native.Mathlib.Omega.{arith}
use Prim.Native.Nat.{ℕ}
use mathlib.Core.Path.{ap, ◌∙◌}
use lib.ListN.{get_or}
use Rattle.trees.proofs.Filled.{summed-none, summed-more, summed-all}
use Rattle.trees.proofs.sizes_from.Goals as goal

pub loop-k-init : goal.loop-k-init
loop-k-init c = (c.count_of-count.ensures, summed-none _ _ _ _ _)

pub returns : goal.returns
returns c = (
  summed-all c.loop-k.invariant.1 (omega (arith, c.loop-k.invariant.0)),
  omega (arith, c.loop-k.invariant.1.small, c.requires.narrow),
)

pub loop-k-preserved : goal.loop-k-preserved
loop-k-preserved c =
    let sizes = c.args.sizes.now in (
      c.loop-k.invariant.0,
      summed-more c.loop-k.invariant.1 (omega (arith, c.loop-k.invariant.0))
          (c.size_of-sum.ensures.0 ∙ ap (λ (a : ℕ). get_or sizes a 0) c.child_of.ensures) c.size_of-sum.ensures.1,
    )
