use native.Mathlib.Omega.{arith}
use Rattle.trees.proofs.Copied.{copied_none, copied_more}
use Rattle.trees.proofs.copy_bare.Goals as goal

pub loop-k-init : goal.loop-k-init
loop-k-init c = copied_none _ _ _

pub loop-k-preserved : goal.loop-k-preserved
loop-k-preserved c =
    copied_more c.requires.0 c.requires.1 c.requires.2 c.requires.3 c.loop-k.invariant (omega arith) (omega arith)
    (λ k. (c.node_at-n.ensures k).op.0) (λ k. (c.node_at-n.ensures k).count) c.put_words.ensures
