-- `trees::put_words` meets its contract: four stores are one writing of four words.
use native.Mathlib.Omega.{arith}
use Rattle.laws.proofs.Area.{splice-node}
use Rattle.trees.proofs.put_words.Goals as goal

pub returns : goal.returns
returns c = splice-node _ _ _ _ _ _ (omega arith)
