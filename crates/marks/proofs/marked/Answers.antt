-- `marks::marked` meets its contract: a row has a mark where something is left of it from its first one on.
-- Assumes nothing.
use Rattle.marks.proofs.Single.{left-marked}
use Rattle.marks.proofs.marked.Goals as goal

pub returns : goal.returns
returns c = λ f h. left-marked _ _ _ _ f (c.to_mark.ensures f h)
