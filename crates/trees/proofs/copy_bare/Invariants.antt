-- `trees::copy_bare` meets its contract: the nodes passed are copied without their marks; those left are as they were.
use Rattle.trees.proofs.Copied.{Copied}
use Rattle.trees.proofs.copy_bare.Given as goal

abbrev pub invariant-loop-k : goal.invariant-loop-k
invariant-loop-k l = Copied l.initial.area l.from l.at l.area l.k
