-- `checker::Offered::later_terms` meets its contract. The loop's invariant: the verdict on what is left behind the term at `before` is that on all
-- terms. Assumes nothing.
use Rattle.checker.proofs.Later.{LaterHere}
use Rattle.checker.proofs.Offered.later_terms.Given as goal

abbrev pub invariant-loop-k : goal.invariant-loop-k
invariant-loop-k l = LaterHere l.self.rules.now l.self.words.now l.n l.before l.at l.k-counter
