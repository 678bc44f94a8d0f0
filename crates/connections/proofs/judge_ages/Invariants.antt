-- `connections::judge_ages` meets its contract: the connections passed were accepted and the classes are theirs; the first entry that is not
-- accepted decides.
use Rattle.connections.specs.Classes.{Sofar}
use Rattle.connections.proofs.judge_ages.Given as goal

abbrev pub invariant-loop-age : goal.invariant-loop-age
invariant-loop-age l = Sofar l.nodes.words.now l.conns l.classes l.age
