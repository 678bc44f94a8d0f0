use native.Mathlib.Omega.{arith}
use Rattle.laws.proofs.Stored.{stored-none, stored_next, stored-all}
use Rattle.connections.proofs.Classes.{length-up_to, up_to-at}
use mathlib.Core.Path.{refl}
use Rattle.connections.proofs.part.Goals as goal

pub loop-i-init : goal.loop-i-init
loop-i-init c = stored-none _

pub overflow_cast-classes : goal.overflow_cast-classes
overflow_cast-classes c = omega (arith, c.requires)

pub loop-i-preserved : goal.loop-i-preserved
loop-i-preserved c = stored_next c.loop-i.invariant (omega (arith, c.loop-i.invariant.long)) refl

pub shape_of-classes : goal.shape_of-classes
shape_of-classes c = c.loop-i.invariant.long

pub returns : goal.returns
returns c = stored-all c.loop-i.invariant (omega (arith, c.loop-i.invariant.long)) _ (length-up_to _) (up_to-at _)
