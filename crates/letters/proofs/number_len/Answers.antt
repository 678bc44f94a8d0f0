use native.Mathlib.Omega.{arith}
use mathlib.Core.Path.{ap}
use lib.ListN.{length}
use Rattle.letters.proofs.Digits.{few-digits, one-more-digit, last-digit}
use Rattle.letters.proofs.number_len.Goals as goal

pub overflow_add-len : goal.overflow_add-len
overflow_add-len c = omega (arith, few-digits 19 c.args.n (omega arith))

pub loop-left-preserved : goal.loop-left-preserved
loop-left-preserved c = (omega arith, omega (arith, one-more-digit c.loop-left.left (omega arith) (omega arith)))

pub returns : goal.returns
returns c = omega (arith, ap length (last-digit c.loop-left.left (omega arith)))
