-- `text::push` meets its contract, by whether a bracket was opened.
use native.Mathlib.Omega.{arith}
use mathlib.Core.Path.{ap}
use lib.ListN.{length}
use Rattle.text.proofs.Heads.{pushed-some}
use Rattle.text.proofs.Stacked.{push-none, push-some}
use Rattle.text.proofs.push.Goals as goal

pub overflow_sub-room : goal.overflow_sub-room
overflow_sub-room c = omega (arith, c.requires.0, ap length (pushed-some c.args.opens c.args.count c.in_default.in_default-own.rest.1))

pub bounds-room-top : goal.bounds-room-top
bounds-room-top c =
    omega (arith, c.requires.0, c.requires.1, ap length (pushed-some c.args.opens c.args.count c.in_default.in_default-own.rest.1))

pub overflow_sub-result : goal.overflow_sub-result
overflow_sub-result c = omega (arith, c.requires.0, ap length (pushed-some c.args.opens c.args.count c.in_default.in_default-own.rest.1))

pub returns-in-0 : goal.returns-in-0
returns-in-0 c = let s = c.args in record { count_value = (push-none s.count s.room.now s.top c.in-0.is).0; room_after = (push-none s.count s.room.now s.top c.in-0.is).1 }

pub returns-in_default : goal.returns-in_default
returns-in_default c = record { count_value = (push-some c.args.opens c.args.count c.args.room.now c.args.top c.in_default.in_default-own.rest.1 c.requires.0 c.requires.1).0; room_after = (push-some c.args.opens c.args.count c.args.room.now c.args.top c.in_default.in_default-own.rest.1 c.requires.0 c.requires.1).1 }
