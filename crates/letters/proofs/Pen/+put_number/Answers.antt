use native.Mathlib.Omega.{arith}
use Prim.Native.Nat.{◌<◌, ◌/◌}
use mathlib.Core.Path.{refl, ap, ◌∙◌}
use lib.ListN.{length}
use Rattle.model.specs.Text.{digits}
use Rattle.laws.proofs.Area.{length-splice}
use Rattle.letters.proofs.Digits.{some-digits, last-digit, one-more-digit, put_one, put_last}
use Rattle.letters.proofs.Pen.+put_number.Goals as goal

pub bounds-self-self : goal.bounds-self-self
bounds-self-self t c = omega (arith, some-digits c.args.n)

pub overflow_add-self : goal.overflow_add-self
overflow_add-self t c = omega (arith, some-digits c.args.n)

pub returns-then-n-lt10 : goal.returns-then-n-lt10
returns-then-n-lt10 t c =
    let n = c.args.n in
    let small : n < 10 = omega arith in record {
      same_reference = refl;
      at_after = omega (arith, ap length (last-digit n small));
      room_after = put_one c.args.self.now.room.now c.args.self.now.at n c.requires small;
    }

pub put_number-requires : goal.put_number-requires
put_number-requires t c = (omega (arith), omega (arith, c.requires, one-more-digit c.args.n (omega arith) (omega arith)))

pub bounds-self-self-2 : goal.bounds-self-self-2
bounds-self-self-2 t c =
    let s = one-more-digit c.args.n (omega arith) (omega arith) in
    let room = c.args.self.now.room.now in
    let long = ap length c.put_number.ensures.room_after ∙ length-splice room c.args.self.now.at (digits (c.args.n / 10)) (omega (arith, c.requires, s)) in
    omega (arith, long, c.put_number.ensures.at_after, c.requires, s)

pub overflow_add-self-3 : goal.overflow_add-self-3
overflow_add-self-3 t c =
    let s = one-more-digit c.args.n (omega arith) (omega arith) in
    omega (arith, c.put_number.ensures.at_after, c.requires, s)

pub returns : goal.returns
returns t c =
    let s = one-more-digit c.args.n (omega arith) (omega arith) in record {
      same_reference = c.put_number.ensures.same_reference;
      at_after = omega (arith, c.put_number.ensures.at_after, s);
      room_after =
          put_last c.args.self.now.room.now c.args.self.now.at c.args.n c.requires (omega arith) (omega arith) c.put_number.ensures.room_after
          c.put_number.ensures.at_after;
    }
