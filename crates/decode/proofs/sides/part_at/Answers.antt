-- `decode::sides::part_at` meets its contract, by the cases of the first byte.
use native.Mathlib.Omega.{arith}
use Rattle.decode.proofs.Parts.{none_left, cut-variable, a-variable, no-variable, cut-operator, an-operator, no-operator, no_kind}
use Rattle.decode.proofs.sides.part_at.Goals as goal

pub returns-then-left-eq0 : goal.returns-then-left-eq0
returns-then-left-eq0 c = none_left c.args.bytes.now c.args.at c.if-left-eq0.true

pub returns-then-left-lt2 : goal.returns-then-left-lt2
returns-then-left-lt2 c = cut-variable c.args.bytes.now c.args.at c.in-0.is c.if-left-lt2.true

pub returns-then-from-lt-VARIABLE_LIMIT : goal.returns-then-from-lt-VARIABLE_LIMIT
returns-then-from-lt-VARIABLE_LIMIT c =
    a-variable c.args.bytes.now c.args.at _ _ c.in-0.is c.if-left-lt2.false c.from-field.ensures c.from.ensures c.if-from-lt-VARIABLE_LIMIT.true

pub returns-else-from-lt-VARIABLE_LIMIT : goal.returns-else-from-lt-VARIABLE_LIMIT
returns-else-from-lt-VARIABLE_LIMIT c =
    no-variable c.args.bytes.now c.args.at _ _ c.in-0.is c.if-left-lt2.false c.from-field.ensures c.from.ensures c.if-from-lt-VARIABLE_LIMIT.false

pub returns-then-left-lt4 : goal.returns-then-left-lt4
returns-then-left-lt4 c = cut-operator c.args.bytes.now c.args.at c.in-1.is c.if-left-lt4.true

pub returns-then-count-le-CHILD_LIMIT : goal.returns-then-count-le-CHILD_LIMIT
returns-then-count-le-CHILD_LIMIT c =
    an-operator c.args.bytes.now c.args.at _ _ c.in-1.is c.if-left-lt4.false c.word_at.ensures c.from-count.ensures c.if-count-le-CHILD_LIMIT.true

pub returns-else-count-le-CHILD_LIMIT : goal.returns-else-count-le-CHILD_LIMIT
returns-else-count-le-CHILD_LIMIT c =
    no-operator c.args.bytes.now c.args.at _ c.in-1.is c.if-left-lt4.false c.from-count.ensures c.if-count-le-CHILD_LIMIT.false

pub returns-in_default : goal.returns-in_default
returns-in_default c = no_kind c.args.bytes.now c.args.at (λ z. omega (arith, z)) (λ z. omega (arith, z))
