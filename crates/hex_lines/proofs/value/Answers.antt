-- `hex_lines::value` meets its contract, by the ranges of the byte.
use native.Mathlib.Omega.{arith}
use Rattle.hex_lines.proofs.Digits.{below, number, between, letter, above}
use Rattle.hex_lines.proofs.value.Goals as goal

pub returns-in-48-to-57 : goal.returns-in-48-to-57
returns-in-48-to-57 c = number _ (omega arith) (omega arith)

pub returns-in-97-to-102 : goal.returns-in-97-to-102
returns-in-97-to-102 c = letter _ (omega arith) (omega arith)

pub returns-in_default : goal.returns-in_default
returns-in_default c = below _ (omega arith)

pub returns-in_default-2 : goal.returns-in_default-2
returns-in_default-2 c = between _ (omega arith) (omega arith)

pub returns-in_default-3 : goal.returns-in_default-3
returns-in_default-3 c = above _ (omega arith)
