-- `hex_lines::is_line` meets its contract: by the length, and the digits one by one.
use native.Mathlib.Omega.{arith}
use mathlib.Core.Path.{sym, ap, ◌∙◌}
use Rattle.laws.specs.Present.{present}
use Rattle.hex_lines.proofs.Lines.{no-digits, many-digits, as-pairs, odd-digits, line-by}
use Rattle.hex_lines.proofs.is_line.Goals as goal
use Rattle.hex_lines.proofs.is_line.Goals.{then-n-eq0-via-then-n-eq0, then-n-eq0-via-else-n-eq0+then-n-gt-DIGIT_LIMIT}

pub returns-then-n-eq0 : goal.returns-then-n-eq0
returns-then-n-eq0 c =
    elim c.then-n-eq0.branch [
      | then-n-eq0-via-then-n-eq0 w ↦ no-digits _ w.if-n-eq0.true
      | then-n-eq0-via-else-n-eq0+then-n-gt-DIGIT_LIMIT w ↦ ap present (sym (many-digits _ w.if-n-gt-DIGIT_LIMIT.true))
    ]

pub returns-then-n-ne0 : goal.returns-then-n-ne0
returns-then-n-ne0 c = sym (odd-digits _ c.if-n-ne0.true) ∙ ap present (sym (as-pairs _ c.if-n-eq0.false (omega arith)))

pub returns : goal.returns
returns c = line-by _ _ c.if-n-eq0.false (omega arith) c.if-n-ne0.false c.are_digits.ensures
