-- `text::mark_len` meets its contract, by the cases of the mark.
use native.Mathlib.Omega.{arith}
use Prim.Native.Nat.{ℕ, ◌+◌}
use mathlib.Core.Path.{ap, ◌∙◌}
use lib.ListN.{length}
use Rattle.model.specs.Text.{digits}
use Rattle.letters.proofs.Digits.{all_digits}
use Rattle.text.proofs.Heads.{no-mark-length, some-mark-length}
use Rattle.text.proofs.mark_len.Goals as goal

pub overflow_add-result : goal.overflow_add-result
overflow_add-result c = omega (arith, c.number_len.ensures, all_digits c.from.result)

pub returns-in-0 : goal.returns-in-0
returns-in-0 c = no-mark-length _ c.in-0.is

pub returns-in_default : goal.returns-in_default
returns-in_default c =
    ap (λ (k : ℕ). 14 + k) (c.number_len.ensures ∙ ap (λ (k : ℕ). length (digits k)) c.from.ensures)
    ∙ some-mark-length c.args.mark c.args.rule.0 c.in_default.in_default-own.rest.1
