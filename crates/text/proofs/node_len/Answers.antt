-- `text::node_len` meets its contract: the mark, the operator and, with children, two brackets.
use native.Mathlib.Omega.{arith}
use Prim.Native.Nat.{ℕ}
use mathlib.Core.Path.{ap}
use lib.ListN.{length}
use Rattle.model.specs.Text.{digits}
use Rattle.letters.proofs.Digits.{all_digits}
use Rattle.text.proofs.Heads.{mark-short, leaf-length, branch-length}
use Rattle.text.proofs.node_len.Goals as goal

pub overflow_add-bare : goal.overflow_add-bare
overflow_add-bare c = let n = c.args.n in omega (arith, c.mark_len.ensures, mark-short n.mark n.rule.0)

pub overflow_add-bare-2 : goal.overflow_add-bare-2
overflow_add-bare-2 c =
    let n = c.args.n in
    omega (arith, c.number_len.ensures, c.mark_len.ensures, mark-short n.mark n.rule.0, all_digits c.from.result)

pub returns-then-n-eq0 : goal.returns-then-n-eq0
returns-then-n-eq0 c =
    let n = c.args.n in
    omega (arith, c.number_len.ensures, ap (λ (k : ℕ). length (digits k)) c.from.ensures, c.mark_len.ensures, leaf-length n.op.0 n.mark n.rule.0 c.if-n-eq0.true)

pub overflow_add-result : goal.overflow_add-result
overflow_add-result c =
    let n = c.args.n in
    omega (arith, c.number_len.ensures, c.mark_len.ensures, mark-short n.mark n.rule.0, all_digits c.from.result)

pub returns : goal.returns
returns c =
    let n = c.args.n in
    omega (arith, c.number_len.ensures, ap (λ (k : ℕ). length (digits k)) c.from.ensures, c.mark_len.ensures, branch-length n.op.0 n.count n.mark n.rule.0 c.if-n-eq0.false)
