-- `hex_lines::put_bytes` meets its contract: each pair of digits is taken off those that are left, and written as a byte.
use native.Mathlib.Omega.{arith}
use Prim.Native.Nat.{ℕ, ◌+◌, ◌*◌}
use mathlib.Core.Path.{◌≡◌, sym, ap, subst, ◌∙◌}
use lib.ListN.{length, get_or, set, drop, length-drop}
use Rattle.model.specs.Frame.{hex_digit}
use Rattle.hex_lines.specs.Line.{value_of}
use Rattle.hex_lines.proofs.Digits.{TakenOff, taken-off, digit_of, said-digit, said-there}
use Rattle.hex_lines.proofs.Spelled.{Spelling, Pair, spelling-start, spelling-pair, spelling-more, spelling-last}
use Rattle.hex_lines.proofs.put_bytes.Goals.{In-Some, After-value, After-unwrap-low}
use Rattle.hex_lines.proofs.put_bytes.Goals as goal

-- the pair is the next one of the line, and its digits are digits
module _ (c : In-Some) where
  abbrev at : ℕ
  at = 2 * c.loop-i.i-iterator.count

  off : TakenOff c.args.digits.now c.in-Some.pair.now c.next.new.self.iter.rest.now at
  off =
      taken-off c.args.digits.now c.in-Some.pair.now _ at (sym c.loop-i.invariant.1 ∙ c.in-Some.ensures.steps.0.1.0)
      (c.in-Some.ensures.steps.0.1.1 ∙ c.loop-i.invariant.2)

  next : Pair c.args.digits.now c.loop-i.invariant.0.front at
  next = spelling-pair c.requires.1 c.loop-i.invariant.0 off.some

said : {b d : ℕ} → b ≡ d → value_of (hex_digit b) ≡ value_of (hex_digit d)
said e = ap (λ (x : ℕ). value_of (hex_digit x)) e

module _ (c : After-unwrap-low) where
  abbrev here : In-Some
  here = (goal.at.After-unwrap-low c).In-Some

  high : c.unwrap-high.result ≡ digit_of (hex_digit (get_or c.args.digits.now (at here) 0))
  high = said-digit _ (sym (c.value.ensures ∙ said (off here).high) ∙ c.unwrap-high.ensures)

  low : c.unwrap-low.result ≡ digit_of (hex_digit (get_or c.args.digits.now (at here + 1) 0))
  low = said-digit _ (sym (c.value-in-loop-i.ensures ∙ said (off here).low) ∙ c.unwrap-low.ensures)

pub loop-i-init : goal.loop-i-init
loop-i-init c =
    let e = c.enumerate-i-items.ensures in
    rw (c.into_iter-i-iterator.ensures.into_iter_gives, e.count, e.source)
    (spelling-start _ _ c.requires.0, c.chunks_exact.ensures.rest, c.chunks_exact.ensures.size)

pub unwrap-high-requires : goal.unwrap-high-requires
unwrap-high-requires c =
    let some = (goal.at.unwrap-high-requires c).In-Some in said-there _ (c.value.ensures ∙ said (off some).high) (next some).high-there

pub unwrap-low-requires : goal.unwrap-low-requires
unwrap-low-requires c =
    let some = (goal.at.unwrap-low-requires c).In-Some in said-there _ (c.value-in-loop-i.ensures ∙ said (off some).low) (next some).low-there

pub overflow_mul-bytes : goal.overflow_mul-bytes
overflow_mul-bytes c = omega (arith, (next (here c)).high, high c)

pub overflow_add-bytes : goal.overflow_add-bytes
overflow_add-bytes c = omega (arith, (next (here c)).high, (next (here c)).low, high c, low c)

pub loop-i-preserved : goal.loop-i-preserved
loop-i-preserved c =
    let old = c.loop-i.i-iterator.count in
    let new = c.next.new.self.count in
    let steps = c.in-Some.ensures.steps in
    let byte = c.unwrap-high.result * 16 + c.unwrap-low.result in
    let two : 2 * old + 2 ≡ 2 * new = omega (arith, steps.2) in (
      subst (λ (i : ℕ). Spelling c.args.digits.now c.args.bytes.now (set c.loop-i.bytes i byte) (2 * new) new) (sym steps.1)
          (subst (λ (n : ℕ). Spelling c.args.digits.now c.args.bytes.now (set c.loop-i.bytes old byte) n new) two
          (subst (λ (n : ℕ). Spelling c.args.digits.now c.args.bytes.now (set c.loop-i.bytes old byte) (2 * old + 2) n) (sym steps.2)
          (spelling-more c.requires.1 c.loop-i.invariant.0 (off (here c)).some _ _ (high c) (low c)))),
      (off (here c)).left ∙ ap (λ (n : ℕ). drop n c.args.digits.now) two,
      steps.0.0 ∙ c.loop-i.invariant.2,
    )

pub returns : goal.returns
returns c =
    let i = c.loop-i.invariant in
    spelling-last c.requires.1 i.0
    (omega (arith, c.in-None.ensures.steps.0.1.0, ap length i.1, i.2, length-drop (2 * c.loop-i.i-iterator.count) c.args.digits.now))
