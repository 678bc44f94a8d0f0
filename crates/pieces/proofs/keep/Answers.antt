-- `pieces::keep` meets its contract: what the line has room for is put behind what is held of it.
use native.Mathlib.Omega.{arith}
use Prim.Native.Nat.{ℕ}
use mathlib.Core.Path.{◌≡◌, ap, ◌∙◌}
use lib.ListN.{length, take}
use lib.Seq.{length-take-le}
use Rattle.laws.specs.Area.{splice}
use Rattle.laws.proofs.Lent.{lent_back}
use Rattle.pieces.specs.Line.{fitting}
use Rattle.pieces.proofs.Gathering.{fitting-front}
use Rattle.pieces.proofs.keep.Goals as goal

pub returns-clause-line_after : goal.returns-clause-line_after
returns-clause-line_after c =
    let a = c.args in
    let new = c.copy_from_slice.new.self in
    let is : new ≡ fitting a.held a.more.now =
    c.copy_from_slice.ensures.after ∙ ap (λ (n : ℕ). take n a.more.now) (omega (arith, c.min-count.ensures)) ∙ fitting-front a.held a.more.now in
    let long : length new ≡ c.min-count.result =
    omega (arith, ap length c.copy_from_slice.ensures.after, length-take-le c.min-count.result a.more.now (omega (arith, c.min-count.ensures))) in
    lent_back a.line.now new a.held c.min-count.result long ∙ ap (splice a.line.now a.held) is
