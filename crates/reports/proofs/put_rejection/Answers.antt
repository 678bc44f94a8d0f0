-- `reports::put_rejection` meets its contract: two names and two numbers.
use mathlib.Core.Path.{◌≡◌, ap, ◌∙◌}
use lib.ListN.{length}
use Prim.Native.Nat.{ℕ}
use Rattle.model.specs.Text.{bytes}
use Rattle.laws.specs.Area.{splice}
use Rattle.reports.specs.Reports.{two_fields, rejection_text}
use Rattle.reports.proofs.put_rejection.Goals as goal

pub returns : goal.returns
unfolding two_fields bytes
returns c =
    let said : rejection_text c.from-n.result c.args.place ≡ rejection_text c.args.number c.args.place =
    ap (λ (n : ℕ). rejection_text n c.args.place) c.from-n.ensures in
    record {
      value = c.put_two.ensures.value ∙ ap length said;
      room_after = c.put_two.ensures.room_after ∙ ap (splice c.args.room.now 0) said;
    }
