-- `reports::put_refusal` meets its contract: two names and two numbers.
use mathlib.Core.Path.{◌≡◌, ap, ◌∙◌}
use lib.ListN.{length}
use Prim.Native.Nat.{ℕ}
use Rattle.model.specs.Text.{bytes}
use Rattle.model.specs.Run.{refusal_text}
use Rattle.laws.specs.Area.{splice}
use Rattle.reports.specs.Reports.{two_fields}
use Rattle.reports.proofs.put_refusal.Goals as goal

pub returns : goal.returns
unfolding refusal_text two_fields bytes
returns c =
    let said : refusal_text c.from.result c.args.line ≡ refusal_text c.args.number c.args.line =
    ap (λ (n : ℕ). refusal_text n c.args.line) c.from.ensures in
    record {
      value = c.put_two.ensures.value ∙ ap length said;
      room_after = c.put_two.ensures.room_after ∙ ap (splice c.args.room.now 0) said;
    }
