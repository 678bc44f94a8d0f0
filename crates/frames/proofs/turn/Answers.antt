-- `frames::turn` meets its contract: what the line comes to, and a refusal printed.
use Prim.Native.Nat.{ℕ}
use mathlib.Core.Path.{ap, ◌∙◌}
use lib.ListN.{length}
use Rattle.model.specs.Frame.{line_bytes}
use Rattle.model.specs.Run.{line_turn, refusal_text}
use Rattle.laws.specs.Area.{splice}
use Rattle.frames.proofs.Turns.{turn-stops}
use Rattle.frames.proofs.turn.Goals as goal

pub returns-in-Err : goal.returns-in-Err
returns-in-Err c s h =
    let a = c.args in
    turn-stops (line_turn s a.line (line_bytes a.digits.now)) a.line c.line_step.new.store c.line_step.result _ _ c.put_refusal.new.room c.in-Err.is
    (c.line_step.ensures s h) (c.put_refusal.ensures.value ∙ ap (λ (k : ℕ). length (refusal_text k a.line)) c.from-number.ensures)
    (c.put_refusal.ensures.room_after ∙ ap (λ (k : ℕ). splice c.line_step.new.store.room 0 (refusal_text k a.line)) c.from-number.ensures)
