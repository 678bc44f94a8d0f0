-- `frames::steps::put_answer` meets its contract: by the answer, a refusal, or the distance and the lines behind it.
use native.Mathlib.Omega.{arith}
use Prim.Native.Nat.{ℕ, ◌<◌}
use mathlib.Core.Path.{ap, subst, ◌∙◌}
use lib.ListN.{length, get_or}
use Rattle.std.proofs.Common.{Ok}
use Rattle.model.specs.Query.{Answer, written}
use Rattle.model.specs.Run.{refusal_text}
use Rattle.laws.specs.Area.{splice}
use Rattle.frames.specs.Answer.{Printable}
use Rattle.frames.proofs.Query.{answer-fits, answer-long, answer-put}
use Rattle.frames.proofs.steps.put_answer.Goals.{In-Ok}
use Rattle.frames.proofs.steps.put_answer.Goals as goal

-- the words that were written are terms, and each is a word
module _ (c : In-Ok) where
  fine : Printable (Ok (written c.in-Ok.field-0.distance c.in-Ok.field-0.words)) c.args.area.now
  fine = subst (λ (x : Answer). Printable x c.args.area.now) c.in-Ok.is c.requires.0

  small : (i : ℕ) → get_or c.args.area.now i 0 < 65536
  small i = omega (arith, c.shared_slice_known-1.given i)

pub put_lines-requires : goal.put_lines-requires
put_lines-requires c =
    let some = (goal.at.put_lines-requires c).In-Ok in (
      (fine some).1,
      omega (
        arith,
        c.put_distance-at.ensures.value,
        c.room-1.given,
        answer-fits c.in-Ok.field-0.distance c.in-Ok.field-0.words c.args.area.now c.args.room.now c.requires.1 (small some) (fine some).0 c.requires.2,
      ),
    )

pub returns-in-Ok : goal.returns-in-Ok
returns-in-Ok c =
    let some = (goal.at.returns-in-Ok c).In-Ok in record {
      value = rw c.in-Ok.is
          (answer-long _ _ c.args.area.now c.args.room.now c.requires.1 (small some) (fine some).0 c.requires.2 c.put_distance-at.ensures.value c.put_lines.ensures.value);
      room_after = rw c.in-Ok.is
          (answer-put _ _ c.args.area.now c.args.room.now c.requires.1 (small some) (fine some).0 c.requires.2 c.put_distance-at.ensures.value c.put_distance-at.ensures.room_after c.put_lines.ensures.room_after);
    }

pub returns-in-Err : goal.returns-in-Err
returns-in-Err c =
    let a = c.args in record {
      value = rw c.in-Err.is (c.put_refusal.ensures.value ∙ ap (λ (k : ℕ). length (refusal_text k a.line)) c.from.ensures);
      room_after = rw c.in-Err.is
          (c.put_refusal.ensures.room_after ∙ ap (λ (k : ℕ). splice a.room.now 0 (refusal_text k a.line)) c.from.ensures);
    }
