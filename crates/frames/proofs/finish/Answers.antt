-- `frames::finish` meets its contract: by what is open at the end of the input.
use Prim.Native.Nat.{ℕ}
use mathlib.Core.Path.{ap, ◌∙◌}
use lib.ListN.{length}
use Rattle.model.specs.Run.{refusal_text}
use Rattle.laws.specs.Area.{splice}
use Rattle.frames.proofs.Turns.{end-cut, end-open, end-done, nothing_put}
use Rattle.frames.proofs.finish.Goals as goal

pub returns-then-held-ne0 : goal.returns-then-held-ne0
returns-then-held-ne0 c =
    let a = c.args in
    let e = ap (λ (k : ℕ). refusal_text k a.line) c.from.ensures ∙ end-cut a.counts.kind a.line a.held c.if-held-ne0.true in record {
      value = c.put_refusal.ensures.value ∙ ap length e;
      room_after = c.put_refusal.ensures.room_after ∙ ap (splice a.room.now 0) e;
    }

pub returns-then-counts-eq-WORDS_KIND : goal.returns-then-counts-eq-WORDS_KIND
returns-then-counts-eq-WORDS_KIND c =
    let a = c.args in
    let e = ap (λ (k : ℕ). refusal_text k a.line) c.from-then-counts-eq-WORDS_KIND.ensures ∙ end-open a.counts.kind a.line a.held c.if-held-ne0.false c.if-counts-eq-WORDS_KIND.true in record {
      value = c.put_refusal-then-counts-eq-WORDS_KIND.ensures.value ∙ ap length e;
      room_after = c.put_refusal-then-counts-eq-WORDS_KIND.ensures.room_after ∙ ap (splice a.room.now 0) e;
    }

pub returns : goal.returns
returns c =
    let a = c.args in record { value = (nothing_put a.room.now _ (end-done a.counts.kind a.line a.held c.if-held-ne0.false c.if-counts-eq-WORDS_KIND.false)).0; room_after = (nothing_put a.room.now _ (end-done a.counts.kind a.line a.held c.if-held-ne0.false c.if-counts-eq-WORDS_KIND.false)).1 }
