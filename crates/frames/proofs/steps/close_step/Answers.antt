-- `frames::steps::close_step` meets its contract: the counted rules and the open words are what the checker judges.
use Prim.Native.Nat.{◌*◌, ◌≤◌}
use mathlib.Core.Path.{◌≡◌, ap, ◌∙◌}
use lib.ListN.{length}
use Rattle.model.specs.Run.{verdict_text}
use Rattle.model.specs.Tables.{rule_words}
use Rattle.model.specs.Verdict.{verdict}
use Rattle.laws.specs.Area.{splice}
use Rattle.rule_table.proofs.Entries.{rules-room}
use Rattle.rule_table.proofs.Table.{rules-cut}
use Rattle.reports.proofs.Verdicts.{verdict-told}
use Rattle.frames.proofs.Close.{no_bytes, close-right}
use Rattle.frames.proofs.steps.close_step.Goals.{Start}
use Rattle.frames.proofs.steps.close_step.Goals as goal

-- the counted rules stand in their table
room : (c : Start) → c.args.counts.rules * rule_words ≤ length c.args.store.now.rules
room c = rules-room _ c.args.counts.rules c.requires.state.tables.rules c.requires.stands.rules

pub check-verdict-requires : goal.check-verdict-requires
check-verdict-requires c =
    let room = room (goal.at.check-verdict-requires c).Start in
    record { rules = c.requires.state.tables.rules; are = rules-cut c.args.store.now.rules c.args.counts.rules room ∙ c.requires.stands.rules }

pub returns : goal.returns
returns c s h =
    let a = c.args in
    let room = room (goal.at.returns c).Start in
    let judged : c.check-verdict.result ≡ verdict s.tables.rules s.open-words =
    c.check-verdict.ensures s.tables.rules (rules-cut a.store.now.rules a.counts.rules room ∙ h.rules)
    ∙ ap (verdict s.tables.rules) h.words in
    let said = verdict-told c.check-verdict.result ∙ ap verdict_text judged in
    close-right a.counts a.store.now s h _ _ (no_bytes a.bytes.now c.if-bytes-ne0.false)
    (c.put_verdict-printed.ensures.value ∙ ap length said)
    (c.put_verdict-printed.ensures.room_after ∙ ap (splice a.store.now.room 0) said)
