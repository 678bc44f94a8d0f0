-- `decode::put_connection` meets its contract: five stores are the connection's words.
use native.Mathlib.Omega.{arith}
use borrow.Author.Tests.{not-true, not-false}
use mathlib.Core.Path.{sym, ◌∙◌}
use lib.ListN.{length-set}
use Rattle.layouts.specs.Words.{words_of_connection}
use Rattle.decode.proofs.Slots.{nothing_put}
use Rattle.decode.proofs.Connections.{other_length, no-connection, connection-put}
use Rattle.decode.proofs.put_connection.Goals as goal

pub returns-then-bytes-ne-CONNECTION_BYTES : goal.returns-then-bytes-ne-CONNECTION_BYTES
returns-then-bytes-ne-CONNECTION_BYTES c = record { value = (nothing_put words_of_connection c.args.slot.now _ (other_length _ c.if-bytes-ne-CONNECTION_BYTES.true)).0; slot_after = (nothing_put words_of_connection c.args.slot.now _ (other_length _ c.if-bytes-ne-CONNECTION_BYTES.true)).1 }

pub returns-then-not-why_fits : goal.returns-then-not-why_fits
returns-then-not-why_fits c = record {
  value = (nothing_put words_of_connection c.args.slot.now _
      (no-connection _ c.args.slot.now _ (omega arith) c.word_at-rule.ensures (sym (not-true _ c.if-not-why_fits.true-raw) ∙ c.why_fits.ensures))).0;
  slot_after = (nothing_put words_of_connection c.args.slot.now _
      (no-connection _ c.args.slot.now _ (omega arith) c.word_at-rule.ensures (sym (not-true _ c.if-not-why_fits.true-raw) ∙ c.why_fits.ensures))).1;
}

pub bounds-slot-2 : goal.bounds-slot-2
bounds-slot-2 c = simp length-set (omega arith)

pub bounds-slot-3 : goal.bounds-slot-3
bounds-slot-3 c = simp length-set (omega arith)

pub bounds-slot-4 : goal.bounds-slot-4
bounds-slot-4 c = simp length-set (omega arith)

pub returns : goal.returns
returns c = record {
  value = (connection-put _ _ _ (omega arith) c.word_at-rule.ensures _ _ _ _ c.requires (sym (not-false _ c.if-not-why_fits.false-raw) ∙ c.why_fits.ensures)
      c.word_at.ensures c.word_at-2.ensures c.from.ensures c.from-2.ensures).0;
  slot_after = (connection-put _ _ _ (omega arith) c.word_at-rule.ensures _ _ _ _ c.requires (sym (not-false _ c.if-not-why_fits.false-raw) ∙ c.why_fits.ensures)
      c.word_at.ensures c.word_at-2.ensures c.from.ensures c.from-2.ensures).1;
}
