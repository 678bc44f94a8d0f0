-- `decode::put_rule` meets its contract: the frame says a rule just where two sides are found, the second up to the end.
use Rattle.layouts.specs.Words.{words_of_rule}
use Rattle.decode.proofs.Slots.{nothing_put}
use Rattle.decode.proofs.RuleWords.{no-head, no-left, middle-within, no-right, no_end, both-sides, rule-there, rule-put}
use Rattle.decode.proofs.put_rule.Goals as goal

pub returns-then-n-lt2 : goal.returns-then-n-lt2
returns-then-n-lt2 c = record { value = (nothing_put words_of_rule c.args.slot.now _ (no-head _ c.if-n-lt2.true)).0; slot_after = (nothing_put words_of_rule c.args.slot.now _ (no-head _ c.if-n-lt2.true)).1 }

pub returns-in_default : goal.returns-in_default
returns-in_default c = record { value = (nothing_put words_of_rule c.args.slot.now _ (no-left _ c.if-n-lt2.false c.in_default.ensures)).0; slot_after = (nothing_put words_of_rule c.args.slot.now _ (no-left _ c.if-n-lt2.false c.in_default.ensures)).1 }

pub side_at-requires-2 : goal.side_at-requires-2
side_at-requires-2 c =
    middle-within c.args.bytes.now c.if-n-lt2.false _ _ c.in-Some.ensures

pub returns-in_default-side_at : goal.returns-in_default-side_at
returns-in_default-side_at c = record {
  value = (nothing_put words_of_rule c.args.slot.now _
      (no-right _ c.if-n-lt2.false _ _ c.in-Some.ensures c.in_default-side_at.ensures)).0;
  slot_after = (nothing_put words_of_rule c.args.slot.now _
      (no-right _ c.if-n-lt2.false _ _ c.in-Some.ensures c.in_default-side_at.ensures)).1;
}

pub returns-then-end-n : goal.returns-then-end-n
returns-then-end-n c = record {
  value = (nothing_put words_of_rule c.args.slot.now _
      (no_end _ c.if-n-lt2.false _ _ c.in-Some.ensures _ _ c.in-Some-side_at.ensures c.if-end-n.true)).0;
  slot_after = (nothing_put words_of_rule c.args.slot.now _
      (no_end _ c.if-n-lt2.false _ _ c.in-Some.ensures _ _ c.in-Some-side_at.ensures c.if-end-n.true)).1;
}

pub write_rule-requires : goal.write_rule-requires
write_rule-requires c =
    (both-sides c.args.bytes.now c.if-n-lt2.false _ _ c.in-Some.ensures _ _ c.in-Some-side_at.ensures, c.requires)

pub returns : goal.returns
returns c = record {
  value = (rule-put
      (rule-there c.args.bytes.now c.if-n-lt2.false _ _ c.in-Some.ensures _ _ c.in-Some-side_at.ensures c.if-end-n.false)
      c.args.slot.now _ c.write_rule.ensures).0;
  slot_after = (rule-put
      (rule-there c.args.bytes.now c.if-n-lt2.false _ _ c.in-Some.ensures _ _ c.in-Some-side_at.ensures c.if-end-n.false)
      c.args.slot.now _ c.write_rule.ensures).1;
}
