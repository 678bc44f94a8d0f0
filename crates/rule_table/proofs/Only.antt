-- No second outcome fits: two results that meet a public contract of this crate, for the same arguments, are equal.
use mathlib.Core.Path.{◌≡◌, sym, ◌∙◌}
use contract.Lifetimes.{Lfts}
use Prim.Native.Nat.{ℕ}
use Rattle.std.specs.Prelude.{Option}
use Rattle.model.specs.Judged.{Judgement}
use Rattle.rule_table.specs.declared.Item.{Item}
use Rattle.rule_table.proofs.find_rule.Reads as find-rule
use Rattle.rule_table.proofs.Entry.left_side.Reads as left-side
use Rattle.rule_table.proofs.Entry.right_side.Reads as right_side
use Rattle.rule_table.proofs.slot_at.Reads as slot_at
use Rattle.rule_table.proofs.judge_rule.Reads as judge-rule
use Rattle.rule_table.proofs.judge_rules.Reads as judge-rules

find-rule-only : (κs : Lfts 1) (a s s' : _) (r r' : Option ℕ) → find-rule.Post κs a r s → find-rule.Post κs a r' s' → r ≡ r'
find-rule-only κs a s s' r r' p q = p ∙ sym q

-- the slots that are handed out
left-side-only : (κs : Lfts 1) (a s s' r r' : _) → left-side.Post κs a r s → left-side.Post κs a r' s' → r.now ≡ r'.now
left-side-only κs a s s' r r' p q = p ∙ sym q

right-side-only : (κs : Lfts 1) (a s s' r r' : _) → right_side.Post κs a r s → right_side.Post κs a r' s' → r.now ≡ r'.now
right-side-only κs a s s' r r' p q = p ∙ sym q

slot-at-only : (κs : Lfts 1) (a s s' : _) (r r' : Option Item) → slot_at.Post κs a r s → slot_at.Post κs a r' s' → r ≡ r'
slot-at-only κs a s s' r r' p q = p ∙ sym q

judge-rule-only : (κs : Lfts 2) (a s s' : _) (r r' : Judgement) → judge-rule.Post κs a r s → judge-rule.Post κs a r' s' → r ≡ r'
judge-rule-only κs a s s' r r' p q = p ∙ sym q

judge-rules-only : (κs : Lfts 1) (a s s' : _) (r r' : Judgement) → judge-rules.Post κs a r s → judge-rules.Post κs a r' s' → r ≡ r'
judge-rules-only κs a s s' r r' p q = p ∙ sym q
