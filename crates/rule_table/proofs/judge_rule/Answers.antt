-- `rule_table::judge_rule` meets its contract, return by return: the tests go in the order of the numbers.
-- Assumes nothing.
use native.Mathlib.Omega.{arith}
use Rattle.rule_table.proofs.Judged.{TwoSides, few-left, few-right, judge-length, judge-left, judge-right, judge-many, judge-listed, judge-unbound, judge-taken}
use Rattle.rule_table.proofs.judge_rule.Goals as goal
use Rattle.rule_table.proofs.judge_rule.Goals.{Else-not-is_side-2}

sides : (c : Else-not-is_side-2) → TwoSides c.args.entry.now
sides c = record { long = c.if-entry-ne-RULE_WORDS.false; left = cc; right = cc }

pub returns-then-entry-ne-RULE_WORDS : goal.returns-then-entry-ne-RULE_WORDS
returns-then-entry-ne-RULE_WORDS c = judge-length _ c.requires _ c.if-entry-ne-RULE_WORDS.true

pub returns-then-not-is_side : goal.returns-then-not-is_side
returns-then-not-is_side c = judge-left _ c.requires _ c.if-entry-ne-RULE_WORDS.false (cc)

pub returns-then-not-is_side-2 : goal.returns-then-not-is_side-2
returns-then-not-is_side-2 c = judge-right _ c.requires _ c.if-entry-ne-RULE_WORDS.false (cc)

pub returns-then-rules-ge-RULE_LIMIT : goal.returns-then-rules-ge-RULE_LIMIT
returns-then-rules-ge-RULE_LIMIT c =
    judge-many _ c.requires _ (sides (goal.at.returns-then-rules-ge-RULE_LIMIT c).Else-not-is_side-2) (omega arith)

pub returns-then-is_some : goal.returns-then-is_some
returns-then-is_some c =
    judge-listed _ c.requires _ (sides (goal.at.returns-then-is_some c).Else-not-is_side-2) (omega arith) (cc)

pub variables-on-requires : goal.variables-on-requires
variables-on-requires c =
    let w = sides (goal.at.variables-on-requires c).Else-not-is_side-2 in omega (arith, w.long, few-left _ w)

pub all_known-requires : goal.all_known-requires
all_known-requires c =
    let w = sides (goal.at.all_known-requires c).Else-not-is_side-2 in omega (arith, w.long, few-right _ w)

pub returns-then-not-all_known : goal.returns-then-not-all_known
returns-then-not-all_known c =
    judge-unbound _ c.requires _ (sides (goal.at.returns-then-not-all_known c).Else-not-is_side-2) (omega arith) (cc)
    _ (rw c.from-left.ensures at c.variables-on.ensures) (cc)

pub returns : goal.returns
returns c =
    judge-taken _ c.requires _ (sides (goal.at.returns c).Else-not-is_side-2) (omega arith) (cc)
    _ (rw c.from-left.ensures at c.variables-on.ensures) (cc)
