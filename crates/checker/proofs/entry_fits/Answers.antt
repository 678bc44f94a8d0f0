-- `checker::entry_fits` meets its contract: the matcher is lent the entry's two sides.
-- Assumes nothing.
use Rattle.model.specs.Rule.{Rule}
use Rattle.rule_table.specs.Slots.{PatternsAt}
use Rattle.rule_table.proofs.Entries.{EntryIs, entry-is}
use Rattle.rule_table.proofs.Table.{left-spells, right-spells}
use Rattle.matching.proofs.BothSides.{fit_is}
use Rattle.checker.proofs.entry_fits.Goals as goal
use Rattle.checker.proofs.entry_fits.Goals.{After-right_side-right}

left : (c : After-right_side-right) (x : Rule) → EntryIs c.args.entry.rules.now c.args.entry.index x → PatternsAt c.left_side-left.result.now 0 1 x.left
left c x e = rw c.left_side-left.ensures (left-spells _ _ x e)

right : (c : After-right_side-right) (x : Rule) → EntryIs c.args.entry.rules.now c.args.entry.index x → PatternsAt c.right_side-right.result.now 0 1 x.right
right c x e = rw c.right_side-right.ensures (right-spells _ _ x e)

pub rule_fits-requires : goal.rule_fits-requires
rule_fits-requires c =
    let above = (goal.at.rule_fits-requires c).After-right_side-right in
    let e = entry-is _ _ c.args.entry.has_rule.rule c.args.entry.has_rule.said in
    record {
      side = record { pattern = _; is = left above _ e };
      side_2 = record { pattern = _; is = right above _ e };
    }

pub returns : goal.returns
returns c = λ x said e e' t u ht hu.
    let above = (goal.at.returns c).After-right_side-right in
    let is = entry-is _ _ x said in
    fit_is _ _ _ _ _ c.rule_fits.result c.rule_fits.ensures x.left x.right (left above x is) (right above x is) e e' t u ht hu
