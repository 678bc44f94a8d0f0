-- `matching::item_step` meets its contract: a variable's item by what `bind` ensures, an operator's by what `op_step` ensures, and
-- there is no other.
-- Assumes nothing.
use mathlib.Core.Path.{sym, ap, ◌∙◌}
use Rattle.std.specs.Prelude.{Some}
use Rattle.terms.proofs.Place.{row_room as term-room, row-well}
use Rattle.matching.proofs.Patterns.{row_room}
use Rattle.matching.proofs.Item.{bind-step, op-step, other_step}
use Rattle.matching.proofs.item_step.Goals as goal

pub slot_at-requires : goal.slot_at-requires
slot_at-requires c = let r = c.requires.some_rows in row_room _ _ r.left r.rows.patterns r.rows.is_p

pub returns-in_err-held : goal.returns-in_err-held
returns-in_err-held c =
    let a = c.args in other_step a.side.now a.item a.words.now a.at a.b _ (sym c.in_err-held.ensures)

pub op_step-requires : goal.op_step-requires
op_step-requires c = let r = c.requires.some_rows in term-room _ _ r.left r.rows.terms r.rows.is_t

pub returns-in-Variable : goal.returns-in-Variable
returns-in-Variable c =
    let a = c.args in
    bind-step a.side.now a.item a.words.now a.at a.b c.bind.result c.in-Variable.x (sym c.in_ok-held.ensures ∙ ap Some c.in-Variable.is) c.bind.ensures

pub returns-in-Operator : goal.returns-in-Operator
returns-in-Operator c =
    let a = c.args in
    op-step a.side.now a.item a.words.now a.at a.b c.requires.valid c.op_step.result c.in-Operator.op c.in-Operator.count
    (sym c.in_ok-held.ensures ∙ ap Some c.in-Operator.is) c.op_step.ensures

pub bind-requires-clause-well : goal.bind-requires-clause-well
bind-requires-clause-well c =
    let r = c.requires.some_rows in row-well c.args.words.now c.args.at r.left r.rows.terms r.rows.is_t
