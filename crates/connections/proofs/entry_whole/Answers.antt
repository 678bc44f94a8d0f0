-- `connections::entry_whole` meets its contract: whether the entry's words are there, then whether its fields are in their sets, by its kind.
use mathlib.Core.Path.{◌≡◌, sym, ◌∙◌}
use Rattle.model.specs.Tables.{why_of, connection_entry}
use Rattle.laws.specs.Present.{present}
use Rattle.entries.proofs.Connections.{present-short, present-long, fields-cong, fields-named, fields-rule, fields-none}
use Rattle.connections.proofs.entry_whole.Goals.{After-word}
use Rattle.connections.proofs.entry_whole.Goals as goal

pub returns-then-conns-base : goal.returns-then-conns-base
returns-then-conns-base c = sym (present-short _ _ c.if-conns-base.true)

-- where the words are there, their fields decide
by-fields : (c : After-word) →
    present (connection_entry c.args.conns.now c.args.age) ≡ present (why_of c.word.result c.word-rule.result c.word-forward.result)
by-fields c =
    present-long c.args.conns.now c.args.age c.if-conns-base.false c.word.ensures c.word-rule.ensures c.word-forward.ensures

pub returns-then-rule-ne0 : goal.returns-then-rule-ne0
returns-then-rule-ne0 c =
    sym (by-fields (goal.at.returns-then-rule-ne0 c).After-word ∙ fields-named _ _ _ c.in-0.is c.if-rule-ne0.true)

pub returns-else-rule-ne0 : goal.returns-else-rule-ne0
returns-else-rule-ne0 c =
    sym (by-fields (goal.at.returns-else-rule-ne0 c).After-word ∙ fields-cong _ _ _ c.in-0.is c.if-rule-ne0.false)

pub returns-in-1 : goal.returns-in-1
returns-in-1 c =
    sym (by-fields (goal.at.returns-in-1 c).After-word ∙ fields-rule _ _ _ c.in-1.is)

pub returns-in_default : goal.returns-in_default
returns-in_default c =
    sym (by-fields (goal.at.returns-in_default c).After-word ∙ fields-none _ _ _ c.in_default.in_default-own.rest.0.1 c.in_default.in_default-own.rest.1)
