-- `connections::judge_entry` meets its contract: an entry that is not there is 2, and one that is there is judged as the connection it holds.
use mathlib.Core.Path.{sym, ap, ◌∙◌}
use mathlib.Core.Option.{some}
use borrow.Author.Tests.{not-true, not-false}
use Rattle.model.specs.Judged.{judgement_of}
use Rattle.model.specs.Connect.{add_connection}
use Rattle.entries.specs.Nodes.{nodes_of}
use Rattle.entries.specs.Connections.{oldest}
use Rattle.entries.proofs.Connections.{There, entry-there}
use Rattle.entries.proofs.Judging.{absent}
use Rattle.connections.proofs.judge_entry.Goals as goal

pub returns-then-not-entry_whole : goal.returns-then-not-entry_whole
returns-then-not-entry_whole c = absent _ _ _ (sym c.entry_whole.ensures ∙ not-true _ c.if-not-entry_whole.true-raw)

pub connection_at-requires : goal.connection_at-requires
connection_at-requires c =
    let there : There c.args.conns.now c.args.age = entry-there _ _ (sym c.entry_whole.ensures ∙ not-false _ c.if-not-entry_whole.false-raw) in
    (there).room

pub judge_connection-requires : goal.judge_connection-requires
judge_connection-requires c = c.requires.classes.size

pub returns : goal.returns
returns c =
    let there : There c.args.conns.now c.args.age = entry-there _ _ (sym c.entry_whole.ensures ∙ not-false _ c.if-not-entry_whole.false-raw) in
    let cs = oldest c.args.age c.args.conns.now in
    c.judge_connection.ensures cs c.requires.forest.0 c.requires.classes
    ∙ ap (λ o. judgement_of (add_connection (nodes_of c.args.nodes.words.now) cs o)) (ap some c.connection_at.ensures ∙ sym (there).is)
