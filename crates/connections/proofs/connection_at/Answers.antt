-- `connections::connection_at` meets its contract: each word that is read is the one that the definition names.
use mathlib.Core.Path.{sym, ap, ◌∙◌}
use Rattle.entries.specs.Connections.{direction_in}
use Rattle.entries.proofs.Connections.{connection-cong, connection-rule}
use Rattle.connections.proofs.connection_at.Goals as goal

pub returns-in-0 : goal.returns-in-0
returns-in-0 c =
    connection-cong c.args.conns.now c.args.age c.word.ensures c.word-2.ensures
    (sym c.word-3.ensures ∙ c.in-0.is)

pub returns-in_default : goal.returns-in_default
returns-in_default c =
    connection-rule c.args.conns.now c.args.age c.word.ensures c.word-2.ensures
    (λ p. c.in_default.in_default-own.rest.1 (c.word-3.ensures ∙ p)) c.word-in_default.ensures
    (c.direction_of.ensures ∙ ap direction_in c.word-in_default-2.ensures)
