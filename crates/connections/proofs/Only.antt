-- No second outcome fits: two results and two tables of classes that meet a public contract of this crate, for the same arguments, are equal.
use mathlib.Core.Bool.{Bool}
use mathlib.Core.Path.{◌≡◌, sym, ◌∙◌}
use contract.Lifetimes.{Lfts}
use Rattle.model.specs.declared.Connection.{Connection}
use Rattle.model.specs.Judged.{Judgement}
use Rattle.connections.proofs.connection_at.Reads as connection-at
use Rattle.connections.proofs.entry_whole.Reads as entry_whole
use Rattle.connections.proofs.part.Reads as part
use Rattle.connections.proofs.join.Reads as join
use Rattle.connections.proofs.judge_entry.Reads as judge-entry
use Rattle.connections.proofs.judge_connections.Reads as judge-connections

connection-at-only : (κs : Lfts 1) (a s s' : _) (r r' : Connection) → connection-at.Post κs a r s → connection-at.Post κs a r' s' → r ≡ r'
connection-at-only κs a s s' r r' p q = p ∙ sym q

entry-whole-only : (κs : Lfts 1) (a s s' : _) (r r' : Bool) → entry_whole.Post κs a r s → entry_whole.Post κs a r' s' → r ≡ r'
entry-whole-only κs a s s' r r' p q = p ∙ sym q

-- the classes, the first argument
part-only : (κs : Lfts 1) (a s s' r r' : _) → part.Post κs a r s → part.Post κs a r' s' → s.0.now ≡ s'.0.now
part-only κs a s s' r r' p q = p ∙ sym q

join-only : (κs : Lfts 1) (a s s' r r' : _) → join.Post κs a r s → join.Post κs a r' s' → s.0.now ≡ s'.0.now
join-only κs a s s' r r' p q = p ∙ sym q

judge-entry-only : (κs : Lfts 3) (a s s' : _) (r r' : Judgement) → judge-entry.Post κs a r s → judge-entry.Post κs a r' s' → r ≡ r'
judge-entry-only κs a s s' r r' p q = p ∙ sym q

judge-connections-only : (κs : Lfts 2) (a s s' : _) (r r' : Judgement) → judge-connections.Post κs a r s → judge-connections.Post κs a r' s' → r ≡ r'
judge-connections-only κs a s s' r r' p q = p ∙ sym q
