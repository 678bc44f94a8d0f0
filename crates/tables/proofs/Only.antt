-- No second outcome fits: two judgements, and two tables left with the caller, that meet a public contract of this crate for the
-- same arguments are equal.
use mathlib.Core.Path.{◌≡◌, sym, ap₂, ◌∙◌}
use mathlib.Core.List.{List}
use Prim.Native.Nat.{ℕ}
use contract.Lifetimes.{Lfts}
use Rattle.model.specs.Judged.{Judgement}
use Rattle.tables.specs.Grown.{classes_after}
use Rattle.tables.proofs.take_node.Reads as take-node
use Rattle.tables.proofs.take_rule.Reads as take-rule
use Rattle.tables.proofs.take_connection.Reads as take-connection

take-node-only : (κs : Lfts 2) (a s s' : _) (r r' : Judgement) → take-node.Pre κs a → take-node.Post κs a r s → take-node.Post κs a r' s' →
    (r ≡ r') × (s.0.now ≡ s'.0.now)
take-node-only κs a s s' r r' h p q =
    ((p.0 h.0.nodes h.0.are).says ∙ sym (q.0 h.0.nodes h.0.are).says, p.1 ∙ sym q.1)

take-rule-only : (κs : Lfts 2) (a s s' : _) (r r' : Judgement) → take-rule.Pre κs a → take-rule.Post κs a r s → take-rule.Post κs a r' s' →
    (r ≡ r') × (s.0.now ≡ s'.0.now)
take-rule-only κs a s s' r r' h p q =
    ((p.0 h.0.rules h.0.are).says ∙ sym (q.0 h.0.rules h.0.are).says, p.1 ∙ sym q.1)

take-connection-only : (κs : Lfts 4) (a s s' : _) (r r' : Judgement) → take-connection.Pre κs a → take-connection.Post κs a r s →
    take-connection.Post κs a r' s' →
    (r ≡ r') × (s.1.0.now ≡ s'.1.0.now) × (s.1.1.0.now ≡ s'.1.1.0.now)
take-connection-only κs a s s' r r' h p q =
    let e : r ≡ r' = (p.0 _ h.0.table).says ∙ sym (q.0 _ h.0.table).says in
    let f = p.1.0 ∙ sym q.1.0 in
    (e, f, p.1.1.0 ∙ ap₂ (λ (j : Judgement) (l : List ℕ). classes_after j l a.1.1.1.0 a.1.1.0.now) e f ∙ sym q.1.1.0)
