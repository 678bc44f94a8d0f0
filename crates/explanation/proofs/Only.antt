-- No second outcome fits: two results, and two values left with the caller, that meet a public contract of this crate for the same
-- arguments are equal. Entry points ask nothing of their arguments, so this holds for any words.
use mathlib.Core.List.{[]}
use mathlib.Core.Path.{◌≡◌, refl, sym, ◌∙◌}
use contract.Lifetimes.{Lfts}
use Rattle.model.specs.Query.{Answer}
use Rattle.model.specs.Query.{Measured}
use Rattle.model.specs.Verdict.{Verdict}
use Rattle.model.specs.Query.{Tables}
use Rattle.entries.specs.Nodes.{nodes_of}
use Rattle.forest.specs.Rows.{connections_of}
use Rattle.explanation.proofs.check.Reads as check
use Rattle.explanation.proofs.distance.Reads as distance
use Rattle.explanation.proofs.respond.Reads as respond
use Rattle.explanation.proofs.query.Reads as query

check-only : (κs : Lfts 4) (a s s' : _) (r r' : Verdict) → check.Post κs a r s → check.Post κs a r' s' → r ≡ r'
check-only κs a s s' r r' p q = p ∙ sym q

distance-only : (κs : Lfts 3) (a s s' : _) (r r' : Measured) → distance.Post κs a r s → distance.Post κs a r' s' → r ≡ r'
distance-only κs a s s' r r' p q = p ∙ sym q

-- (the rules play no part)
respond-only : (κs : Lfts 3) (a s s' : _) (r r' : Answer) → respond.Post κs a r s → respond.Post κs a r' s' →
    (r ≡ r') × (s.1.1.1.1.0.now ≡ s'.1.1.1.1.0.now)
respond-only κs a s s' r r' p q =
    let t : Tables = record { nodes = nodes_of a.0.now; rules = []; conns = connections_of a.1.0.now } in
    let x = p t refl refl in
    let y = q t refl refl in
    (x.0 ∙ sym y.0, x.1 ∙ sym y.1)

query-only : (κs : Lfts 4) (a s s' : _) (r r' : Answer) → query.Post κs a r s → query.Post κs a r' s' →
    (r ≡ r') × (s.1.1.1.1.1.0.now ≡ s'.1.1.1.1.1.0.now)
query-only κs a s s' r r' p q = (p.0 ∙ sym q.0, p.1 ∙ sym q.1)
