-- No second outcome fits: two results, and two tables left, that meet a public contract of this crate for the same arguments are equal.
use Prim.Native.Nat.{ℕ}
use mathlib.Core.Bool.{Bool}
use mathlib.Core.Path.{◌≡◌, sym, ap, ◌∙◌}
use contract.Lifetimes.{Lfts}
use Rattle.model.specs.declared.NodeNo.{NodeNo}
use Rattle.std.specs.Prelude.{Option}
use Rattle.forest.proofs.next_of.Reads as next_of
use Rattle.forest.proofs.age_of.Reads as age-of
use Rattle.forest.proofs.cost_of.Reads as cost-of
use Rattle.forest.proofs.put_cost.Reads as put-cost
use Rattle.forest.proofs.fill_rows.Reads as fill-rows
use Rattle.forest.proofs.meet.Reads as meet
use Rattle.forest.proofs.joined.Reads as joined

next-of-only : (κs : Lfts 1) (a s s' : _) (r r' : NodeNo) → next_of.Post κs a r s → next_of.Post κs a r' s' → r ≡ r'
next-of-only κs a s s' r r' p q = ap (λ (n : ℕ). record { 0 = n }) (p ∙ sym q)

age-of-only : (κs : Lfts 1) (a s s' : _) (r r' : ℕ) → age-of.Post κs a r s → age-of.Post κs a r' s' → r ≡ r'
age-of-only κs a s s' r r' p q = p ∙ sym q

cost-of-only : (κs : Lfts 1) (a s s' : _) (r r' : ℕ) → cost-of.Post κs a r s → cost-of.Post κs a r' s' → r ≡ r'
cost-of-only κs a s s' r r' p q = p ∙ sym q

put-cost-only : (κs : Lfts 1) (a s s' r r' : _) → put-cost.Post κs a r s → put-cost.Post κs a r' s' → s.0.now ≡ s'.0.now
put-cost-only κs a s s' r r' p q = p ∙ sym q

fill-rows-only : (κs : Lfts 2) (a s s' r r' : _) → fill-rows.Post κs a r s → fill-rows.Post κs a r' s' → s.1.1.0.now ≡ s'.1.1.0.now
fill-rows-only κs a s s' r r' p q = p ∙ sym q

-- whichever connections the rows stand for
meet-only : (κs : Lfts 1) (a s s' : _) (r r' : Option NodeNo) → meet.Pre κs a → meet.Post κs a r s → meet.Post κs a r' s' → r ≡ r'
meet-only κs a s s' r r' w p q =
    p w.conns w.nodes w.climbs w.left_in w.right-in ∙ sym (q w.conns w.nodes w.climbs w.left_in w.right-in)

joined-only : (κs : Lfts 1) (a s s' : _) (r r' : Bool) → joined.Pre κs a → joined.Post κs a r s → joined.Post κs a r' s' → r ≡ r'
joined-only κs a s s' r r' w p q =
    p w.conns w.nodes w.climbs w.left_in w.right-in ∙ sym (q w.conns w.nodes w.climbs w.left_in w.right-in)
