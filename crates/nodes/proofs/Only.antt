-- No second outcome fits: two results that meet a public contract of this crate, for the same arguments, are equal.
use Prim.Native.Nat.{ℕ}
use mathlib.Core.Path.{◌≡◌, sym, ap, ◌∙◌}
use contract.Lifetimes.{Lfts}
use Rattle.model.specs.Judged.{Judgement}
use Rattle.model.specs.declared.NodeNo.{NodeNo}
use Rattle.model.specs.declared.OpNo.{OpNo}
use Rattle.nodes.proofs.operator_of.Reads as operator-of
use Rattle.nodes.proofs.count_of.Reads as count_of
use Rattle.nodes.proofs.child_of.Reads as child-of
use Rattle.nodes.proofs.judge_node.Reads as judge-node
use Rattle.nodes.proofs.judge_nodes.Reads as judge-nodes

operator-of-only : (κs : Lfts 1) (a s s' : _) (r r' : OpNo) → operator-of.Post κs a r s → operator-of.Post κs a r' s' → r ≡ r'
operator-of-only κs a s s' r r' p q = ap (λ (n : ℕ). record { 0 = n }) (p ∙ sym q)

count-of-only : (κs : Lfts 1) (a s s' : _) (r r' : ℕ) → count_of.Post κs a r s → count_of.Post κs a r' s' → r ≡ r'
count-of-only κs a s s' r r' p q = p ∙ sym q

child-of-only : (κs : Lfts 1) (a s s' : _) (r r' : NodeNo) → child-of.Post κs a r s → child-of.Post κs a r' s' → r ≡ r'
child-of-only κs a s s' r r' p q = ap (λ (n : ℕ). record { 0 = n }) (p ∙ sym q)

judge-node-only : (κs : Lfts 1) (a s s' : _) (r r' : Judgement) → judge-node.Post κs a r s → judge-node.Post κs a r' s' → r ≡ r'
judge-node-only κs a s s' r r' p q = p ∙ sym q

judge-nodes-only : (κs : Lfts 1) (a s s' : _) (r r' : Judgement) → judge-nodes.Post κs a r s → judge-nodes.Post κs a r' s' → r ≡ r'
judge-nodes-only κs a s s' r r' p q = p ∙ sym q
