-- No second outcome fits: two results that meet a public contract of this crate, for the same arguments, are equal.
use Prim.Native.Nat.{ℕ}
use mathlib.Core.Bool.{Bool, true, false}
use mathlib.Core.Path.{◌≡◌, refl, sym, ◌∙◌}
use contract.Lifetimes.{Lfts}
use Rattle.terms.specs.declared.TreeNode.{TreeNode}
use Rattle.std.specs.Prelude.{Option}
use Rattle.terms.specs.Place.{Decides}
use Rattle.terms.proofs.Place.{end_same}
use Rattle.terms.proofs.node_at.Reads as node-at
use Rattle.terms.proofs.same_head.Reads as same_head
use Rattle.terms.proofs.end_of.Reads as end-of
use Rattle.terms.proofs.Single.{well-of}
use Rattle.terms.proofs.TwoTerms.exchanged.Reads as exchanged
use Rattle.terms.proofs.TwoTerms.same_term.Reads as same-term
use Rattle.terms.proofs.same_nodes.Reads as same_nodes
use Rattle.terms.proofs.whole_terms.Reads as whole-terms

node-at-only : (κs : Lfts 1) (a s s' : _) (r r' : TreeNode) → node-at.Post κs a r s → node-at.Post κs a r' s' → r ≡ r'
node-at-only κs a s s' r r' p q = p ∙ sym q

same-head-only : (κs : Lfts 0) (a s s' : _) (r r' : Bool) → same_head.Post κs a r s → same_head.Post κs a r' s' → r ≡ r'
same-head-only κs a s s' r r' p q = p ∙ sym q

end-of-only : (κs : Lfts 1) (a s s' : _) (r r' : ℕ) → end-of.Post κs a r s → end-of.Post κs a r' s' → r ≡ r'
end-of-only κs a s s' r r' p q = end_same _ _ r r' p.term q.term p.is q.is

-- a fact has one answer
pub one_answer : (r s : Bool) (P : Type 0) → Decides r P → Decides s P → r ≡ s
one_answer true true P a b = refl
one_answer false false P a b = refl
one_answer true false P a b = absurd (b a)
one_answer false true P a b = absurd (a b)

exchanged-only : (κs : Lfts 1) (a s s' r r' : _) → exchanged.Post κs a r s → exchanged.Post κs a r' s'
    → (r.words.now ≡ r'.words.now) × (r.a ≡ r'.a) × (r.b ≡ r'.b)
exchanged-only κs a s s' r r' (p, q, t) (x, y, z) = (p ∙ sym x, q ∙ sym y, t ∙ sym z)

same-term-only : (κs : Lfts 1) (a s s' : _) (r r' : Bool) → same-term.Post κs a r s → same-term.Post κs a r' s' → r ≡ r'
same-term-only κs a s s' r r' p q =
    let t = (well-of a.0.well_a).is in
    let u = (well-of a.0.well_b).is in
    one_answer r r' _ (p _ _ _ _ t u) (q _ _ _ _ t u)

same-nodes-only : (κs : Lfts 1) (a s s' : _) (r r' : Bool) → same_nodes.Post κs a r s → same_nodes.Post κs a r' s' → r ≡ r'
same-nodes-only κs a s s' r r' p q = p ∙ sym q

whole-terms-only : (κs : Lfts 1) (a s s' : _) (r r' : Option ℕ) → whole-terms.Post κs a r s → whole-terms.Post κs a r' s' → r ≡ r'
whole-terms-only κs a s s' r r' p q = p ∙ sym q
