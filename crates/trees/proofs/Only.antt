-- No second outcome fits: two results and two areas or tables that meet a public contract of this crate, for the same arguments, are equal.
use Prim.Native.Nat.{ℕ}
use mathlib.Core.Path.{◌≡◌, sym, ap₂, ◌∙◌}
use contract.Lifetimes.{Lfts}
use Rattle.model.specs.declared.Direction.{Direction}
use Rattle.model.specs.declared.RuleNo.{RuleNo}
use Rattle.trees.specs.declared.Mark.{Mark}
use Rattle.trees.proofs.held.Reads as held
use Rattle.trees.proofs.amount.Reads as amount
use Rattle.trees.proofs.size_of.Reads as size-of
use Rattle.trees.proofs.words_of.Reads as words_of
use Rattle.trees.proofs.sizes_from.Reads as sizes-from
use Rattle.trees.proofs.fill_sizes.Reads as fill-sizes
use Rattle.trees.proofs.write_tree.Reads as write-tree
use Rattle.trees.proofs.append.Reads as append
use Rattle.trees.proofs.mark_for.Reads as mark-for
use Rattle.trees.proofs.clear_from.Reads as clear-from

held-only : (κs : Lfts 0) (a s s' : _) (r r' : ℕ) → held.Post κs a r s → held.Post κs a r' s' → r ≡ r'
held-only κs a s s' r r' p q = p ∙ sym q

amount-only : (κs : Lfts 1) (a s s' : _) (r r' : ℕ) → amount.Post κs a r s → amount.Post κs a r' s' → r ≡ r'
amount-only κs a s s' r r' p q = p.0 ∙ sym q.0

size-of-only : (κs : Lfts 1) (a s s' : _) (r r' : ℕ) → size-of.Post κs a r s → size-of.Post κs a r' s' → r ≡ r'
size-of-only κs a s s' r r' p q = p.0 ∙ sym q.0

words-of-only : (κs : Lfts 1) (a s s' : _) (r r' : ℕ) → words_of.Post κs a r s → words_of.Post κs a r' s' → r ≡ r'
words-of-only κs a s s' r r' p q = p ∙ sym q

sizes-from-only : (κs : Lfts 2) (a s s' : _) (r r' : ℕ) → sizes-from.Post κs a r s → sizes-from.Post κs a r' s' → r ≡ r'
sizes-from-only κs a s s' r r' p q = p.0 ∙ sym q.0

-- the table, its second argument
fill-sizes-only : (κs : Lfts 2) (a s s' r r' : _) → fill-sizes.Post κs a r s → fill-sizes.Post κs a r' s' → s.1.0.now ≡ s'.1.0.now
fill-sizes-only κs a s s' r r' p q = p ∙ sym q

-- the end, and the area, its third argument
write-tree-only : (κs : Lfts 2) (a s s' : _) (r r' : ℕ) → write-tree.Post κs a r s → write-tree.Post κs a r' s' →
    (r ≡ r') × (s.1.1.0.now ≡ s'.1.1.0.now)
write-tree-only κs a s s' r r' p q = (p.0 ∙ sym q.0, p.1 ∙ sym q.1)

-- the end, and the area, its second argument
append-only : (κs : Lfts 2) (a s s' : _) (r r' : ℕ) → append.Post κs a r s → append.Post κs a r' s' →
    (r ≡ r') × (s.1.0.now ≡ s'.1.0.now)
append-only κs a s s' r r' p q = (p.0 ∙ sym q.0, p.1 ∙ sym q.1)

mark-for-only : (κs : Lfts 0) (a s s' : _) (r r' : Mark) → mark-for.Post κs a r s → mark-for.Post κs a r' s' → r ≡ r'
mark-for-only κs a s s' r r' p q = ap₂ (λ (d : Direction) (n : RuleNo). record { direction = d; rule = n }) (p.1 ∙ sym q.1) (p.0 ∙ sym q.0)

-- the area, its first argument
clear-from-only : (κs : Lfts 1) (a s s' r r' : _) → clear-from.Post κs a r s → clear-from.Post κs a r' s' → s.0.now ≡ s'.0.now
clear-from-only κs a s s' r r' p q = p ∙ sym q
