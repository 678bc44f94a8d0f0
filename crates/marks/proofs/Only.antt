-- No second outcome fits: two results that meet a public contract of this crate, for the same arguments, are equal.
use Prim.Native.Nat.{ℕ}
use mathlib.Core.Bool.{Bool}
use mathlib.Core.List.{List}
use mathlib.Core.Path.{◌≡◌, refl, sym, ◌∙◌}
use native.Mathlib.Omega.{arith}
use contract.Lifetimes.{Lfts}
use Rattle.model.specs.Term.{Term}
use Rattle.marks.specs.declared.OneMark.{OneMark}
use Rattle.std.specs.Prelude.{Option, Some, None}
use Rattle.marks.specs.Marks.{OneBy}
use Rattle.marks.proofs.marked.Reads as marked
use Rattle.marks.proofs.one_mark.Reads as one-mark

marked-only : (κs : Lfts 1) (a s s' : _) (r r' : Bool) → marked.Pre κs a → marked.Post κs a r s → marked.Post κs a r' s' → r ≡ r'
marked-only κs a s s' r r' w p q = p w.terms w.is ∙ sym (q w.terms w.is)

one_answer : (ws : List ℕ) (at e : ℕ) (t : Term) (r r' : Option OneMark) → OneBy r ws at e t → OneBy r' ws at e t → r ≡ r'
one_answer ws at e t (Some m) (Some m') p q =
    let a : m.nodes ≡ m'.nodes = omega (arith, p.rest.walked, q.rest.walked) in
    let b : m.end ≡ m'.end = p.ends ∙ sym q.ends in
    λ i. Some (record { nodes = a i; end = b i })
one_answer ws at e t (Some m) None p q = absurd (q p.alone)
one_answer ws at e t None (Some m) p q = absurd (p q.alone)
one_answer ws at e t None None p q = refl

one-mark-only : (κs : Lfts 1) (a s s' : _) (r r' : Option OneMark) → one-mark.Pre κs a → one-mark.Post κs a r s → one-mark.Post κs a r' s' → r ≡ r'
one-mark-only κs a s s' r r' w p q = one_answer _ _ w.end w.term r r' (p w.end w.term w.is) (q w.end w.term w.is)
