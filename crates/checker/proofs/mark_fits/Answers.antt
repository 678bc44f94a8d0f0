-- `checker::mark_fits` meets its contract: forward, backward, or no mark at all.
-- Assumes nothing.
use Prim.Native.Nat.{ℕ}
use native.Mathlib.Omega.{arith}
use mathlib.Core.Path.{◌≡◌, sym, ap, ◌∙◌}
use Rattle.model.specs.declared.Direction.{Direction}
use Rattle.model.specs.Term.{marked, Term, mark_word, direction_word}
use Rattle.terms.specs.declared.TreeNode.{TreeNode}
use Rattle.terms.specs.Place.{TermAt}
use Rattle.terms.proofs.Place.{well-room}
use Rattle.terms.proofs.Single.{well-of}
use Rattle.checker.proofs.Split.{term-tree, way-forward, way-backward, no_way}
use Rattle.checker.proofs.mark_fits.Goals as goal
use Rattle.checker.proofs.mark_fits.Goals.{After-node_at-n}

word : (c : After-node_at-n) (e : ℕ) (u : Term) (d : Direction) (n : ℕ) → TermAt c.args.both.words.now c.args.both.b e u → u.mark ≡ marked d n
    → direction_word d ≡ c.node_at-n.result.mark
word c e u d n h m =
    ap mark_word (sym m) ∙ (sym (term-tree c.args.both.words.now c.args.both.b e u h).mark ∙ ap (λ (x : TreeNode). x.mark) (sym c.node_at-n.ensures))

pub node_at-n-requires : goal.node_at-n-requires
node_at-n-requires c = well-room c.args.both.words.now c.args.both.b (well-of c.args.both.well_b)

pub returns-in-1 : goal.returns-in-1
returns-in-1 c = λ x said e e' t u ht hu d n m.
    rw (way-forward d (word (goal.at.returns-in-1 c).After-node_at-n e' u d n hu m ∙ c.in-1.is)) (c.entry_fits.ensures x said e e' t u ht hu)

pub returns-in-2 : goal.returns-in-2
returns-in-2 c = λ x said e e' t u ht hu d n m.
    let (words, a, b) = c.exchanged-back.ensures in
    rw (way-backward d (word (goal.at.returns-in-2 c).After-node_at-n e' u d n hu m ∙ c.in-2.is))
    (c.entry_fits-in-2.ensures x said e' e u t (rw (← words, ← a) at hu) (rw (← words, ← b) at ht))

pub returns-in_default : goal.returns-in_default
returns-in_default c = λ x said e e' t u ht hu d n m.
    let w = word (goal.at.returns-in_default c).After-node_at-n e' u d n hu m in
    absurd (no_way d (λ z. omega (arith, w, z)) (λ z. omega (arith, w, z)))
