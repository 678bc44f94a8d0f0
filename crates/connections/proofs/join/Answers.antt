use native.Mathlib.Omega.{arith}
use Prim.Native.Nat.{ℕ}
use mathlib.Core.Path.{ap, ap₂, sym, ◌∙◌}
use lib.ListN.{get_or}
use Rattle.laws.proofs.Stored.{stored-none, stored_next, stored-all}
use Rattle.connections.specs.Classes.{renamed}
use Rattle.connections.proofs.Classes.{joined_length, joined_at}
use Rattle.connections.proofs.join.Goals as goal

pub loop-top-init : goal.loop-top-init
loop-top-init c = stored-none _

pub loop-top-preserved : goal.loop-top-preserved
loop-top-preserved c = let l = c.loop-top in
    stored_next l.invariant (omega (arith, l.invariant.long)) (c.rename.ensures ∙ ap (renamed _ _) (l.invariant.rest l.top-index (omega arith)))

pub shape_of-classes : goal.shape_of-classes
shape_of-classes c = c.loop-top.invariant.long

pub returns : goal.returns
returns c =
    let ws = c.args.classes.now in
    let a = c.args.a.0 in
    let b = c.args.b.0 in
    stored-all c.loop-top.invariant (omega (arith, c.loop-top.invariant.long)) _ (joined_length ws a b)
    (λ k h.
    joined_at ws a b k h
    ∙ ap₂ (λ (x y : ℕ). renamed x y (get_or ws k 0)) (sym c.class_of-from.ensures) (sym c.class_of-to.ensures))
