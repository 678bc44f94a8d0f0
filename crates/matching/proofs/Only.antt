-- No second outcome fits: two results that meet a public contract of this crate, for the same arguments, are equal.
use mathlib.Core.Bool.{Bool}
use mathlib.Core.Path.{◌≡◌}
use contract.Lifetimes.{Lfts}
use Rattle.terms.proofs.Only.{one_answer}
use Rattle.terms.proofs.Single.{well-of}
use Rattle.matching.proofs.rule_fits.Reads as rule_fits

rule-fits-only : (κs : Lfts 3) (a s s' : _) (r r' : Bool) → rule_fits.Pre κs a → rule_fits.Post κs a r s → rule_fits.Post κs a r' s' → r ≡ r'
rule-fits-only κs a s s' r r' w p q =
    let l = w.0.is in
    let t = w.1.is in
    let x = (well-of a.1.1.0.well_a).is in
    let y = (well-of a.1.1.0.well_b).is in
    one_answer r r' _ (p _ _ l t _ _ _ _ x y) (q _ _ l t _ _ _ _ x y)
