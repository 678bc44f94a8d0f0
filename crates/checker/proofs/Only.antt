-- No second outcome fits: two results that meet the public contract of this crate, for the same arguments, are equal.
use mathlib.Core.Path.{◌≡◌, sym, ◌∙◌}
use contract.Lifetimes.{Lfts}
use Rattle.model.specs.Verdict.{Verdict}
use Rattle.checker.proofs.check.Reads as check

check-only : (κs : Lfts 2) (a s s' : _) (r r' : Verdict) → check.Pre κs a → check.Post κs a r s → check.Post κs a r' s' → r ≡ r'
check-only κs a s s' r r' w p q = p w.rules w.are ∙ sym (q w.rules w.are)
