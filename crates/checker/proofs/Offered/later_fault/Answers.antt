-- `checker::Offered::later_fault` meets its contract: 15, and then what the one mark tells.
-- Assumes nothing.
use mathlib.Core.Path.{sym, subst, ◌∙◌}
use Rattle.model.specs.Term.{one}
use Rattle.laws.proofs.Handed.{handed_on}
use Rattle.marks.specs.Marks.{OneIs}
use Rattle.checker.specs.Check.{Marked, FollowsIs}
use Rattle.checker.proofs.Later.{fault-marks, ok-some, err-none}
use Rattle.checker.proofs.Offered.later_fault.Goals as goal
use Rattle.checker.proofs.Offered.later_fault.Goals.{In_ok-mark}

known : (c : In_ok-mark) → let a = c.args in Marked a.self.words.now a.before a.at c.in_ok-mark.mark.nodes c.in_ok-mark.mark.end
known c =
    let a = c.args in
    let w = c.requires.well in
    let found = ok-some _ _ _ (sym c.ok_or.ensures.value ∙ c.in_ok-mark.was) in
    let o = subst (OneIs a.self.words.now a.at) found c.one_mark.ensures w.end w.term w.is in
    record {
      earlier = c.requires.ends_at.term;
      is_e = c.requires.ends_at.is;
      later = w.term;
      is_l = rw o.ends w.is;
      mark = rw (← o.ends) at o;
    }

pub returns-in_err-mark : goal.returns-in_err-mark
returns-in_err-mark c =
    let a = c.args in
    let (z, q) = err-none _ _ _ (sym c.ok_or.ensures.value ∙ c.in_err-mark.was) in
    subst (FollowsIs a.self.rules.now a.self.words.now a.before a.at) (sym (handed_on c.from_residual.result _ c.from_residual.ensures.1))
    (rw (← q) (λ rs are e e' s t hs ht. fault-marks rs (one s) (one t) (subst (OneIs a.self.words.now a.at) z c.one_mark.ensures e' t ht)))

pub mark_fault-requires : goal.mark_fault-requires
mark_fault-requires c = known (goal.at.mark_fault-requires c).In_ok-mark

pub returns : goal.returns
returns c =
    let w = known (goal.at.returns c).In_ok-mark in
    (record { term = w.later; is = w.is_l }, c.in_ok-mark_fault.ensures)
