-- What judging an entry, or a whole table, gives: what was accepted, or the refusal.
use Rattle.std.specs.Prelude.{ℕ, Bool, true, false, Result, Ok, Err, ⊤}
use Rattle.model.specs.declared.Refusal.{Refusal}
use Rattle.model.specs.Refusal.{number}

pub data Judged (A : Type 0) : Type 0 where
  good : A → Judged A
  bad : Refusal → Judged A

-- what judging answers: an entry is taken, or the refusal
abbrev pub Judgement : Type 0
Judgement = Result ⊤ Refusal

module _ {A : Type 0} where
  -- the refusal where its condition holds, else what comes behind it: so that the lowest number is tried first
  abbrev pub refuse_if : Bool → Refusal → Judged A → Judged A
  refuse_if true r j = bad r
  refuse_if false r j = j

  -- what the code answers, and document 01's number for each case of that
  abbrev pub judgement_of : Judged A → Judgement
  judgement_of (good a) = Ok tt
  judgement_of (bad r) = Err r

abbrev pub number_of : Judgement → ℕ
number_of (Ok u) = 0
number_of (Err r) = number r
