-- What is told of the checker's rejections is the text of its verdicts.
use mathlib.Core.Path.{◌≡◌, refl}
use Rattle.std.proofs.Common.{Ok, Err}
use Rattle.model.specs.Refusal.{number}
use Rattle.model.specs.Text.{bytes}
use Rattle.model.specs.Verdict.{Verdict}
use Rattle.model.specs.Run.{verdict_text}
use Rattle.reports.specs.Reports.{one_field, two_fields, told_text}

pub verdict-told : (v : Verdict) → told_text (λ r. number r.refusal) (λ r. r.place) v ≡ verdict_text v
unfolding verdict_text one_field two_fields bytes
verdict-told (Ok n) = refl
verdict-told (Err e) = refl
