-- Of all that a taken line prints, what begins with r says that a query is refused or a proof rejected.
use mathlib.Core.Bool.{Bool, true, false}
use mathlib.Core.Path.{◌≡◌, refl}
use Prim.Native.Nat.{ℕ}
use Rattle.std.proofs.Common.{Ok, Err}
use Rattle.model.specs.Verdict.{Verdict}
use Rattle.model.specs.Query.{Tables, Answer}
use Rattle.model.specs.Frame.{NodePair}
use Rattle.model.specs.Text.{bytes}
use Rattle.model.specs.Run.{answer_text, verdict_text, refusal_text}
use Rattle.reader.specs.Reading.{begins_with_r}

abbrev is_refused : Answer → Bool
is_refused (Ok w) = false
is_refused (Err e) = true

abbrev is_rejected : Verdict → Bool
is_rejected (Ok n) = false
is_rejected (Err e) = true

pub answer-said : (t : Tables) (p : NodePair) (l : ℕ) (a : Answer) → begins_with_r (answer_text t p l a) ≡ is_refused a
unfolding answer_text refusal_text bytes
answer-said t p l (Ok w) = refl
answer-said t p l (Err e) = refl

pub verdict-said : (v : Verdict) → begins_with_r (verdict_text v) ≡ is_rejected v
unfolding verdict_text bytes
verdict-said (Ok n) = refl
verdict-said (Err e) = refl
