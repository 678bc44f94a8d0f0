-- `reports::put_verdict` meets its contract: an accepted proof by one name and number.
use Rattle.model.specs.Text.{bytes}
use Rattle.reports.specs.Reports.{one_field}
use Rattle.reports.proofs.put_verdict.Goals as goal

pub returns-in-Ok : goal.returns-in-Ok
unfolding one_field bytes
returns-in-Ok g c = record {
  value = rw c.in-Ok.is c.put_one.ensures.value;
  room_after = rw c.in-Ok.is c.put_one.ensures.room_after;
}
