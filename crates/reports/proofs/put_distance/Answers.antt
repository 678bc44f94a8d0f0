-- `reports::put_distance` meets its contract: a name and a number.
use Rattle.model.specs.Text.{bytes}
use Rattle.reports.specs.Reports.{one_field, distance_text}
use Rattle.reports.proofs.put_distance.Goals as goal

pub returns : goal.returns
unfolding distance_text one_field bytes
returns c = record {
  value = c.put_one.ensures.value;
  room_after = c.put_one.ensures.room_after;
}
