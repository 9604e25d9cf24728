-- `calendar::DateTime::nearest_seconds` meets its contract: the nearest time is in range.
use Rattle.calendar.proofs.Laws.{nearest_in_range}
use Rattle.calendar.proofs.DateTime.nearest_seconds.Goals as goal

pub seconds_of_valid-requires : goal.seconds_of_valid-requires
seconds_of_valid-requires c = rw c.nearest.ensures (nearest_in_range _)
