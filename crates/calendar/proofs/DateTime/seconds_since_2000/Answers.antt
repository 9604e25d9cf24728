-- `calendar::DateTime::seconds_since_2000` meets its contract, by what `validate` answers.
use mathlib.Core.Path.{sym}
use Rattle.calendar.proofs.Laws.{accepted_in_range}
use Rattle.calendar.proofs.DateTime.seconds_since_2000.Goals as goal

pub seconds_of_valid-requires : goal.seconds_of_valid-requires
seconds_of_valid-requires c = accepted_in_range _ (sym c.in_ok-validate.ensures)
