-- The calendar's rows of document 01's table of examples, at a `DateTime`: the rows themselves are `gregorian`'s.
-- Assumes nothing.
use mathlib.Core.List.{List, [], ◌∷◌}
use mathlib.Core.Path.{◌≡◌, ap, ◌∙◌}
use lib.IntN.{pos}
use Rattle.refusals.specs.Numbered.{accepted, refused, and_then}
use Rattle.gregorian.specs.Times.{checked_seconds}
use Rattle.gregorian.proofs.Examples as Rows
use Rattle.calendar.specs.AsTime.{as_date_time, date_time}
use Rattle.calendar.specs.Dates.{checked, seconds_of, time_of, weekday_of, equations}

-- what the public calls answer to a row
pub record Right (r : Rows.Row) : Type 0 where
  pub time_is : and_then (checked_seconds r.seconds) (accepted (time_of r.seconds)) ≡ accepted (as_date_time r.time)
  pub seconds_are : and_then (checked (as_date_time r.time)) (accepted (seconds_of (as_date_time r.time))) ≡ accepted r.seconds
  pub weekday_is : and_then (checked (as_date_time r.time)) (accepted (weekday_of (as_date_time r.time))) ≡ accepted r.weekday

right : (r : Rows.Row) → Rows.Right r → Right r
right r h =
    record {
      time_is = rw h.seconds_are_accepted (ap accepted (equations.time_of_is _ ∙ ap as_date_time h.time_is));
      seconds_are = rw (equations.checked_is, h.time_is_accepted) (ap accepted (equations.seconds_of_is _ ∙ h.seconds_are));
      weekday_is = rw (equations.checked_is, h.time_is_accepted) (ap accepted (equations.weekday_of_is _ ∙ h.weekday_is));
    }

each : (rs : List Rows.Row) → Rows.Each Rows.Right rs → Rows.Each Right rs
each [] h = tt
each (r ∷ rs) h = (right r h.0, each rs h.1)

-- the rows, and the two refusals
pub record Examples : Type 0 where
  pub rows : Rows.Each Right Rows.table
  pub too_late : and_then (checked_seconds 6311433600) (accepted (time_of 6311433600)) ≡ refused 8 []
  pub no_leap_day : checked (date_time 2100 2 29 0 0 0) ≡ refused 3 (pos 2100 ∷ pos 2 ∷ pos 29 ∷ [])

pub examples : Examples
examples = record { rows = each Rows.table Rows.examples; too_late = rw Rows.too_late; no_leap_day = equations.checked_is _ ∙ Rows.no_leap_day }
