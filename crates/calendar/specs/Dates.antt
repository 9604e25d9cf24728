-- Need not be believed: `equations` (specs/Dates.antt) equates each definition with one of gregorian/specs/Times.antt at a `DateTime`, `nearest` with that of gregorian/specs/Nearest.antt, and `in_range_accepted` and `accepted_in_range` (proofs/Laws.antt) `InRange` with `checked`. No crate above can open the other five. Assumes nothing.
use Rattle.computed.specs.Prelude.{ℕ, refl}
use Rattle.std.specs.Prelude.{◌≡◌}
use Rattle.refusals.specs.Numbered.{Numbered}
use Rattle.gregorian.specs.Times.{checked_time, seconds_to, time_after, weekday_on}
use Rattle.gregorian.specs.Nearest.{nearest_time}
use Rattle.gregorian.specs.Ranges.{Valid}
use Rattle.calendar.specs.declared.DateTime.{DateTime}
use Rattle.calendar.specs.AsTime.{as_time, as_date_time}

-- every field is in its range
abbrev pub InRange : DateTime → Type 0
InRange t = Valid (as_time t)

-- the check of a time: refusal 1 to 6 for the first field out of its range
pub checked : DateTime → Numbered (Unit {0})
checked t = checked_time (as_time t)

-- the seconds from 2000-01-01T00:00:00 to a time
pub seconds_of : DateTime → ℕ
seconds_of t = seconds_to (as_time t)

-- the time s seconds after 2000-01-01T00:00:00
pub time_of : ℕ → DateTime
time_of s = as_date_time (time_after s)

-- the day of the week of a time, Monday 1 to Sunday 7
pub weekday_of : DateTime → ℕ
weekday_of t = weekday_on (as_time t)

-- the time whose every field is moved to the nearest value in its range, a day past the month's end to its last day
pub nearest : DateTime → DateTime
nearest t = as_date_time (nearest_time (as_time t))

pub record Equations : Type 0 where
  pub checked_is : (t : DateTime) → checked t ≡ checked_time (as_time t)
  pub seconds_of_is : (t : DateTime) → seconds_of t ≡ seconds_to (as_time t)
  pub time_of_is : (s : ℕ) → time_of s ≡ as_date_time (time_after s)
  pub weekday_of_is : (t : DateTime) → weekday_of t ≡ weekday_on (as_time t)
  pub nearest_is : (t : DateTime) → nearest t ≡ as_date_time (nearest_time (as_time t))

pub equations : Equations
unfolding checked seconds_of time_of weekday_of nearest
equations = record { checked_is = λ t. refl; seconds_of_is = λ t. refl; time_of_is = λ s. refl; weekday_of_is = λ t. refl; nearest_is = λ t. refl }
