-- A date with a time of day, from 2000-01-01T00:00:00 to 2199-12-31T23:59:59: which are valid, and their seconds since 2000. Assumes nothing.
use Rattle.computed.specs.Prelude.{ℕ, Bool, not, [], ltb, leb, pos}
use Rattle.std.specs.Prelude.{◌+◌, ◌*◌, ◌/◌, ◌%◌, ◌&&◌, ◌∷◌, if◌then◌else◌}
use Rattle.refusals.specs.Numbered.{Numbered, accepted, refused}
use Rattle.gregorian.specs.Calendar.{month_length, date_of_day, weekday_of_day}
use Rattle.gregorian.specs.DayNumbers.{day_number}

-- a date and a time of day, whose fields may be any numbers
pub record Time : Type 0 where
  pub year : ℕ
  pub month : ℕ
  pub day : ℕ
  pub hour : ℕ
  pub minute : ℕ
  pub second : ℕ

-- n is from a to b
unfoldable pub within : ℕ → ℕ → ℕ → Bool
within a b n = leb a n && leb n b

-- 'Dates, seconds, weekdays': the check of year, month, day, hour, minute, second gives the first fault, and there is no second 60; 'The table of refusals': 1 to 6, with the values
unfoldable pub checked_time : Time → Numbered (Unit {0})
checked_time t =
    if not (within 2000 2199 t.year) then refused 1 (pos t.year ∷ [])
    else if not (within 1 12 t.month) then refused 2 (pos t.month ∷ [])
    else if not (within 1 (month_length t.year t.month) t.day) then refused 3 (pos t.year ∷ pos t.month ∷ pos t.day ∷ [])
    else if not (within 0 23 t.hour) then refused 4 (pos t.hour ∷ [])
    else if not (within 0 59 t.minute) then refused 5 (pos t.minute ∷ [])
    else if not (within 0 59 t.second) then refused 6 (pos t.second ∷ [])
    else accepted tt

-- 'Dates, seconds, weekdays': the seconds from 2000-01-01T00:00:00 to a time
unfoldable pub seconds_to : Time → ℕ
seconds_to t = ((day_number t.year t.month t.day * 24 + t.hour) * 60 + t.minute) * 60 + t.second

-- 'Dates, seconds, weekdays': the time s seconds after 2000-01-01T00:00:00
unfoldable pub time_after : ℕ → Time
time_after s =
    let date = date_of_day (s / 86400) in
    record { year = date.year; month = date.month; day = date.day; hour = s / 3600 % 24; minute = s / 60 % 60; second = s % 60 }

-- 'The table of refusals': 8 where a number of seconds since 2000 is 6,311,433,600 or more
unfoldable pub checked_seconds : ℕ → Numbered (Unit {0})
checked_seconds s = if ltb s 6311433600 then accepted tt else refused 8 []

-- 'Dates, seconds, weekdays': the day of the week of a time, Monday 1 to Sunday 7
unfoldable pub weekday_on : Time → ℕ
weekday_on t = weekday_of_day (day_number t.year t.month t.day)
