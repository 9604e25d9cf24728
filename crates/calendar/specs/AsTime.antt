-- A `DateTime` of the source and the calendar's time, field by field. Assumes nothing.
use Rattle.std.specs.Prelude.{ℕ}
use Rattle.gregorian.specs.Times.{Time}
use Rattle.calendar.specs.declared.DateTime.{DateTime}

-- a `DateTime` as the calendar's time, and back
abbrev pub as_time : DateTime → Time
as_time t = record { year = t.year; month = t.month; day = t.day; hour = t.hour; minute = t.minute; second = t.second }

abbrev pub as_date_time : Time → DateTime
as_date_time t = record { year = t.year; month = t.month; day = t.day; hour = t.hour; minute = t.minute; second = t.second }

-- the `DateTime` of six numbers
abbrev pub date_time : ℕ → ℕ → ℕ → ℕ → ℕ → ℕ → DateTime
date_time year month day hour minute second = record { year = year; month = month; day = day; hour = hour; minute = minute; second = second }

-- a time with another day
abbrev pub with_day : ℕ → DateTime → DateTime
with_day d t = record { year = t.year; month = t.month; day = d; hour = t.hour; minute = t.minute; second = t.second }
