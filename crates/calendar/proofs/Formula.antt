-- The parts that the code of `civil_from_days` finds of a day, shut so that `omega` takes them for unknowns.
-- Assumes nothing.
use Prim.Native.Nat.{ℕ, ◌+◌, ◌-◌, ◌*◌, ◌/◌, ◌%◌}
use Rattle.calendar.specs.Formula.{march_year, march_month}

unfoldable pub start : ℕ → ℕ
start y = march_year y

-- the days of an era of 400 years before its year y
abbrev pub start_in_era : ℕ → ℕ
start_in_era y = 365 * y + y / 4 - y / 100

-- the year of the era that has the era's day d
unfoldable pub year_of_era : ℕ → ℕ
year_of_era d = (d - d / 1460 + d / 36524 - d / 146096) / 365

-- the parts of the day x, counted from 0000-03-01
unfoldable pub day_of_year : ℕ → ℕ
day_of_year x = x % 146097 - start_in_era (year_of_era (x % 146097))

unfoldable pub month_of : ℕ → ℕ
month_of x = (5 * day_of_year x + 2) / 153

unfoldable pub day_of : ℕ → ℕ
day_of x = day_of_year x - march_month (month_of x) + 1
