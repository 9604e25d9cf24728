-- Need not be believed: `date_of_day_number` and `number_date_of_day` (proofs/Days.antt): `day_number` of a date is the n for which `date_of_day n` is that date. Assumes nothing.
use Rattle.computed.specs.Prelude.{ℕ, zero, suc, List, [], take}
use Rattle.std.specs.Prelude.{◌+◌, ◌-◌, ◌∷◌}
use Rattle.gregorian.specs.Calendar.{leap, months}

-- the sum of a list
unfoldable pub sum : List ℕ → ℕ
sum [] = 0
sum (n ∷ ns) = n + sum ns

-- the days of year y
unfoldable pub year_length : ℕ → ℕ
year_length y = sum (months (leap y))

-- the days of year y before its month m
unfoldable pub days_before_month : ℕ → ℕ → ℕ
days_before_month y m = sum (take (m - 1) (months (leap y)))

-- the days of the first k years from 2000 on
unfoldable pub days_of_years : ℕ → ℕ
days_of_years zero = 0
days_of_years (suc k) = days_of_years k + year_length (2000 + k)

-- the days from 2000-01-01 to a date: those of the years, the months and the days before it
unfoldable pub day_number : ℕ → ℕ → ℕ → ℕ
day_number y m d = days_of_years (y - 2000) + days_before_month y m + (d - 1)
