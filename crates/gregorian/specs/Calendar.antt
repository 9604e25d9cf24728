-- The Gregorian calendar from 2000-01-01 on: the leap rule, the lengths of the months, and the days counted one by one. A date is the struct `Date` of the source. Assumes nothing.
use Rattle.computed.specs.Prelude.{ℕ, zero, suc, Bool, not, List, [], ltb, eqb, get_or}
use Rattle.std.specs.Prelude.{◌+◌, ◌-◌, ◌%◌, ◌&&◌, ◌||◌, ◌∷◌, if◌then◌else◌}
use Rattle.gregorian.specs.declared.Date.{Date}

-- k divides n
unfoldable pub divides : ℕ → ℕ → Bool
divides k n = eqb (n % k) 0

-- 'Dates, seconds, weekdays': a year is leap if it is divisible by 4, and not by 100 unless by 400
unfoldable pub leap : ℕ → Bool
leap y = divides 4 y && (not (divides 100 y) || divides 400 y)

-- the lengths of the twelve months, of a leap year or of a common one
unfoldable pub months : Bool → List ℕ
months isLeap = 31 ∷ (if isLeap then 29 else 28) ∷ 31 ∷ 30 ∷ 31 ∷ 30 ∷ 31 ∷ 31 ∷ 30 ∷ 31 ∷ 30 ∷ 31 ∷ []

-- the length of month m, 1 to 12, of year y. A month 0 counts as January, one above 12 as a month of 31 days.
unfoldable pub month_length : ℕ → ℕ → ℕ
month_length y m = get_or (months (leap y)) (m - 1) 31

-- the day after a date
unfoldable pub next_day : Date → Date
next_day t =
    if ltb t.day (month_length t.year t.month) then record { year = t.year; month = t.month; day = t.day + 1 }
    else if ltb t.month 12 then record { year = t.year; month = t.month + 1; day = 1 }
    else record { year = t.year + 1; month = 1; day = 1 }

-- the date n days after 2000-01-01
unfoldable pub date_of_day : ℕ → Date
date_of_day zero = record { year = 2000; month = 1; day = 1 }
date_of_day (suc n) = next_day (date_of_day n)

-- 'Dates, seconds, weekdays': the day of the week after w, Monday 1 to Sunday 7
unfoldable pub next_weekday : ℕ → ℕ
next_weekday w = if ltb w 7 then w + 1 else 1

-- 'Dates, seconds, weekdays': the day of the week n days after 2000-01-01, which is 6
unfoldable pub weekday_of_day : ℕ → ℕ
weekday_of_day zero = 6
weekday_of_day (suc n) = next_weekday (weekday_of_day n)
