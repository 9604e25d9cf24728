-- The calendar's laws, by which the crates above go. None of them asks to open a definition.
-- Assumes nothing.
use mathlib.Core.List.{[]}
use mathlib.Core.Path.{◌≡◌, sym, ap, subst, ◌∙◌}
use Prim.Native.Nat.{ℕ, ◌+◌, ◌*◌, ◌/◌, ◌%◌, ◌≤◌, ◌<◌}
use Rattle.refusals.specs.Numbered.{accepted, refused}
use Rattle.gregorian.specs.Calendar.{month_length, next_weekday}
use Rattle.gregorian.specs.DayNumbers.{day_number}
use Rattle.gregorian.specs.Times.{Time, checked_seconds, seconds_to, weekday_on}
use Rattle.gregorian.proofs.Months as Months
use Rattle.gregorian.proofs.Weekdays.{next_weekday_lem, weekday_of_day_lem}
use Rattle.gregorian.proofs.Checked.{valid_accepted, accepted_valid}
use Rattle.gregorian.proofs.Seconds as Seconds
use Rattle.gregorian.proofs.Nearest as Nearest
use Rattle.calendar.specs.declared.DateTime.{DateTime}
use Rattle.calendar.specs.AsTime.{as_time, as_date_time, with_day}
use Rattle.calendar.specs.Dates.{InRange, checked, seconds_of, time_of, weekday_of, nearest, equations}

-- the check of a time accepts the times in range and no others
pub in_range_accepted : (t : DateTime) → InRange t → checked t ≡ accepted tt
in_range_accepted t v = equations.checked_is t ∙ valid_accepted (as_time t) v

pub accepted_in_range : (t : DateTime) → checked t ≡ accepted tt → InRange t
accepted_in_range t e = accepted_valid (as_time t) (sym (equations.checked_is t) ∙ e)

-- the check of a number of seconds accepts those below 6,311,433,600 and no others
pub seconds_accepted : (s : ℕ) → s < 6311433600 → checked_seconds s ≡ accepted tt
seconds_accepted = Seconds.seconds_accepted

pub seconds_refused : (s : ℕ) → 6311433600 ≤ s → checked_seconds s ≡ refused 8 []
seconds_refused = Seconds.seconds_refused

-- seconds to time to seconds
pub seconds_of_time : (s : ℕ) → seconds_of (time_of s) ≡ s
seconds_of_time s = equations.seconds_of_is (time_of s) ∙ ap (λ (t : DateTime). seconds_to (as_time t)) (equations.time_of_is s) ∙ Seconds.seconds_of_time s

-- time to seconds to time
pub time_of_seconds : (t : DateTime) → InRange t → time_of (seconds_of t) ≡ t
time_of_seconds t v = ap time_of (equations.seconds_of_is t) ∙ equations.time_of_is _ ∙ ap as_date_time (Seconds.time_of_seconds (as_time t) v)

-- the time of a second in range is in range, and so are the seconds of such a time
pub time_in_range : (s : ℕ) → s < 6311433600 → InRange (time_of s)
time_in_range s h = subst InRange (sym (equations.time_of_is s)) (Seconds.time_valid s h)

pub seconds_below : (t : DateTime) → InRange t → seconds_of t < 6311433600
seconds_below t v = rw equations.seconds_of_is (Seconds.seconds_below (as_time t) v)

-- the seconds of a time are those of its days, hours and minutes, and its own
pub seconds_formula : (t : DateTime) → seconds_of t ≡ day_number t.year t.month t.day * 86400 + t.hour * 3600 + t.minute * 60 + t.second
seconds_formula t = equations.seconds_of_is t ∙ Seconds.seconds_formula (as_time t)

-- the day number is the seconds over 86,400
pub seconds_day : (t : DateTime) → InRange t → seconds_of t / 86400 ≡ day_number t.year t.month t.day
seconds_day t v = rw equations.seconds_of_is (Seconds.seconds_day (as_time t) v)

-- the weekday by a formula
weekday_on_lem : (t : Time) → weekday_on t ≡ (day_number t.year t.month t.day + 5) % 7 + 1
unfolding weekday_on
weekday_on_lem t = weekday_of_day_lem _

pub weekday_formula : (t : DateTime) → weekday_of t ≡ (day_number t.year t.month t.day + 5) % 7 + 1
weekday_formula t = equations.weekday_of_is t ∙ weekday_on_lem (as_time t)

-- the day of the week after w
pub next_weekday_formula : (w : ℕ) → 1 ≤ w → w ≤ 7 → next_weekday w ≡ w % 7 + 1
next_weekday_formula = next_weekday_lem

-- the nearest time is in range, and a time in range is its own
pub nearest_in_range : (t : DateTime) → InRange (nearest t)
nearest_in_range t = subst InRange (sym (equations.nearest_is t)) (Nearest.nearest_valid (as_time t))

pub nearest_same : (t : DateTime) → InRange t → nearest t ≡ t
nearest_same t v = equations.nearest_is t ∙ ap as_date_time (Nearest.nearest_same (as_time t) v)

-- where all but the day is in range and the day is past the month's end, the nearest has the month's last day
pub nearest_past : (t : DateTime) → InRange (with_day 1 t) → month_length t.year t.month < t.day →
    nearest t ≡ with_day (month_length t.year t.month) t
nearest_past t v h = equations.nearest_is t ∙ ap as_date_time (Nearest.nearest_past (as_time t) v h)

-- a month has 28 to 31 days
pub month_bounds : (y m : ℕ) → (28 ≤ month_length y m) × (month_length y m ≤ 31)
month_bounds = Months.month_bounds
