-- The seconds of a time, and the time of a number of seconds.
-- Assumes nothing.
use mathlib.Core.Path.{◌≡◌, ap, ◌∙◌}
use Prim.Native.Nat.{ℕ, ◌+◌, ◌*◌, ◌/◌, ◌%◌, ◌≤◌, ◌<◌}
use native.Mathlib.Omega.{arith}
use borrow.Author.Tests.{lt-ltb, le-ltb}
use mathlib.Core.List.{[]}
use Rattle.refusals.specs.Numbered.{accepted, refused}
use Rattle.gregorian.specs.Calendar.{date_of_day}
use Rattle.gregorian.specs.DayNumbers.{day_number}
use Rattle.gregorian.specs.Times.{Time, checked_seconds, seconds_to, time_after}
use Rattle.gregorian.specs.Ranges.{Valid}
use Rattle.gregorian.specs.declared.Date.{Date}
use Rattle.gregorian.proofs.Days.{number_of, number_date_of_day, date_of_day_number, number_below, valid_on, date_of_day_valid}

pub seconds_below : (t : Time) → Valid t → seconds_to t < 6311433600
unfolding seconds_to
seconds_below t v = omega (arith, number_below t.year t.month t.day v.date)

pub seconds_of_time : (s : ℕ) → seconds_to (time_after s) ≡ s
unfolding seconds_to time_after
seconds_of_time s = omega (arith, number_date_of_day (s / 86400))

pub time_valid : (s : ℕ) → s < 6311433600 → Valid (time_after s)
unfolding time_after
time_valid s h = record { date = date_of_day_valid (s / 86400) (omega arith); hour_to = omega arith; minute_to = omega arith; second_to = omega arith }

-- the parts of a number of seconds
pub parts : (n h m s : ℕ) → h ≤ 23 → m ≤ 59 → s ≤ 59 →
    let x = ((n * 24 + h) * 60 + m) * 60 + s in
    (x / 86400 ≡ n) × (x / 3600 % 24 ≡ h) × (x / 60 % 60 ≡ m) × (x % 60 ≡ s)
parts n h m s p q r = omega arith

same_time : (d e : Date) (h m s h' m' s' : ℕ) → d ≡ e → h ≡ h' → m ≡ m' → s ≡ s' →
    ◌≡◌ {A = Time} (record { year = d.year; month = d.month; day = d.day; hour = h; minute = m; second = s })
    (record { year = e.year; month = e.month; day = e.day; hour = h'; minute = m'; second = s' })
same_time d e h m s h' m' s' p q r t = cc

pub time_of_seconds : (t : Time) → Valid t → time_after (seconds_to t) ≡ t
unfolding seconds_to time_after
time_of_seconds t v =
    let d : Date = record { year = t.year; month = t.month; day = t.day } in
    let p = parts (number_of d) t.hour t.minute t.second v.hour_to v.minute_to v.second_to in
    same_time _ d _ _ _ t.hour t.minute t.second (ap date_of_day p.0 ∙ date_of_day_number d (valid_on d v.date)) p.1 p.2 p.3

pub seconds_day : (t : Time) → Valid t → seconds_to t / 86400 ≡ day_number t.year t.month t.day
unfolding seconds_to
seconds_day t v = (parts (day_number t.year t.month t.day) t.hour t.minute t.second v.hour_to v.minute_to v.second_to).0

pub seconds_formula : (t : Time) → seconds_to t ≡ day_number t.year t.month t.day * 86400 + t.hour * 3600 + t.minute * 60 + t.second
unfolding seconds_to
seconds_formula t = omega arith

pub seconds_accepted : (s : ℕ) → s < 6311433600 → checked_seconds s ≡ accepted tt
unfolding checked_seconds
seconds_accepted s h = rw (lt-ltb s 6311433600 h)

pub seconds_refused : (s : ℕ) → 6311433600 ≤ s → checked_seconds s ≡ refused 8 []
unfolding checked_seconds
seconds_refused s h = rw (le-ltb s 6311433600 h)
