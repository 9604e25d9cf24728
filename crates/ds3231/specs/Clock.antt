-- The running clock: the time, the weekday and the second that it shows at an instant, and how it is set. Assumes nothing.
use Rattle.computed.specs.Prelude.{ℕ, zero, suc}
use Rattle.std.specs.Prelude.{◌+◌, ◌-◌, ◌/◌, ◌%◌}
use Rattle.calendar.specs.Stated.{time_of, seconds_of, day_number, next_weekday}
use Rattle.calendar.specs.declared.DateTime.{DateTime}
use Rattle.ds3231.specs.Numbers.{nanos, range, day}
use Rattle.ds3231.specs.Changed.{offset_for}
use Rattle.ds3231.specs.Types.{Clock}

-- 'Acknowledgements': the whole seconds since the base; instants may fall, and elapsed time then counts as 0
abbrev pub elapsed : Clock → ℕ → ℕ
elapsed k t = (t - k.base_at) / nanos

-- the seconds since 2000 that the clock shows
abbrev pub seconds_at : Clock → ℕ → ℕ
seconds_at k t = (k.base_seconds + elapsed k t) % range

-- the time that it shows: the conversion of its seconds to a date is never refused (`conversion_never_refused` of proofs/NeverRefused.antt)
abbrev pub time_at : Clock → ℕ → DateTime
time_at k t = time_of (seconds_at k t)

-- Order 7 of document 02: the weekday is a counter that steps at midnight. The weekday w, stepped so many times; after 7 comes 1
unfoldable pub stepped : (times w : ℕ) → ℕ
stepped zero w = w
stepped (suc n) w = next_weekday (stepped n w)

-- the midnights that have passed since it was last set, at the base: the second of the day then, and the seconds since
abbrev pub midnights : Clock → ℕ → ℕ
midnights k t = (k.base_seconds % day + elapsed k t) / day

-- the weekday that it was set to (`set_shows` of proofs/Midnights.antt). It is kept as an offset; 'Register bytes': (days since 2000 + offset) mod 7 + 1
abbrev pub weekday_set : Clock → ℕ
weekday_set k = (k.base_seconds / day + k.weekday_offset) % 7 + 1

-- Order 7 of document 02: it counts midnights since it was last set, over the end of 2199 too
abbrev pub weekday_at : Clock → ℕ → ℕ
weekday_at k t = stepped (midnights k t) (weekday_set k)

-- the instant at which the second running at t began: t itself below the base
abbrev pub second_start : Clock → ℕ → ℕ
second_start k t = t - (t - k.base_at) % nanos

-- the clock set to a time with a weekday, a second beginning at t
abbrev pub clock_set : DateTime → ℕ → ℕ → Clock
clock_set d weekday t = record {
  base_seconds = seconds_of d;
  base_at = t;
  weekday_offset = offset_for weekday (day_number d.year d.month d.day);
}
