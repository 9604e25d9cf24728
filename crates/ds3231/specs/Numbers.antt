-- Numbers of document 01. Assumes nothing.
use Rattle.std.specs.Prelude.{ℕ}

-- the nanoseconds of a second
abbrev pub nanos : ℕ
nanos = 1_000_000_000

-- the seconds of a day
abbrev pub day : ℕ
day = 86_400

-- 'Dates, seconds, weekdays': 73,049 days of 86,400 seconds; 'Register bytes': after 2199-12-31 comes 2000-01-01
abbrev pub range : ℕ
range = 6_311_433_600
