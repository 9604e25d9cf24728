-- Need not be believed: `valid_accepted` and `accepted_valid` (proofs/Checked.antt): a time is `Valid` exactly where `checked_time` (specs/Times.antt) accepts it. Assumes nothing.
use Rattle.std.specs.Prelude.{ℕ, ◌≤◌}
use Rattle.gregorian.specs.Calendar.{month_length}
use Rattle.gregorian.specs.Times.{Time}

-- a date of the years 2000 to 2199
pub record ValidDate (y m d : ℕ) : Type 0 where
  pub year_from : 2000 ≤ y
  pub year_to : y ≤ 2199
  pub month_from : 1 ≤ m
  pub month_to : m ≤ 12
  pub day_from : 1 ≤ d
  pub day_to : d ≤ month_length y m

-- a time whose every field is in its range
pub record Valid (t : Time) : Type 0 where
  pub date : ValidDate t.year t.month t.day
  pub hour_to : t.hour ≤ 23
  pub minute_to : t.minute ≤ 59
  pub second_to : t.second ≤ 59
