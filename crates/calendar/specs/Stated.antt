-- Need not be believed: nothing is defined here. What the crates above may name of the calendar. They can open none of it but the abbreviations `date_time`, `with_day` and `InRange`: the others are shut, or of a crate that they do not list.
pub use Rattle.gregorian.specs.Calendar.{leap, month_length, next_weekday}
pub use Rattle.gregorian.specs.DayNumbers.{day_number}
pub use Rattle.gregorian.specs.Times.{checked_seconds}
pub use Rattle.calendar.specs.AsTime.{date_time, with_day}
pub use Rattle.calendar.specs.Dates.{InRange, checked, seconds_of, time_of, weekday_of, nearest}
