-- The day of the nearest time.
-- Assumes nothing.
use mathlib.Core.Path.{◌≡◌}
use Prim.Native.Nat.{◌/◌}
use Rattle.calendar.specs.Stated.{seconds_of, day_number, nearest}
use Rattle.calendar.specs.declared.DateTime.{DateTime}
use Rattle.calendar.proofs.Laws.{seconds_day, nearest_in_range}
use Rattle.ds3231.specs.Numbers.{day}

pub nearest_day : (t : DateTime) → seconds_of (nearest t) / day ≡ day_number (nearest t).year (nearest t).month (nearest t).day
nearest_day t = seconds_day (nearest t) (nearest_in_range t)
