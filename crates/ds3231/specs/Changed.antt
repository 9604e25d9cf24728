-- Need not be believed: the chip's own side of what the model says too. `date_same`, `weekday_same`, `mode_same` and, for the weekdays 1 to 7, `offset_same` of proofs/Follows.antt and `next_moved` of proofs/Map.antt equate each with the model's. Assumes nothing.
use Rattle.computed.specs.Prelude.{ℕ, Bool, leb, eqb}
use Rattle.std.specs.Prelude.{◌+◌, ◌-◌, ◌%◌, if◌then◌else◌}
use Rattle.calendar.specs.declared.DateTime.{DateTime}
use Rattle.fields.specs.Table.{Meaning, undefined, sets}
use Rattle.ds3231.specs.Types.{Register, Seconds, Minutes, Hours, Weekday, Date, Month, Year, Alarm1Seconds, Alarm1Minutes, Alarm1Hours, Alarm1Day, Alarm2Minutes, Alarm2Hours, Alarm2Day, Control, Status, Aging, TemperatureMsb, TemperatureLsb}

-- the time: a month byte also sets the century, a year byte keeps it
abbrev pub changed_time : Meaning → DateTime → DateTime
changed_time undefined t = t
changed_time (sets r n flag) t = record {
  year =
      if eqb r 5 then 2000 + (if flag then 100 else 0) + t.year % 100
      else if eqb r 6 then 2000 + (if leb 2100 t.year then 100 else 0) + n
      else t.year;
  month = if eqb r 5 then n else t.month;
  day = if eqb r 4 then n else t.day;
  hour = if eqb r 2 then n else t.hour;
  minute = if eqb r 1 then n else t.minute;
  second = if eqb r 0 then n else t.second;
}

-- the weekday, and the hour mode
abbrev pub changed_weekday : Meaning → ℕ → ℕ
changed_weekday undefined w = w
changed_weekday (sets r n flag) w = if eqb r 3 then n else w

abbrev pub changed_mode : Meaning → Bool → Bool
changed_mode undefined twelve = twelve
changed_mode (sets r n flag) twelve = if eqb r 2 then flag else twelve

-- the offset, 0 to 6, with which the day number has the weekday: modulo 7, the weekday less 1 is the weekday plus 6
unfoldable pub offset_for : ℕ → ℕ → ℕ
offset_for weekday days = (weekday + 6 + 7 - days % 7) % 7

-- the pointer goes up by one, from 0x12 to 0
abbrev pub next_pointer : Register → Register
next_pointer Seconds = Minutes
next_pointer Minutes = Hours
next_pointer Hours = Weekday
next_pointer Weekday = Date
next_pointer Date = Month
next_pointer Month = Year
next_pointer Year = Alarm1Seconds
next_pointer Alarm1Seconds = Alarm1Minutes
next_pointer Alarm1Minutes = Alarm1Hours
next_pointer Alarm1Hours = Alarm1Day
next_pointer Alarm1Day = Alarm2Minutes
next_pointer Alarm2Minutes = Alarm2Hours
next_pointer Alarm2Hours = Alarm2Day
next_pointer Alarm2Day = Control
next_pointer Control = Status
next_pointer Status = Aging
next_pointer Aging = TemperatureMsb
next_pointer TemperatureMsb = TemperatureLsb
next_pointer TemperatureLsb = Seconds
