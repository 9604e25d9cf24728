-- `clock::set` meets its contract: the day number is the seconds of the nearest time over 86,400.
use Rattle.ds3231_registers.proofs.ClockLaws.{nearest_day}
use Rattle.ds3231_registers.proofs.clock.set.Goals as goal

pub returns : goal.returns
returns c = rw (c.offset_for.ensures, c.nearest_seconds-seconds.ensures, nearest_day)
