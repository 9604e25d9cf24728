-- `clock::weekday` meets its contract: stepping at each midnight is adding the days.
use native.Mathlib.Omega.{arith}
use Rattle.ds3231.proofs.Weekdays.{counted_on}
use Rattle.ds3231_registers.proofs.clock.weekday.Goals as goal

pub returns : goal.returns
returns c = omega (arith, c.weekday_of_day.ensures, c.midnights.ensures, counted_on c.args.clock c.args.at)
