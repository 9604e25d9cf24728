-- `calendar::civil_from_days` meets its contract. What it finds is `Civil`'s; the rest says that no step leaves its type, from bounds on the year, the month and the day.
use Rattle.calendar.proofs.Formula.{year_of_era, day_of_year, month_of, day_of}
use Rattle.calendar.proofs.Civil.{civil}
use Rattle.calendar.proofs.civil_from_days.Goals as goal

pub returns-then-march_month-lt10 : goal.returns-then-march_month-lt10
unfolding year_of_era day_of_year month_of day_of
returns-then-march_month-lt10 c = (civil c.args.days c.requires).late c.if-march_month-lt10.true

pub returns-else-march_month-lt10 : goal.returns-else-march_month-lt10
unfolding year_of_era day_of_year month_of day_of
returns-else-march_month-lt10 c = (civil c.args.days c.requires).early c.if-march_month-lt10.false
