-- `calendar::DateTime::seconds_of_valid` meets its contract: a valid time has a day below 73,049, so no sum leaves its type.
use native.Mathlib.Omega.{arith}
use Rattle.gregorian.specs.Times.{seconds_to}
use Rattle.gregorian.proofs.Days.{number_below}
use Rattle.calendar.specs.Dates.{equations}
use Rattle.calendar.proofs.DateTime.seconds_of_valid.Goals as goal

pub overflow_mul-result : goal.overflow_mul-result
overflow_mul-result c = omega (arith, c.days_since_2000.ensures, number_below _ _ _ c.requires.date)

pub overflow_add-result : goal.overflow_add-result
overflow_add-result c = omega (arith, c.days_since_2000.ensures, number_below _ _ _ c.requires.date)

pub overflow_add-result-2 : goal.overflow_add-result-2
overflow_add-result-2 c = omega (arith, c.days_since_2000.ensures, number_below _ _ _ c.requires.date)

pub overflow_add-result-3 : goal.overflow_add-result-3
overflow_add-result-3 c = omega (arith, c.days_since_2000.ensures, number_below _ _ _ c.requires.date)

pub returns : goal.returns
unfolding seconds_to
returns c = omega (arith, c.days_since_2000.ensures, equations.seconds_of_is c.args.self)
