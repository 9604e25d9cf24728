-- `calendar::is_past_month` meets its contract: no month ends before its 28th.
use native.Mathlib.Omega.{arith}
use mathlib.Core.Path.{sym, ◌∙◌}
use borrow.Author.Tests.{le-ltb}
use Rattle.gregorian.specs.Calendar.{month_length}
use Rattle.gregorian.proofs.Months.{month_bounds}
use Rattle.calendar.proofs.is_past_month.Goals as goal

pub returns-else-day-gt28 : goal.returns-else-day-gt28
returns-else-day-gt28 c =
    le-ltb 28 c.args.day (omega arith)
    ∙ sym (le-ltb (month_length c.args.year c.args.month) c.args.day (omega (arith, month_bounds c.args.year c.args.month)))
