-- `calendar::is_leap` meets its contract, test by test.
use Rattle.std.proofs.Common.{rules}
use Rattle.gregorian.specs.Calendar.{divides, leap}
use Rattle.calendar.proofs.is_leap.Goals as goal

pub returns-then-year-ne0 : goal.returns-then-year-ne0
unfolding leap divides
returns-then-year-ne0 c = search rules

pub returns-else-year-ne0 : goal.returns-else-year-ne0
unfolding leap divides
returns-else-year-ne0 c = search rules

pub returns-else-year-eq0 : goal.returns-else-year-eq0
unfolding leap divides
returns-else-year-eq0 c = search rules
