-- The years as the code's formula has them, computed at each March year from 1999 to 2199.
-- Assumes nothing.
use Prim.Native.Nat.{ℕ, ◌+◌, ◌-◌, ◌*◌, ◌/◌, ◌%◌, ◌≤◌}
use native.Mathlib.Omega.{arith}
use Rattle.computed.proofs.Claim.{Claim, eq, and, Means, each}
use Rattle.gregorian.specs.Calendar.{divides, leap, months}
use Rattle.gregorian.specs.DayNumbers.{sum, year_length, days_of_years}
use Rattle.gregorian.proofs.Months.{bit}
use Rattle.calendar.proofs.Formula.{start, start_in_era, year_of_era}

-- March year y: the days before the year y + 1; when the next March year starts; where it starts in its era; and that the code finds its era from its last day, and its place in the era from its first day and from its last
abbrev pub year : ℕ → Claim
year y =
    let s = start y in
    let e = start (y + 1) - 1 in
    and (eq (days_of_years (y + 1 - 2000) + 730425) (s + 306))
    (and (eq (start (y + 1)) (s + 365 + bit (leap (y + 1))))
    (and (eq s (y / 400 * 146097 + start_in_era (y % 400)))
    (and (eq (e / 146097) (y / 400))
    (and (eq (year_of_era (s % 146097)) (y % 400))
    (eq (year_of_era (e % 146097)) (y % 400))))))

pub year_is : (y : ℕ) → 1999 ≤ y → y ≤ 2199 → Means (year y)
unfolding leap divides months sum year_length days_of_years start year_of_era
year_is y p q = each year 1999 201 tt y p (omega arith)
