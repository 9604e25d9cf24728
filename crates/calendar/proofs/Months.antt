-- The months as the code's formula has them, computed in a leap and a common year: January and February end the March year before, the other ten start theirs.
-- Assumes nothing.
use mathlib.Core.Bool.{Bool, true, false}
use mathlib.Core.Path.{◌≡◌}
use Prim.Native.Nat.{ℕ, ◌+◌, ◌-◌, ◌≤◌}
use native.Mathlib.Omega.{arith}
use Rattle.computed.proofs.Claim.{Claim, eq, le, and, Means, each}
use Rattle.gregorian.specs.Calendar.{leap, months, month_length}
use Rattle.gregorian.specs.DayNumbers.{sum, days_before_month}
use Rattle.gregorian.proofs.Months.{bit, size, before}
use Rattle.calendar.specs.Formula.{march_month}

-- January and February: the start that the code's formula gives, and that the code's month, and its year, are long enough
abbrev early : Bool → ℕ → Claim
early l m =
    and (eq (before l m + 306) (march_month (m + 9)))
    (and (le (march_month (m + 9) + size l m) (march_month (m + 9 + 1))) (le (march_month (m + 9) + size l m) (365 + bit l)))

-- the same of the other ten
abbrev late : Bool → ℕ → Claim
late l m =
    and (eq (before l m) (59 + bit l + march_month (m - 3)))
    (and (le (march_month (m - 3) + size l m) (march_month (m - 3 + 1))) (le (march_month (m - 3) + size l m) 306))

early_is : (l : Bool) (m : ℕ) → 1 ≤ m → m ≤ 2 → Means (early l m)
unfolding months sum
early_is true m p q = each (early true) 1 2 tt m p (omega arith)
early_is false m p q = each (early false) 1 2 tt m p (omega arith)

late_is : (l : Bool) (m : ℕ) → 3 ≤ m → m ≤ 12 → Means (late l m)
unfolding months sum
late_is true m p q = each (late true) 3 10 tt m p (omega arith)
late_is false m p q = each (late false) 3 10 tt m p (omega arith)

module _ (y m : ℕ) where
  pub early_month : 1 ≤ m → m ≤ 2 →
      (days_before_month y m + 306 ≡ march_month (m + 9))
      × ((march_month (m + 9) + month_length y m ≤ march_month (m + 9 + 1)) × (march_month (m + 9) + month_length y m ≤ 365 + bit (leap y)))
  unfolding days_before_month month_length
  early_month p q = early_is (leap y) m p q

  pub late_month : 3 ≤ m → m ≤ 12 →
      (days_before_month y m ≡ 59 + bit (leap y) + march_month (m - 3))
      × ((march_month (m - 3) + month_length y m ≤ march_month (m - 3 + 1)) × (march_month (m - 3) + month_length y m ≤ 306))
  unfolding days_before_month month_length
  late_month p q = late_is (leap y) m p q
