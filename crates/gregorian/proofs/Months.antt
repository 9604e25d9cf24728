-- The months of a leap and of a common year, computed at each of the twelve.
-- Assumes nothing.
use mathlib.Core.Bool.{Bool, true, false}
use mathlib.Core.Logic.{⊎_elim}
use mathlib.Core.Path.{◌≡◌, refl}
use Prim.Native.Nat.{ℕ, ◌+◌, ◌-◌, ◌≤◌, ◌<◌}
use native.Mathlib.Omega.{arith}
use lib.ListN.{get_or, take, length, get_or-eq_default}
use Rattle.std.specs.Prelude.{if◌then◌else◌}
use Rattle.computed.proofs.Claim.{Claim, eq, le, and, Means, each}
use Rattle.computed.proofs.Choice.{le_or_lt}
use Rattle.gregorian.specs.Calendar.{leap, months, month_length}
use Rattle.gregorian.specs.DayNumbers.{sum, days_before_month, year_length}

-- the leap day, as a number of days
abbrev pub bit : Bool → ℕ
bit b = if b then 1 else 0

-- the length of the month m, and the days before it
abbrev pub size : Bool → ℕ → ℕ
size l m = get_or (months l) (m - 1) 31

abbrev pub before : Bool → ℕ → ℕ
before l m = sum (take (m - 1) (months l))

-- the next month starts where a month ends, and a month ends in its year
abbrev step : Bool → ℕ → Claim
step l m = and (eq (before l (m + 1)) (before l m + size l m)) (le (before l m + size l m) (365 + bit l))

steps : (l : Bool) (m : ℕ) → 1 ≤ m → m ≤ 12 → Means (step l m)
unfolding months sum
steps true m p q = each (step true) 1 12 tt m p (omega arith)
steps false m p q = each (step false) 1 12 tt m p (omega arith)

pub month_step : (y m : ℕ) → 1 ≤ m → m ≤ 12 →
    (days_before_month y (m + 1) ≡ days_before_month y m + month_length y m)
    × (days_before_month y m + month_length y m ≤ 365 + bit (leap y))
unfolding days_before_month month_length
month_step y m p q = steps (leap y) m p q

-- a month has 28 to 31 days
abbrev bounds : Bool → ℕ → Claim
bounds l m = and (le 28 (size l m)) (le (size l m) 31)

bounded : (l : Bool) (m : ℕ) → m ≤ 12 → Means (bounds l m)
unfolding months
bounded true m p = each (bounds true) 0 13 tt m (omega arith) (omega arith)
bounded false m p = each (bounds false) 0 13 tt m (omega arith) (omega arith)

twelve : (l : Bool) → length (months l) ≡ 12
unfolding months
twelve l = refl

past : (l : Bool) (m : ℕ) → 12 < m → size l m ≡ 31
past l m h = get_or-eq_default (months l) 31 {n = m - 1} (omega (arith, twelve l))

pub month_bounds : (y m : ℕ) → (28 ≤ month_length y m) × (month_length y m ≤ 31)
unfolding month_length
month_bounds y m = ⊎_elim (λ p. bounded (leap y) m p) (λ p. omega (arith, past (leap y) m p)) (le_or_lt m 12)

-- a year has 365 days, or 366, and December ends it
year : (l : Bool) → (sum (months l) ≡ 365 + bit l) × (before l 12 + 31 ≡ 365 + bit l) × (size l 12 ≡ 31)
unfolding months sum
year true = (refl, refl, refl)
year false = (refl, refl, refl)

pub whole_year : (y : ℕ) → (year_length y ≡ 365 + bit (leap y)) × (days_before_month y 12 + 31 ≡ 365 + bit (leap y)) × (month_length y 12 ≡ 31)
unfolding year_length days_before_month month_length
whole_year y = year (leap y)
