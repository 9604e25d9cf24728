-- What the code of `civil_from_days` finds at day n is the date n days after 2000-01-01.
-- Assumes nothing.
use mathlib.Core.Logic.{⊎_elim}
use mathlib.Core.Path.{◌≡◌, sym, ap, ◌∙◌}
use Prim.Native.Nat.{ℕ, ◌+◌, ◌-◌, ◌*◌, ◌/◌, ◌%◌, ◌≤◌, ◌<◌}
use native.Mathlib.Omega.{arith}
use Rattle.gregorian.specs.Calendar.{leap, date_of_day}
use Rattle.gregorian.specs.Ranges.{ValidDate}
use Rattle.gregorian.specs.declared.Date.{Date}
use Rattle.computed.proofs.Choice.{le_or_lt}
use Rattle.gregorian.proofs.Months.{bit, month_bounds}
use Rattle.gregorian.proofs.Days.{number_of, number_date_of_day, date_of_day_valid}
use Rattle.calendar.specs.Formula.{march_month}
use Rattle.calendar.proofs.Formula.{start_in_era, year_of_era, day_of_year, month_of, day_of}
use Rattle.calendar.proofs.Months.{early_month, late_month}
use Rattle.calendar.proofs.Hinnant.{early_number, late_number, Found, found}

-- the date that the code makes of the day x, counted from 0000-03-01
abbrev late_date : ℕ → Date
late_date x = record { year = year_of_era (x % 146097) + x / 146097 * 400; month = month_of x + 3; day = day_of x }

abbrev early_date : ℕ → Date
early_date x = record { year = year_of_era (x % 146097) + x / 146097 * 400 + 1; month = month_of x - 9; day = day_of x }

-- what the code's proof needs at the day x, whose date is t
pub record Civil (x : ℕ) (t : Date) : Type 0 where
  pub within : start_in_era (year_of_era (x % 146097)) ≤ x % 146097
  pub month_in : march_month (month_of x) ≤ day_of_year x
  pub year_small : year_of_era (x % 146097) + x / 146097 * 400 ≤ 2199
  pub month_small : month_of x ≤ 11
  pub day_small : day_of x ≤ 31
  pub late : month_of x < 10 → late_date x ≡ t
  pub early : 10 ≤ month_of x → early_date x ≡ t

same_date : (y m d y' m' d' : ℕ) → y ≡ y' → m ≡ m' → d ≡ d' → ◌≡◌ {A = Date} (record { year = y; month = m; day = d }) (record { year = y'; month = m'; day = d' })
same_date y m d y' m' d' p q r = cc

year_back : (y c e : ℕ) → c ≡ y / 400 → e ≡ y % 400 → e + c * 400 ≡ y
year_back y c e p q = omega arith

of_early : (x : ℕ) (t : Date) → ValidDate t.year t.month t.day → t.month ≤ 2 → x ≡ number_of t + 730425 → Civil x t
of_early x t h b e =
    let y = t.year in
    let m = t.month in
    let d = t.day in
    let n = early_month y m h.month_from b in
    let k = month_bounds y m in
    let l : bit (leap (y - 1 + 1)) ≡ bit (leap y) = ap (λ (z : ℕ). bit (leap z)) (omega arith) in
    let f : Found x (y - 1) (m + 9) d =
    found x (y - 1) (m + 9) d (omega arith) (omega arith) h.day_from (omega arith) (omega arith)
    (e ∙ early_number y m d h.year_from h.year_to h.month_from b h.day_from) in
    let g = year_back (y - 1) (x / 146097) (year_of_era (x % 146097)) f.era f.year in
    record {
      within = f.within;
      month_in = f.month_in;
      year_small = omega arith;
      month_small = omega (arith, f.month);
      day_small = omega (arith, f.day);
      late = λ p. absurd (omega (arith, f.month));
      early = λ p. same_date _ _ _ _ _ _ (omega arith) (omega (arith, f.month)) f.day;
    }

of_late : (x : ℕ) (t : Date) → ValidDate t.year t.month t.day → 3 ≤ t.month → x ≡ number_of t + 730425 → Civil x t
of_late x t h b e =
    let y = t.year in
    let m = t.month in
    let d = t.day in
    let n = late_month y m b h.month_to in
    let k = month_bounds y m in
    let f : Found x y (m - 3) d =
    found x y (m - 3) d (omega arith) (omega arith) h.day_from (omega arith) (omega arith)
    (e ∙ late_number y m d h.year_from h.year_to b h.month_to h.day_from) in
    let g = year_back y (x / 146097) (year_of_era (x % 146097)) f.era f.year in
    record {
      within = f.within;
      month_in = f.month_in;
      year_small = omega arith;
      month_small = omega (arith, f.month);
      day_small = omega (arith, f.day);
      late = λ p. same_date _ _ _ _ _ _ g (omega (arith, f.month)) f.day;
      early = λ p. absurd (omega (arith, f.month));
    }

-- of a date in the range
civil_of : (x : ℕ) (t : Date) → ValidDate t.year t.month t.day → x ≡ number_of t + 730425 → Civil x t
civil_of x t h e = ⊎_elim (λ p. of_early x t h p e) (λ p. of_late x t h p e) (le_or_lt t.month 2)

-- of a day in the range
pub civil : (n : ℕ) → n < 73049 → Civil (n + 730425) (date_of_day n)
civil n h = civil_of (n + 730425) (date_of_day n) (date_of_day_valid n h) (ap (λ (z : ℕ). z + 730425) (sym (number_date_of_day n)))
