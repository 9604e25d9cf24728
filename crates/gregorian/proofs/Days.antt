-- The days counted one by one, and the sums: `date_of_day n` is a date of the calendar and n is its day number, and every date of the calendar is that of its day number; a date of the years 2000 to 2199 has a number below 73,049.
-- Assumes nothing.
use mathlib.Core.Path.{◌≡◌, refl, sym, ap, ap₂, ◌∙◌}
use mathlib.Core.Logic.{⊎_elim}
use Prim.Native.Nat.{ℕ, zero, suc, ◌+◌, ◌-◌, ◌≤◌, ◌<◌}
use native.Mathlib.Omega.{arith}
use native.Mathlib.Decide.{le_ind}
use lib.Dec.{lit≤}
use Rattle.computed.proofs.Choice.{by_lt, le_or_lt}
use Rattle.gregorian.specs.Calendar.{divides, leap, months, month_length, next_day, date_of_day}
use Rattle.gregorian.specs.DayNumbers.{sum, year_length, days_before_month, days_of_years, day_number}
use Rattle.gregorian.specs.Ranges.{ValidDate}
use Rattle.gregorian.specs.declared.Date.{Date}
use Rattle.gregorian.proofs.Months.{month_step, month_bounds, whole_year}

-- a date of the calendar, from 2000 on
pub record OnCalendar (t : Date) : Type 0 where
  pub year_from : 2000 ≤ t.year
  pub month_from : 1 ≤ t.month
  pub month_to : t.month ≤ 12
  pub day_from : 1 ≤ t.day
  pub day_to : t.day ≤ month_length t.year t.month

abbrev pub number_of : Date → ℕ
number_of t = day_number t.year t.month t.day

next_year : (y : ℕ) → 2000 ≤ y → days_of_years (y + 1 - 2000) ≡ days_of_years (y - 2000) + year_length y
unfolding days_of_years
next_year y h =
    let e : y + 1 - 2000 ≡ suc (y - 2000) = omega arith in
    let f : 2000 + (y - 2000) ≡ y = omega arith in
    ap days_of_years e ∙ ap (λ (k : ℕ). days_of_years (y - 2000) + year_length k) f

january : (y : ℕ) → days_before_month y 1 ≡ 0
unfolding days_before_month sum
january y = refl

-- the day after a date of the calendar is one, and has the next number
abbrev Next : Date → Date → Type 0
Next t u = OnCalendar u × (number_of u ≡ number_of t + 1)

next : (t : Date) → OnCalendar t → Next t (next_day t)
unfolding next_day day_number
next t h =
    by_lt (Next t) t.day (month_length t.year t.month)
    (λ p. (omega arith, omega arith))
    (λ p. by_lt (Next t) t.month 12
    (λ q. (omega (arith, month_bounds t.year (t.month + 1)), omega (arith, month_step t.year t.month h.month_from h.month_to)))
    (λ q.
    let e : t.month ≡ 12 = omega arith in
    let y = whole_year t.year in
    let f : days_before_month t.year t.month ≡ days_before_month t.year 12 = ap (days_before_month t.year) e in
    let g : month_length t.year t.month ≡ month_length t.year 12 = ap (month_length t.year) e in (
      omega (arith, month_bounds (t.year + 1) 1),
      omega (arith, next_year t.year h.year_from, january (t.year + 1)),
    )))

counted : (n : ℕ) → OnCalendar (date_of_day n) × (number_of (date_of_day n) ≡ n)
unfolding date_of_day day_number days_before_month month_length days_of_years months sum
counted zero = (record { year_from = lit≤ tt; month_from = lit≤ tt; month_to = lit≤ tt; day_from = lit≤ tt; day_to = lit≤ tt }, refl)
counted (suc n) =
    let h = counted n in
    let k = next (date_of_day n) h.0 in
    (k.0, omega (arith, k.1, h.1))

pub date_of_day_on : (n : ℕ) → OnCalendar (date_of_day n)
date_of_day_on n = (counted n).0

pub number_date_of_day : (n : ℕ) → number_of (date_of_day n) ≡ n
number_date_of_day n = (counted n).1

-- the 200 years have 73,049 days, and fewer years no more
all_years : days_of_years 200 ≡ 73049
unfolding days_of_years year_length leap divides months sum
all_years = refl

years : (k n : ℕ) → k ≤ n → days_of_years k ≤ days_of_years n
unfolding days_of_years
years k = le_ind (λ n. days_of_years k ≤ days_of_years n) (omega arith) (λ n p h. omega arith)

-- months before one another
months_before : (y m n : ℕ) → 1 ≤ m → m ≤ n → n ≤ 12 → days_before_month y m ≤ days_before_month y n
months_before y m n h =
    le_ind (λ n. n ≤ 12 → days_before_month y m ≤ days_before_month y n) (λ q. omega arith)
    (λ n p f q.
    let e : days_before_month y (n + 1) ≡ days_before_month y (suc n) = ap (days_before_month y) (omega arith) in
    omega (arith, f (omega arith), month_step y n (omega arith) (omega arith))) n

-- of two dates with one number neither has the later year, and in one year neither has the later month
year_not_later : (t u : Date) → OnCalendar t → OnCalendar u → number_of t ≡ number_of u → u.year ≤ t.year
unfolding day_number
year_not_later t u h k e =
    ⊎_elim (λ p. p)
    (λ p. omega (arith, next_year t.year h.year_from, whole_year t.year, month_step t.year t.month h.month_from h.month_to, years (t.year + 1 - 2000) (u.year - 2000) (omega arith)))
    (le_or_lt u.year t.year)

month_not_later : (y : ℕ) (t u : Date) → OnCalendar t → OnCalendar u → t.year ≡ y → u.year ≡ y → number_of t ≡ number_of u → u.month ≤ t.month
unfolding day_number
month_not_later y t u h k a b e =
    let f : days_before_month t.year t.month ≡ days_before_month y t.month = ap (λ (z : ℕ). days_before_month z t.month) a in
    let g : days_before_month u.year u.month ≡ days_before_month y u.month = ap (λ (z : ℕ). days_before_month z u.month) b in
    let l : month_length t.year t.month ≡ month_length y t.month = ap (λ (z : ℕ). month_length z t.month) a in
    let i : days_of_years (t.year - 2000) ≡ days_of_years (u.year - 2000) = ap (λ (z : ℕ). days_of_years (z - 2000)) (a ∙ sym b) in
    ⊎_elim (λ p. p)
    (λ p. omega (arith, month_step y t.month h.month_from h.month_to, months_before y (t.month + 1) u.month (omega arith) (omega arith) k.month_to))
    (le_or_lt u.month t.month)

same_date : (y m d y' m' d' : ℕ) → y ≡ y' → m ≡ m' → d ≡ d' → ◌≡◌ {A = Date} (record { year = y; month = m; day = d }) (record { year = y'; month = m'; day = d' })
same_date y m d y' m' d' p q r = cc

same_number : (t u : Date) → OnCalendar t → OnCalendar u → number_of t ≡ number_of u → t ≡ u
unfolding day_number
same_number t u h k e =
    let y : t.year ≡ u.year = omega (arith, year_not_later t u h k e, year_not_later u t k h (sym e)) in
    let m : t.month ≡ u.month = omega (arith, month_not_later u.year t u h k y refl e, month_not_later u.year u t k h refl y (sym e)) in
    let f : days_of_years (t.year - 2000) + days_before_month t.year t.month ≡ days_of_years (u.year - 2000) + days_before_month u.year u.month =
    ap₂ (λ (a b : ℕ). days_of_years (a - 2000) + days_before_month a b) y m in
    same_date _ _ _ _ _ _ y m (omega arith)

-- the date of the day number of a date of the calendar is that date
pub date_of_day_number : (t : Date) → OnCalendar t → date_of_day (number_of t) ≡ t
date_of_day_number t h = same_number _ t (date_of_day_on (number_of t)) h (number_date_of_day (number_of t))

number_inside : (y m d : ℕ) → day_number y m d < 73049 → y ≤ 2199
unfolding day_number
number_inside y m d h =
    ⊎_elim (λ p. p) (λ p. omega (arith, years 200 (y - 2000) (omega arith), all_years)) (le_or_lt y 2199)

pub number_below : (y m d : ℕ) → ValidDate y m d → day_number y m d < 73049
unfolding day_number
number_below y m d h =
    omega (arith, next_year y h.year_from, whole_year y, month_step y m h.month_from h.month_to, years (y + 1 - 2000) 200 (omega arith), all_years)

-- a date of the years 2000 to 2199 is one of the calendar
pub valid_on : (t : Date) → ValidDate t.year t.month t.day → OnCalendar t
valid_on t h = record { year_from = h.year_from; month_from = h.month_from; month_to = h.month_to; day_from = h.day_from; day_to = h.day_to }

-- the date of a day below 73,049 is one of the years 2000 to 2199
pub date_of_day_valid : (n : ℕ) → n < 73049 → ValidDate (date_of_day n).year (date_of_day n).month (date_of_day n).day
date_of_day_valid n h =
    let t = date_of_day n in
    let o = date_of_day_on n in
    record {
      year_from = o.year_from;
      year_to = number_inside t.year t.month t.day (omega (arith, number_date_of_day n));
      month_from = o.month_from;
      month_to = o.month_to;
      day_from = o.day_from;
      day_to = o.day_to;
    }
