-- The code's formulas give the calendar's numbers, and find the parts of a date again.
-- Assumes nothing.
use mathlib.Core.Logic.{◌⊎◌, inl, inr}
use mathlib.Core.Path.{◌≡◌, ap, ◌∙◌}
use Prim.Native.Nat.{ℕ, ◌+◌, ◌-◌, ◌*◌, ◌/◌, ◌%◌, ◌≤◌, ◌<◌}
use native.Mathlib.Omega.{arith}
use Rattle.gregorian.specs.Calendar.{leap}
use Rattle.gregorian.specs.DayNumbers.{days_of_years, day_number}
use Rattle.gregorian.specs.Ranges.{ValidDate}
use Rattle.gregorian.proofs.Months.{bit}
use Rattle.calendar.specs.Formula.{march_month}
use Rattle.calendar.proofs.Formula.{start, start_in_era, year_of_era, day_of_year, month_of, day_of}
use Rattle.calendar.proofs.Months.{early_month, late_month}
use Rattle.calendar.proofs.Years.{year_is}

-- the day number of a date of January or February, which belong to the March year before, and of one of the other months
pub early_number : (y m d : ℕ) → 2000 ≤ y → y ≤ 2199 → 1 ≤ m → m ≤ 2 → 1 ≤ d →
    day_number y m d + 730425 ≡ start (y - 1) + march_month (m + 9) + (d - 1)
unfolding day_number
early_number y m d p q a b h =
    let e : y - 1 + 1 - 2000 ≡ y - 2000 = omega arith in
    omega (arith, (year_is (y - 1) (omega arith) (omega arith)).0, ap days_of_years e, (early_month y m a b).0)

pub late_number : (y m d : ℕ) → 2000 ≤ y → y ≤ 2199 → 3 ≤ m → m ≤ 12 → 1 ≤ d →
    day_number y m d + 730425 ≡ start y + march_month (m - 3) + (d - 1)
unfolding day_number
late_number y m d p q a b h =
    let e : y - 1 + 1 - 2000 ≡ y - 2000 = omega arith in
    let f : y - 1 + 1 ≡ y = omega arith in
    let k = year_is (y - 1) (omega arith) (omega arith) in
    omega (arith, k.0, ap days_of_years e, k.1.0, ap start f, ap (λ (z : ℕ). bit (leap z)) f, (late_month y m a b).0)

-- b is how many years before its own year the March year of the month m starts
abbrev pub Before : ℕ → ℕ → Type 0
Before m b = ((m ≤ 2) × (b ≡ 1)) ⊎ ((2 < m) × (b ≡ 0))

pub before_bounds : (m b : ℕ) → 1 ≤ m → m ≤ 12 → Before m b → (b ≤ 1) × (3 ≤ m + 12 * b) × (m + 12 * b ≤ 14)
before_bounds m b p q (inl w) = omega arith
before_bounds m b p q (inr w) = omega arith

-- the day number of any date, by the formula
pub number : (y m d b : ℕ) → ValidDate y m d → Before m b →
    day_number y m d + 730425 ≡ start (y - b) + march_month (m + 12 * b - 3) + (d - 1)
number y m d b v (inl w) =
    let e : y - b ≡ y - 1 = omega arith in
    omega (arith, early_number y m d v.year_from v.year_to v.month_from w.0 v.day_from, ap start e)
number y m d b v (inr w) =
    let e : y - b ≡ y = omega arith in
    omega (arith, late_number y m d v.year_from v.year_to w.0 v.month_to v.day_from, ap start e)

-- the year of the era grows with the day
grows₁ : (a b : ℕ) → a ≤ b → a - a / 1460 ≤ b - b / 1460
grows₁ a b h = omega arith

grows₂ : (a b : ℕ) → a ≤ b → a / 36524 - a / 146096 ≤ b / 36524 - b / 146096
grows₂ a b h = omega arith

within₂ : (a : ℕ) → a / 146096 ≤ a / 36524
within₂ a = omega arith

together : (a b c a' b' c' : ℕ) → a ≤ a' → c ≤ b → c' ≤ b' → b - c ≤ b' - c' → (a + b - c) / 365 ≤ (a' + b' - c') / 365
together a b c a' b' c' p q r t =
    let k : a + b - c ≤ a' + b' - c' = omega arith in
    omega arith

grows : (a b : ℕ) → a ≤ b → year_of_era a ≤ year_of_era b
unfolding year_of_era
grows a b h =
    together (a - a / 1460) (a / 36524) (a / 146096) (b - b / 1460) (b / 36524) (b / 146096)
    (grows₁ a b h) (within₂ a) (within₂ b) (grows₂ a b h)

-- what the code finds of the day x: month m (0 to 11, from March) and day d of the March year y
pub record Found (x y m d : ℕ) : Type 0 where
  pub era : x / 146097 ≡ y / 400
  pub year : year_of_era (x % 146097) ≡ y % 400
  pub within : start_in_era (year_of_era (x % 146097)) ≤ x % 146097
  pub month : month_of x ≡ m
  pub month_in : march_month (month_of x) ≤ day_of_year x
  pub day : day_of x ≡ d

-- the era, and the day of the era, of a day between two of one era
era_between : (s x e c : ℕ) → c * 146097 ≤ s → s ≤ x → x ≤ e → e / 146097 ≡ c → (x / 146097 ≡ c) × (s % 146097 ≤ x % 146097) × (x % 146097 ≤ e % 146097) × (c * 146097 + x % 146097 ≡ x)
era_between s x e c h p q f = omega arith

month_between : (q m : ℕ) → march_month m ≤ q → q < march_month (m + 1) → (5 * q + 2) / 153 ≡ m
month_between q m a b = omega arith

offset : (c z a q s : ℕ) → c * 146097 + z ≡ s + q → s ≡ c * 146097 + a → z ≡ a + q
offset c z a q s e f = omega arith

minus : (a q : ℕ) → a + q - a ≡ q
minus a q = omega arith

below : (a b z q : ℕ) → a ≡ b → z ≡ b + q → a ≤ z
below a b z q e f = omega arith

day_back : (a d : ℕ) → 1 ≤ d → a + (d - 1) - a + 1 ≡ d
day_back a d h = omega arith

pub found : (x y m d : ℕ) → 1999 ≤ y → y ≤ 2199 → 1 ≤ d → march_month m + d ≤ march_month (m + 1) → march_month m + d ≤ 365 + bit (leap (y + 1)) →
    x ≡ start y + march_month m + (d - 1) → Found x y m d
unfolding day_of_year month_of day_of
found x y m d p q h i j e =
    let k = year_is y p q in
    let s = start y in
    let n = start (y + 1) - 1 in
    let b = era_between s x n (y / 400) (omega (arith, k.1.1.0)) (omega arith) (omega (arith, k.1.0)) k.1.1.1.0 in
    let f : year_of_era (x % 146097) ≡ y % 400 =
    omega (arith, grows (s % 146097) (x % 146097) b.1, grows (x % 146097) (n % 146097) b.2, k.1.1.1.1.0, k.1.1.1.1.1) in
    let w : start_in_era (year_of_era (x % 146097)) ≡ start_in_era (y % 400) = ap start_in_era f in
    let g : x % 146097 ≡ start_in_era (y % 400) + (march_month m + (d - 1)) = offset (y / 400) (x % 146097) (start_in_era (y % 400)) (march_month m + (d - 1)) s (omega (arith, b.3)) k.1.1.0 in
    let o : day_of_year x ≡ march_month m + (d - 1) = ap (λ (z : ℕ). x % 146097 - z) w ∙ ap (λ (z : ℕ). z - start_in_era (y % 400)) g ∙ minus (start_in_era (y % 400)) (march_month m + (d - 1)) in
    let t : month_of x ≡ m = ap (λ (z : ℕ). (5 * z + 2) / 153) o ∙ month_between (march_month m + (d - 1)) m (omega arith) (omega arith) in
    record {
      era = b.0;
      year = f;
      within = below (start_in_era (year_of_era (x % 146097))) (start_in_era (y % 400)) (x % 146097) (march_month m + (d - 1)) w g;
      month = t;
      month_in = below (march_month (month_of x)) (march_month m) (day_of_year x) (d - 1) (ap march_month t) o;
      day =
          ap (λ (z : ℕ). z - march_month (month_of x) + 1) o ∙ ap (λ (z : ℕ). march_month m + (d - 1) - march_month z + 1) t
          ∙ day_back (march_month m) d h;
    }
