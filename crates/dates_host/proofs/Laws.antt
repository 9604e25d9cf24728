-- A host can read every answer: what is accepted is below 2^56, and a packed date is that of one date only.
-- Assumes nothing.
use mathlib.Core.Path.{◌≡◌}
use Prim.Native.Nat.{ℕ, ◌^◌, ◌<◌}
use native.Mathlib.Omega.{arith}
use Rattle.calendar.specs.declared.DateTime.{DateTime}
use Rattle.calendar.specs.Stated.{date_time, InRange, seconds_of}
use Rattle.calendar.proofs.Laws as Calendar
use Rattle.dates_host.specs.Packed.{packed_date}

-- every field but the year is a byte, and the year two
record Bytes (t : DateTime) : Type 0 where
  year : t.year < 2 ^ 16
  month : t.month < 2 ^ 8
  day : t.day < 2 ^ 8
  hour : t.hour < 2 ^ 8
  minute : t.minute < 2 ^ 8
  second : t.second < 2 ^ 8

bytes : (t : DateTime) → InRange t → Bytes t
bytes t v =
    let m = Calendar.month_bounds t.year t.month in
    record {
      year = omega (arith, v.date.year_to);
      month = omega (arith, v.date.month_to);
      day = omega (arith, v.date.day_to, m.1);
      hour = omega (arith, v.hour_to);
      minute = omega (arith, v.minute_to);
      second = omega (arith, v.second_to);
    }

-- a packed date and its seconds are below every refusal
pub date_below : (t : DateTime) → InRange t → packed_date t < 2 ^ 56
date_below t v = let b = bytes t v in omega (arith, b)

pub seconds_below : (t : DateTime) → InRange t → seconds_of t < 2 ^ 56
seconds_below t v = omega (arith, Calendar.seconds_below t v)

-- two dates packed alike are one date
same_fields : (t u : DateTime) → Bytes t → Bytes u → packed_date t ≡ packed_date u →
    (t.year ≡ u.year) × (t.month ≡ u.month) × (t.day ≡ u.day) × (t.hour ≡ u.hour) × (t.minute ≡ u.minute) × (t.second ≡ u.second)
same_fields t u a b e =
    (omega (arith, a, b, e), omega (arith, a, b, e), omega (arith, a, b, e), omega (arith, a, b, e), omega (arith, a, b, e), omega (arith, a, b, e))

same : (y m d h i s y' m' d' h' i' s' : ℕ) → y ≡ y' → m ≡ m' → d ≡ d' → h ≡ h' → i ≡ i' → s ≡ s' → date_time y m d h i s ≡ date_time y' m' d' h' i' s'
same y m d h i s y' m' d' h' i' s' a b c e f g = cc

pub same_date : (t u : DateTime) → InRange t → InRange u → packed_date t ≡ packed_date u → t ≡ u
same_date t u v w e =
    let f = same_fields t u (bytes t v) (bytes u w) e in
    same _ _ _ _ _ _ _ _ _ _ _ _ f.0 f.1 f.2 f.3 f.4 f.5
