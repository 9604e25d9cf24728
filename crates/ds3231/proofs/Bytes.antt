-- A defined byte changes a time and a weekday within their ranges, and what a clock shows is in range.
-- Assumes nothing.
use Prim.Native.Nat.{ℕ, ◌+◌, ◌%◌, ◌≤◌, ◌<◌}
use mathlib.Core.Bool.{Bool, true, false}
use mathlib.Core.Path.{◌≡◌, refl, sym, subst}
use native.Mathlib.Omega.{arith}
use borrow.Author.Tests.{eqb-true}
use lib.Dec.{eqb}
use Rattle.std.specs.Prelude.{if◌then◌else◌}
use Rattle.computed.proofs.Choice.{chosen}
use Rattle.calendar.specs.Stated.{InRange}
use Rattle.calendar.proofs.Laws.{month_bounds}
use Rattle.calendar.specs.declared.DateTime.{DateTime}
use Rattle.fields.specs.Table.{Meaning, undefined, sets, meaning}
use Rattle.fields.proofs.Laws.{Bounds, in_field_lem, field_bounds}
use Rattle.ds3231.specs.Numbers.{range}
use Rattle.ds3231.specs.Clock.{seconds_at, weekday_at}
use Rattle.ds3231.specs.Changed.{offset_for, changed_time, changed_weekday}
use Rattle.ds3231.specs.Timing.{noted}
use Rattle.ds3231.specs.declared.Clock.{Clock}
use Rattle.ds3231.specs.declared.PendingTime.{PendingTime}
use Rattle.ds3231.proofs.Facts.{YearIn, TimeIn, first_in, PendingIn}
use Rattle.ds3231.proofs.Weekdays.{InWeek, counted_on}

-- a field in its range
abbrev pub MeaningIn : Meaning → Type 0
MeaningIn undefined = Unit {0}
MeaningIn (sets r n flag) = Bounds r n

pub meaning_in : (r b : ℕ) → MeaningIn (meaning r b)
meaning_in r b = by (meaning r b) refl
  where
    by : (m : Meaning) → meaning r b ≡ m → MeaningIn m
    by undefined e = tt
    by (sets q n flag) e =
        let f = in_field_lem r b q n flag e in
        subst (λ (x : ℕ). Bounds x n) (sym f.0) (field_bounds r n f.1)

by_register : (P : ℕ → Type 0) (r k : ℕ) {x y : ℕ} → (r ≡ k → P x) → P y → P (if eqb r k then x else y)
by_register P r k f g = chosen P (eqb r k) (λ e. f (eqb-true r k e)) (λ e. g)

pub century : (c : Bool) (y : ℕ) → y ≤ 99 → YearIn (2000 + (if c then 100 else 0) + y)
century true y h = omega arith
century false y h = omega arith

pub changed_in : (m : Meaning) → MeaningIn m → (t : DateTime) → TimeIn t → TimeIn (changed_time m t)
changed_in undefined i t h = h
changed_in (sets r n flag) i t h =
    let v = h.valid in
    let y = by_register YearIn r 5 (λ e. century flag (t.year % 100) (omega arith))
    (by_register YearIn r 6 (λ e. century _ n (i.year e)) (v.date.year_from, v.date.year_to)) in
    let m = by_register (λ x. (1 ≤ x) × (x ≤ 12)) r 5 i.month (v.date.month_from, v.date.month_to) in
    let d = by_register (λ x. (1 ≤ x) × (x ≤ 31)) r 4 i.day (h.day_from, h.day_to) in
    record {
      valid = first_in (changed_time (sets r n flag) t) y m (by_register (λ x. x ≤ 23) r 2 i.hour v.hour_to) (by_register (λ x. x ≤ 59) r 1 i.minute v.minute_to) (by_register (λ x. x ≤ 59) r 0 i.second v.second_to);
      day_from = d.0;
      day_to = d.1;
    }

-- a weekday stays one
pub weekday_in : (m : Meaning) → MeaningIn m → (w : ℕ) → InWeek w → InWeek (changed_weekday m w)
weekday_in undefined i w h = h
weekday_in (sets r n flag) i w h = by_register InWeek r 3 i.weekday h

pub noted_in : (m : Meaning) → MeaningIn m → (p : PendingTime) → PendingIn p → PendingIn (noted m p)
noted_in m i p h =
    let w = weekday_in m i p.weekday (h.week_from, h.week_to) in
    record { time = changed_in m i p.time h.time; week_from = w.0; week_to = w.1 }

-- ---- the clock's parts

pub offset_in : (w d : ℕ) → offset_for w d ≤ 6
unfolding offset_for
offset_in w d = omega arith

pub seconds_in : (k : Clock) (t : ℕ) → seconds_at k t < range
seconds_in k t = omega arith

pub weekday_shown : (k : Clock) (t : ℕ) → InWeek (weekday_at k t)
weekday_shown k t = subst InWeek (sym (counted_on k t)) (omega arith)

-- a time in range is one for a pending time
pub time_in : (t : DateTime) → InRange t → TimeIn t
time_in t v =
    let e = v.date in
    record { valid = first_in t (e.year_from, e.year_to) (e.month_from, e.month_to) v.hour_to v.minute_to v.second_to; day_from = e.day_from; day_to = omega (arith, month_bounds t.year t.month) }
