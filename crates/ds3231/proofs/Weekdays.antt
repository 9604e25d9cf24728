-- The weekday that a clock shows, by a formula: stepping at each midnight is adding the days; and what a clock shows in the second to which it is set.
-- Assumes nothing.
use mathlib.Core.Bool.{Bool, true, false, ◌&&◌}
use mathlib.Core.Path.{◌≡◌, refl, ap, subst, ◌∙◌}
use Prim.Native.Nat.{ℕ, zero, suc, ◌+◌, ◌/◌, ◌%◌, ◌≤◌, ◌<◌}
use native.Mathlib.Omega.{arith}
use borrow.Author.Tests.{eqb-true}
use lib.Dec.{eqb}
use Rattle.std.specs.Prelude.{if◌then◌else◌, None}
use Rattle.calendar.specs.Stated.{InRange, time_of, day_number, next_weekday}
use Rattle.calendar.specs.declared.DateTime.{DateTime}
use Rattle.calendar.proofs.Laws.{next_weekday_formula, time_of_seconds, seconds_below, seconds_day}
use Rattle.fields.specs.Table.{Meaning, undefined, sets, from_digits, decimal, in_field, plain_meaning, meaning}
use Rattle.fields.proofs.Laws.{in_field_lem, field_bounds}
use Rattle.ds3231.specs.Numbers.{nanos, day}
use Rattle.ds3231.specs.Clock.{time_at, stepped, midnights, weekday_set, weekday_at, clock_set}
use Rattle.ds3231.specs.Changed.{offset_for, changed_weekday}
use Rattle.ds3231.specs.Timing.{is_defined, sets_seconds, opened, committed_clock}
use Rattle.ds3231.specs.Model.{weekday_for}
use Rattle.ds3231.specs.declared.Clock.{Clock}

abbrev pub InWeek : ℕ → Type 0
InWeek w = (1 ≤ w) × (w ≤ 7)

-- one step from the weekday of a day
pub step : (n w : ℕ) → w ≡ n % 7 + 1 → next_weekday w ≡ suc n % 7 + 1
step n w e = next_weekday_formula w (omega (arith, e)) (omega (arith, e)) ∙ omega (arith, e)

steps : (times n w : ℕ) → w ≡ n % 7 + 1 → stepped times w ≡ (n + times) % 7 + 1
unfolding stepped
steps zero n w e = omega arith
steps (suc k) n w e = step (n + k) (stepped k w) (steps k n w e) ∙ omega arith

-- the days since 2000 when it was set, the midnights since, and the offset
pub counted_on : (k : Clock) (t : ℕ) → weekday_at k t ≡ (k.base_seconds / day + midnights k t + k.weekday_offset) % 7 + 1
counted_on k t = omega (arith, steps (midnights k t) (k.base_seconds / day + k.weekday_offset) (weekday_set k) refl)

-- with its offset the day has the weekday
pub offset_gives : (d w : ℕ) → InWeek w → weekday_for d (offset_for w d) ≡ w
unfolding offset_for
offset_gives d w h = omega arith

-- a clock shows the time and the weekday that it is set to, at t and until that second ends
module _ (d : DateTime) (w t u : ℕ) (v : InRange d) (h : u < t + nanos) where
  pub set_date : time_at (clock_set d w t) u ≡ d
  set_date = let b = seconds_below d v in ap time_of (omega arith) ∙ time_of_seconds d v

  pub set_shows : InWeek w → weekday_at (clock_set d w t) u ≡ w
  set_shows i = let s = seconds_day d v in counted_on (clock_set d w t) u ∙ omega (arith, s) ∙ offset_gives (day_number d.year d.month d.day) w i

-- a transaction without an accepted byte sets no clock
pub not_set : (t : ℕ) (k : Clock) → committed_clock None t k ≡ k
not_set t k = refl

-- the first accepted byte of a transaction finds the counted weekday
pub opened_weekday : (k : Clock) (t : ℕ) → (opened k t).weekday ≡ weekday_at k t
opened_weekday k t = refl

-- a byte that is defined sets the seconds where it goes to their register
pub seconds_byte : (r b : ℕ) → is_defined (meaning r b) ≡ true → sets_seconds (meaning r b) ≡ eqb r 0
seconds_byte r b h = by (meaning r b) refl h
  where
    by : (m : Meaning) → meaning r b ≡ m → is_defined m ≡ true → sets_seconds m ≡ eqb r 0
    by undefined e d = cc
    by (sets q n flag) e d = ap (λ (x : ℕ). eqb x 0) (in_field_lem r b q n flag e).0

-- a byte of two digits says their number
pub plain_number : (r b q n : ℕ) (flag : Bool) → plain_meaning r b ≡ sets q n flag → n ≡ from_digits b
unfolding plain_meaning
plain_number r b q n flag e = by (decimal b && in_field r (from_digits b)) e
  where
    by : (c : Bool) → (if c then sets r (from_digits b) false else undefined) ≡ sets q n flag → n ≡ from_digits b
    by true f = cc
    by false f = cc

-- a weekday byte that is defined is its number
weekday_number : (b q n : ℕ) (flag : Bool) → meaning 3 b ≡ sets q n flag → n ≡ b
unfolding meaning from_digits
weekday_number b q n flag e =
    let z = plain_number 3 b q n flag e in
    let i = (field_bounds 3 n (in_field_lem 3 b q n flag e).1).weekday refl in
    omega (arith, i)

pub weekday_byte : (r b w : ℕ) → is_defined (meaning r b) ≡ true → changed_weekday (meaning r b) w ≡ (if eqb r 3 then b else w)
weekday_byte r b w h = by (meaning r b) refl h
  where
    at_3 : (q n : ℕ) (flag : Bool) → meaning r b ≡ sets q n flag → (x : Bool) → eqb r 3 ≡ x → (if x then n else w) ≡ (if x then b else w)
    at_3 q n flag e true x = weekday_number b q n flag (subst (λ (k : ℕ). meaning k b ≡ sets q n flag) (eqb-true r 3 x) e)
    at_3 q n flag e false x = refl

    by : (m : Meaning) → meaning r b ≡ m → is_defined m ≡ true → changed_weekday m w ≡ (if eqb r 3 then b else w)
    by undefined e d = cc
    by (sets q n flag) e d = ap (λ (x : ℕ). if eqb x 3 then n else w) (in_field_lem r b q n flag e).0 ∙ at_3 q n flag e (eqb r 3) refl
