-- The nearest valid time: it is valid, a valid time is its own, and where only the day is past the month's end it has the month's last day.
-- Assumes nothing.
use mathlib.Core.Path.{◌≡◌}
use Prim.Native.Nat.{ℕ, ◌+◌, ◌-◌, ◌≤◌, ◌<◌}
use native.Mathlib.Omega.{arith}
use borrow.Author.Tests.{lt-ltb, le-ltb}
use Rattle.computed.proofs.Choice.{by_lt}
use Rattle.gregorian.specs.Calendar.{month_length}
use Rattle.gregorian.specs.Times.{Time}
use Rattle.gregorian.specs.Nearest.{nearest_in, nearest_time}
use Rattle.gregorian.specs.Ranges.{Valid}
use Rattle.gregorian.proofs.Months.{month_bounds}

module _ (a b n : ℕ) where
  -- a number's nearest is in the range, and no number of the range is nearer
  pub in_range : a ≤ b → (a ≤ nearest_in a b n) × (nearest_in a b n ≤ b)
  unfolding nearest_in
  in_range h =
      by_lt (λ (k : ℕ). (a ≤ k) × (k ≤ b)) n a (λ p. omega arith)
      (λ p. by_lt (λ (k : ℕ). (a ≤ k) × (k ≤ b)) b n (λ q. omega arith) (λ q. omega arith))

  pub none_nearer : (k : ℕ) → a ≤ k → k ≤ b → (n - nearest_in a b n) + (nearest_in a b n - n) ≤ (n - k) + (k - n)
  unfolding nearest_in
  none_nearer k h i =
      let P : ℕ → Type 0 = λ c. (n - c) + (c - n) ≤ (n - k) + (k - n) in
      by_lt P n a (λ p. omega arith) (λ p. by_lt P b n (λ q. omega arith) (λ q. omega arith))

  -- it is the low end below the range, the number itself in the range, and the high end above it
  pub low : n < a → nearest_in a b n ≡ a
  unfolding nearest_in
  low h = rw (lt-ltb n a h)

  pub same : a ≤ n → n ≤ b → nearest_in a b n ≡ n
  unfolding nearest_in
  same h i = rw (le-ltb n a h, le-ltb b n i)

  pub high : a ≤ n → b < n → nearest_in a b n ≡ b
  unfolding nearest_in
  high h i = rw (le-ltb n a h, lt-ltb b n i)

pub nearest_valid : (t : Time) → Valid (nearest_time t)
unfolding nearest_time
nearest_valid t =
    let y = in_range 2000 2199 t.year (omega arith) in
    let m = in_range 1 12 t.month (omega arith) in
    let l = month_length (nearest_in 2000 2199 t.year) (nearest_in 1 12 t.month) in
    let d = in_range 1 l t.day (omega (arith, month_bounds (nearest_in 2000 2199 t.year) (nearest_in 1 12 t.month))) in
    record {
      date = record { year_from = y.0; year_to = y.1; month_from = m.0; month_to = m.1; day_from = d.0; day_to = d.1 };
      hour_to = (in_range 0 23 t.hour (omega arith)).1;
      minute_to = (in_range 0 59 t.minute (omega arith)).1;
      second_to = (in_range 0 59 t.second (omega arith)).1;
    }

-- a time with another day
abbrev pub with_day : ℕ → Time → Time
with_day d t = record { year = t.year; month = t.month; day = d; hour = t.hour; minute = t.minute; second = t.second }

-- a time that is valid apart from its day has a nearest that differs at most in the day
nearest_but_day : (t : Time) (d : ℕ) → Valid (with_day 1 t) → nearest_in 1 (month_length t.year t.month) t.day ≡ d → nearest_time t ≡ with_day d t
unfolding nearest_time
nearest_but_day t d v e =
    rw (
      same 2000 2199 t.year (omega arith) (omega arith),
      same 1 12 t.month (omega arith) (omega arith),
      e,
      same 0 23 t.hour (omega arith) v.hour_to,
      same 0 59 t.minute (omega arith) v.minute_to,
      same 0 59 t.second (omega arith) v.second_to,
    )

pub nearest_same : (t : Time) → Valid t → nearest_time t ≡ t
nearest_same t v =
    let w : Valid (with_day 1 t) = record { date = record { year_from = v.date.year_from; year_to = v.date.year_to; month_from = v.date.month_from; month_to = v.date.month_to; day_from = omega arith; day_to = omega arith }; hour_to = v.hour_to; minute_to = v.minute_to; second_to = v.second_to } in
    nearest_but_day t t.day w (same 1 _ t.day v.date.day_from v.date.day_to)

pub nearest_past : (t : Time) → Valid (with_day 1 t) → month_length t.year t.month < t.day → nearest_time t ≡ with_day (month_length t.year t.month) t
nearest_past t v h = nearest_but_day t _ v (high 1 _ t.day (omega arith) h)
