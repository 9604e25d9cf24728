-- The days of the week, stepped from Saturday 2000-01-01, by a formula.
-- Assumes nothing.
use mathlib.Core.Path.{◌≡◌, refl, ◌∙◌}
use Prim.Native.Nat.{ℕ, zero, suc, ◌+◌, ◌%◌, ◌≤◌}
use native.Mathlib.Omega.{arith}
use Rattle.computed.proofs.Choice.{by_lt}
use Rattle.gregorian.specs.Calendar.{next_weekday, weekday_of_day}

pub next_weekday_lem : (w : ℕ) → 1 ≤ w → w ≤ 7 → next_weekday w ≡ w % 7 + 1
unfolding next_weekday
next_weekday_lem w p q = by_lt (λ (z : ℕ). z ≡ w % 7 + 1) w 7 (λ h. omega arith) (λ h. omega arith)

pub weekday_of_day_lem : (n : ℕ) → weekday_of_day n ≡ (n + 5) % 7 + 1
unfolding weekday_of_day
weekday_of_day_lem zero = refl
weekday_of_day_lem (suc n) =
    let e = weekday_of_day_lem n in
    next_weekday_lem (weekday_of_day n) (omega (arith, e)) (omega (arith, e)) ∙ omega (arith, e)
