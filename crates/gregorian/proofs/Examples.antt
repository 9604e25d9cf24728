-- The calendar's rows of document 01's table of examples: a number of seconds, its time, and that time's weekday; and the two refusals.
-- Assumes nothing.
use mathlib.Core.List.{List, [], ◌∷◌}
use mathlib.Core.Path.{◌≡◌, refl, sym, ap, subst, ◌∙◌}
use Prim.Native.Nat.{ℕ, ◌+◌, ◌/◌, ◌%◌, ◌<◌}
use lib.Dec.{lit<}
use lib.IntN.{pos}
use Rattle.refusals.specs.Numbered.{accepted, refused}
use Rattle.gregorian.specs.Calendar.{divides, leap, months, month_length, next_day, date_of_day}
use Rattle.gregorian.specs.Times.{Time, within, checked_time, checked_seconds, seconds_to, time_after, weekday_on}
use Rattle.gregorian.specs.Ranges.{Valid}
use Rattle.gregorian.proofs.Days.{number_date_of_day}
use Rattle.gregorian.proofs.Weekdays.{weekday_of_day_lem}
use Rattle.gregorian.proofs.Checked.{valid_accepted}
use Rattle.gregorian.proofs.Seconds.{seconds_of_time, time_valid, seconds_accepted}

pub record Row : Type 0 where
  pub seconds : ℕ
  pub time : Time
  pub weekday : ℕ

abbrev row : ℕ → ℕ → ℕ → ℕ → ℕ → ℕ → ℕ → ℕ → Row
row s year month day hour minute second weekday =
    record { seconds = s; time = record { year = year; month = month; day = day; hour = hour; minute = minute; second = second }; weekday = weekday }

abbrev pub table : List Row
table =
    row 0 2000 1 1 0 0 0 6
    ∷ row 5097600 2000 2 29 0 0 0 2
    ∷ row 820540800 2026 1 1 0 0 0 4
    ∷ row 6311433599 2199 12 31 23 59 59 2
    ∷ []

-- what the definitions say of a row
pub record Right (r : Row) : Type 0 where
  pub seconds_are_accepted : checked_seconds r.seconds ≡ accepted tt
  pub time_is : time_after r.seconds ≡ r.time
  pub time_is_accepted : checked_time r.time ≡ accepted tt
  pub seconds_are : seconds_to r.time ≡ r.seconds
  pub weekday_is : weekday_on r.time ≡ r.weekday

abbrev pub Each : (Row → Type 0) → List Row → Type 0
Each P [] = Unit {0}
Each P (r ∷ rs) = P r × Each P rs

weekday_after : (s : ℕ) → weekday_on (time_after s) ≡ (s / 86400 + 5) % 7 + 1
unfolding weekday_on time_after
weekday_after s = weekday_of_day_lem _ ∙ ap (λ (n : ℕ). (n + 5) % 7 + 1) (number_date_of_day (s / 86400))

right : (r : Row) → r.seconds < 6311433600 → time_after r.seconds ≡ r.time → (r.seconds / 86400 + 5) % 7 + 1 ≡ r.weekday → Right r
right r h e w =
    record {
      seconds_are_accepted = seconds_accepted r.seconds h;
      time_is = e;
      time_is_accepted = valid_accepted r.time (subst Valid e (time_valid r.seconds h));
      seconds_are = ap seconds_to (sym e) ∙ seconds_of_time r.seconds;
      weekday_is = ap weekday_on (sym e) ∙ weekday_after r.seconds ∙ w;
    }

pub examples : Each Right table
unfolding time_after date_of_day next_day month_length months leap divides
examples = (right _ (lit< tt) refl refl, (right _ (lit< tt) refl refl, (right _ (lit< tt) refl refl, (right _ (lit< tt) refl refl, tt))))

pub too_late : checked_seconds 6311433600 ≡ refused 8 []
unfolding checked_seconds
too_late = refl

pub no_leap_day : checked_time (record { year = 2100; month = 2; day = 29; hour = 0; minute = 0; second = 0 }) ≡ refused 3 (pos 2100 ∷ pos 2 ∷ pos 29 ∷ [])
unfolding checked_time within month_length months leap divides
no_leap_day = refl
