-- `calendar::DateTime::from_wrapped_seconds` meets its contract.
use mathlib.Core.Path.{◌≡◌}
use Prim.Native.Nat.{ℕ, ◌/◌, ◌%◌}
use native.Mathlib.Omega.{arith}
use Rattle.gregorian.specs.Times.{time_after}
use Rattle.calendar.specs.Dates.{equations}
use Rattle.calendar.proofs.DateTime.from_wrapped_seconds.Goals as goal

-- the code's split of a day is the calendar's
split : (s : ℕ) → (s % 86400 / 3600 ≡ s / 3600 % 24) × (s % 86400 % 3600 / 60 ≡ s / 60 % 60) × (s % 86400 % 60 ≡ s % 60)
split s = omega arith

pub returns : goal.returns
unfolding time_after
returns c =
    let p = split (c.args.seconds % 6311433600) in
    rw (equations.time_of_is, c.civil_from_days-date.ensures, p.0, p.1, p.2)
