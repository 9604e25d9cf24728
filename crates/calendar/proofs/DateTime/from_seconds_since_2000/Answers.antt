-- `calendar::DateTime::from_seconds_since_2000` meets its contract.
use mathlib.Core.Path.{◌≡◌, ap, ◌∙◌}
use Prim.Native.Nat.{ℕ, ◌%◌, ◌<◌}
use native.Mathlib.Omega.{arith}
use Rattle.refusals.specs.Numbered.{accepted}
use Rattle.calendar.specs.Dates.{time_of}
use Rattle.calendar.proofs.Laws.{seconds_accepted}
use Rattle.calendar.proofs.DateTime.from_seconds_since_2000.Goals as goal

in_range : (s : ℕ) → s < 6311433600 → s % 6311433600 ≡ s
in_range s h = omega arith

pub returns : goal.returns
returns c =
    rw (seconds_accepted c.args.seconds (omega arith)) (ap accepted (c.from_wrapped_seconds.ensures ∙ ap time_of (in_range c.args.seconds (omega arith))))
