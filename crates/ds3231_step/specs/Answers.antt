-- Need not be believed: what an event by value promises. It is an equation with `step` of ds3231/specs/Calls.antt, part by part; `called` in ds3231_bus and the run in script make of it what the calls promise (contract of `called` in ds3231_bus/src/outcomes.rt, `turn` of script/proofs/Turns.antt). Assumes nothing.
use Rattle.std.specs.Prelude.{◌≡◌, option_to_list}
use Rattle.ds3231.specs.Calls.{Step, step_chip}
use Rattle.ds3231.specs.declared.Ds3231.{Ds3231}
use Rattle.ds3231_step.specs.declared.Stepped.{Stepped}

-- what the step s makes of the chip c
pub record SteppedBy (s : Step) (c : Ds3231) (r : Stepped) : Type 0 where
  pub chip : r.chip ≡ step_chip s c
  pub reply : r.reply ≡ s.reply
  pub reports : option_to_list r.report ≡ s.reports
