use Rattle.std.proofs.Common.{rules}
use Rattle.refusals.proofs.Checks.{error_is}
use Rattle.script.proofs.RunVerdicts.{goes_on, is_refused}
use Rattle.script.proofs.runs.run_values.Goals as goal

pub returns-in_err-checked : goal.returns-in_err-checked
returns-in_err-checked c =
    rw (error_is _ _ c.from_residual.ensures.1) (is_refused (record { chip = c.args.chip; store = c.args.records }) _ _ 256 (search rules) _ c.in_err-checked.ensures)

pub events-requires : goal.events-requires
events-requires c = goes_on (record { chip = c.args.chip; store = c.args.records }) _ _ 256 (search rules) c.in_ok-checked.ensures
