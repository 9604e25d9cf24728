use Rattle.std.proofs.Common.{refl}
use Rattle.refusals.proofs.Checks.{error_is}
use Rattle.script.proofs.RunVerdicts.{goes_on, is_refused}
use Rattle.script.proofs.runs.run.Goals as goal

pub returns-in_err-checked : goal.returns-in_err-checked
returns-in_err-checked c =
    rw (error_is _ _ c.from_residual.ensures.1) (is_refused _ _ _ _ refl _ c.in_err-checked.ensures)

pub events-ran-requires : goal.events-ran-requires
events-ran-requires c = rw c.copy_from_slice.ensures.after (goes_on _ _ _ _ refl c.in_ok-checked.ensures)
