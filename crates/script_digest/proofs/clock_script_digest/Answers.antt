use Rattle.script.proofs.RunVerdicts.{power_on_verdict}
use Rattle.script_digest.proofs.clock_script_digest.Goals as goal

pub returns-in-Ok : goal.returns-in-Ok
returns-in-Ok c = rw (← power_on_verdict) c.in-Ok.ensures.bytes

pub returns-in-Err : goal.returns-in-Err
returns-in-Err c = rw (← power_on_verdict) c.in-Err.ensures.bytes
