use Rattle.std.proofs.Common.{sym, ap, subst, ◌∙◌}
use Rattle.script.specs.Runs.{host_number}
use Rattle.script.proofs.HostLaws.{Fits, run_fits}
use Rattle.script.proofs.RunVerdicts.{power_on_verdict}
use Rattle.script.proofs.host.clock_script_run.Goals as goal

pub host_number-requires : goal.host_number-requires
host_number-requires c = subst Fits (sym (c.in-Err.ensures.answers ∙ power_on_verdict _ _)) (run_fits _ _)

pub returns-in-Ok-clause-value : goal.returns-in-Ok-clause-value
returns-in-Ok-clause-value c = ap host_number (c.in-Ok.ensures.answers ∙ power_on_verdict _ _)

pub returns-in-Ok-clause-answers_after : goal.returns-in-Ok-clause-answers_after
returns-in-Ok-clause-answers_after c = rw (← power_on_verdict) c.in-Ok.ensures.bytes

pub returns-in-Err-clause-value : goal.returns-in-Err-clause-value
returns-in-Err-clause-value c = c.host_number.ensures ∙ ap host_number (c.in-Err.ensures.answers ∙ power_on_verdict _ _)

pub returns-in-Err-clause-answers_after : goal.returns-in-Err-clause-answers_after
returns-in-Err-clause-answers_after c = rw (← power_on_verdict) c.in-Err.ensures.bytes
