use Rattle.std.proofs.Common.{sym, subst}
use Rattle.script.proofs.HostLaws.{Fits, check_fits}
use Rattle.script.proofs.host.clock_script_check.Goals as goal

pub host_number-requires : goal.host_number-requires
host_number-requires c = subst Fits (sym c.in-Err.ensures) (check_fits c.args.script.now)
