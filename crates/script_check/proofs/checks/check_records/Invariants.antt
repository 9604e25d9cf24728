-- The records before record i have no fault, and `last` is the running number.
use Rattle.script_check.proofs.Folds.{Passed}
use Rattle.script_check.proofs.checks.check_records.Given as goal

abbrev pub invariant-loop-i : goal.invariant-loop-i
invariant-loop-i l = Passed l.script l.i-counter l.last
