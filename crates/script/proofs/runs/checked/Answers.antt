use Rattle.refusals.proofs.Checks.{error_is}
use Rattle.std.proofs.lemmas.Bool.{eq-eqb, ne_eqb}
use Rattle.script.specs.Runs.{checked_run}
use Rattle.script.proofs.runs.checked.Goals as goal

pub returns-in_err-check_length : goal.returns-in_err-check_length
unfolding checked_run
returns-in_err-check_length c =
    rw (error_is _ _ c.from_residual-in_err-check_length.ensures.1, ← c.in_ok-checked_lent.ensures, ← c.in_err-check_length.ensures)

pub returns-then-room-script : goal.returns-then-room-script
unfolding checked_run
returns-then-room-script c = rw (← c.in_ok-checked_lent.ensures, ← c.in_ok-check_length.ensures, ne_eqb _ _ c.if-room-script.true)

pub returns-in_err-check_records : goal.returns-in_err-check_records
unfolding checked_run
returns-in_err-check_records c =
    rw (error_is _ _ c.from_residual-in_err-check_records.ensures.1, ← c.in_ok-checked_lent.ensures, ← c.in_ok-check_length.ensures, eq-eqb _ _ c.if-room-script.false, ← c.in_err-check_records.ensures)

pub returns : goal.returns
unfolding checked_run
returns c = rw (← c.in_ok-checked_lent.ensures, ← c.in_ok-check_length.ensures, eq-eqb _ _ c.if-room-script.false, ← c.in_ok-check_records.ensures)
