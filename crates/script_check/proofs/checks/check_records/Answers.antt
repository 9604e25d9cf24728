use Rattle.std.proofs.Common.{arith, rules}
use Rattle.refusals.proofs.Checks.{error_is}
use Rattle.script_check.proofs.Folds.{none_passed, passes, stops, ends, numbered}
use Rattle.script_check.proofs.checks.check_records.Goals as goal

pub loop-i-init : goal.loop-i-init
loop-i-init c = none_passed _

pub returns-in_err-last : goal.returns-in_err-last
returns-in_err-last c =
    rw (error_is _ _ c.from_residual.ensures.1)
    (stops _ _ _ c.loop-i.invariant (omega arith) _ c.as_chunks.ensures.front _ c.judge.ensures _ (search (rules, numbered)) _ c.in_err-last.was)

pub loop-i-preserved : goal.loop-i-preserved
loop-i-preserved c =
    passes _ _ _ c.loop-i.invariant (omega arith) _ c.as_chunks.ensures.front _ c.judge.ensures c.map_err.result (search (rules, numbered)) _ c.in_ok-last.was

pub returns : goal.returns
returns c = ends _ _ _ c.loop-i.invariant (omega arith)
