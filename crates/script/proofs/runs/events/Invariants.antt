-- After the first i records the chip, the records and the answer bytes are those of the run.
use Rattle.std.proofs.Common.{length}
use Rattle.script.proofs.Turns.{Through}
use Rattle.script.proofs.runs.events.Given as goal

abbrev pub invariant-loop-i : goal.invariant-loop-i
invariant-loop-i l = Through (record { chip = l.fn.chip; store = l.fn.records }) l.script (length l.fn.answers) l.i l.chip l.records l.answers
