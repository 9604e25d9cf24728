-- The lines of the records so far are appended.
use Rattle.std.proofs.Common.{take}
use Rattle.listing.specs.Text.{diagnostic_lines}
use Rattle.listing.specs.Appended.{Appended}
use Rattle.listing.proofs.reports.Given as goal

abbrev pub invariant-loop-diagnostic : goal.invariant-loop-diagnostic
invariant-loop-diagnostic l = Appended (diagnostic_lines (take l.diagnostic-index l.records)) l.initial.out l.at l.out l.next
