-- The invariant of the loop of `script_listing::event_lines`: the lines of the records yielded so far are appended.
use lib.ListN.{length}
use Rattle.script_listing.proofs.Events.{Listed}
use Rattle.script_listing.proofs.event_lines.Given as goal

abbrev pub invariant-loop-bytes : goal.invariant-loop-bytes
invariant-loop-bytes l = Listed l.script l.answers l.initial.out l.at l.out (length l.yielded) l.next
