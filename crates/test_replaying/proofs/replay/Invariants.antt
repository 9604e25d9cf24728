use Rattle.std.proofs.Common.{◌≤◌, length}
use Rattle.test_replaying.proofs.replay.Given as goal

abbrev pub invariant-loop-session : goal.invariant-loop-session
invariant-loop-session g l = length l.rest ≤ length l.input

abbrev pub decreases-loop-session : goal.decreases-loop-session
decreases-loop-session g l = length l.rest
