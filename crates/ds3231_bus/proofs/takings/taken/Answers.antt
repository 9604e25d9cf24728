-- `ds3231_bus::takings::taken` meets its contract.
use Rattle.ds3231_bus.proofs.TakingLaws.{takes}
use Rattle.ds3231_bus.proofs.takings.taken.Goals as goal

pub returns : goal.returns
returns c = takes _ _ _ c.in_ok-checked_lent.ensures c.if-room-counts.false
