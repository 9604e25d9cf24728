use Rattle.script.proofs.RunVerdicts.{powers_on}
use Rattle.script.proofs.runs.run_from_power_on.Goals as goal

pub unwrap-chip-requires : goal.unwrap-chip-requires
unwrap-chip-requires c = rw (powers_on _ _ c.default.ensures c.power_on.ensures)
