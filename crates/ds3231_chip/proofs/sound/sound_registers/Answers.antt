-- `ds3231_chip::sound::sound_registers` meets its contract.
use mir.Facts.{to_z-of_z}
use mir.Syntax.{w16}
use mir.Val.{SFits}
use Rattle.ds3231.specs.Calls.{sound_registers}
use borrow.Author.Rules.{rules}
use Rattle.ds3231_chip.proofs.sound.sound_registers.Goals as goal

pub returns : goal.returns
unfolding sound_registers
returns c =
    let s : SFits w16 c.args.registers.temperature_quarters = search (rules, c.struct_told-1.given) in
    rw (c.in_quarters.ensures, c.in_conversion_times.ensures, to_z-of_z s)
