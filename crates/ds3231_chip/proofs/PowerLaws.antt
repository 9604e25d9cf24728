-- What power-on answers: that a power-on that is not refused gives a sound chip, and that the chip for a place with none is not sound, so that every call on it gives 10.
-- Assumes nothing.
use mathlib.Core.Bool.{true, false}
use mathlib.Core.Path.{◌≡◌, refl, sym, ap, ◌∙◌}
use Rattle.std.specs.Prelude.{Result, Ok}
use Rattle.refusals.specs.Numbered.{accepted, answered}
use Rattle.ds3231.specs.Calls.{sound, sound_timing, power_on}
use Rattle.ds3231.specs.ConversionTime.{Gives10}
use Rattle.ds3231.proofs.ConversionTime.{gives_10}
use Rattle.ds3231.proofs.PowersOn.{power_on_sound}
use Rattle.ds3231.proofs.ExactTime.{power_on_offset}
use Rattle.ds3231.specs.declared.Ds3231.{Ds3231}
use Rattle.ds3231.specs.declared.Ds3231Config.{Ds3231Config}
use Rattle.ds3231_chip.specs.Answers.{config_row, no_chip}
use Rattle.ds3231_chip.specs.declared.power.Ds3231ConfigError.{Ds3231ConfigError}

pub no_chip_not_sound : sound no_chip ≡ false
unfolding sound sound_timing
no_chip_not_sound = refl

pub no_chip_gives_10 : Gives10 no_chip
no_chip_gives_10 = gives_10 no_chip no_chip_not_sound

-- a power-on that is not refused gives a sound chip, with offset 5
pub powered_sound : (f : Ds3231Config) (r : Result Ds3231 Ds3231ConfigError) (c : Ds3231) → answered config_row r ≡ power_on f → r ≡ Ok c → (sound c ≡ true) × (c.timing.clock.weekday_offset ≡ 5)
powered_sound f r c p a =
    let e : power_on f ≡ accepted c = sym p ∙ ap (answered config_row) a in
    (power_on_sound f c e, power_on_offset f c e)
