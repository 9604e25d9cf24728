-- The numbered answers of power-on and of the calls that ask lose nothing: each error can be read back.
-- Assumes nothing.
use mathlib.Core.Path.{◌≡◌, refl}
use lib.Dec.{eqb}
use lib.IntN.{pos}
use lib.ListN.{get_or}
use Rattle.std.specs.Prelude.{if◌then◌else◌, Result}
use Rattle.refusals.specs.Numbered.{Row, answered}
use Rattle.refusals.proofs.Lossless.{answered_lossless}
use Rattle.computed.proofs.Lossless.{lossless}
use Rattle.calendar.proofs.Lossless.{error_of}
use Rattle.calendar.specs.declared.DateTimeError.TheVariants.{Year, Month, Day, Hour, Minute, Second}
use Rattle.ds3231_chip.specs.Answers.{config_row, asked_row}
use Rattle.ds3231_chip.specs.declared.power.Ds3231ConfigError.{Ds3231ConfigError}
use Rattle.ds3231_chip.specs.declared.power.Ds3231ConfigError.TheVariants.{Start, Temperature, ConversionTime}
use Rattle.ds3231_chip.specs.declared.ask.RegisterError.{RegisterError}
use Rattle.ds3231_chip.specs.declared.ask.RegisterError.TheVariants.{NotSound, NoSuchRegister}

-- power-on
abbrev config_of : Row → Ds3231ConfigError
config_of r =
    if eqb r.number 7 then Temperature (get_or r.values 0 (pos 0))
    else if eqb r.number 22 then ConversionTime
    else Start (error_of r)

config_back : (e : Ds3231ConfigError) → config_of (config_row e) ≡ e
config_back (Start (Year y)) = refl
config_back (Start (Month m)) = refl
config_back (Start (Day y m d)) = refl
config_back (Start (Hour h)) = refl
config_back (Start (Minute m)) = refl
config_back (Start (Second s)) = refl
config_back (Temperature q) = refl
config_back ConversionTime = refl

pub powered_lossless : {A : Type 0} (p q : Result A Ds3231ConfigError) → answered config_row p ≡ answered config_row q → p ≡ q
powered_lossless = answered_lossless config_row (lossless config_row config_of config_back)

-- `register`; of `now` and the dropped count it is `asked_lossless` of `diagnostics`
abbrev register_of : Row → RegisterError
register_of r = if eqb r.number 9 then NoSuchRegister (record {}) else NotSound (record {})

register_back : (e : RegisterError) → register_of (asked_row e) ≡ e
register_back (NotSound e) = refl
register_back (NoSuchRegister e) = refl

pub register_lossless : {A : Type 0} (p q : Result A RegisterError) → answered asked_row p ≡ answered asked_row q → p ≡ q
register_lossless = answered_lossless asked_row (lossless asked_row register_of register_back)
