-- What power-on, the calls that ask and the calls that are lent a store refuse, in the numbers of 'The table of refusals', each by the cases of its enum, and the chip that is not sound. Assumes nothing.
use Rattle.computed.specs.Prelude.{ℕ, false, not, [], pos, eqb, replicate}
use Rattle.std.specs.Prelude.{◌∷◌, if◌then◌else◌, None}
use Rattle.refusals.specs.Numbered.{Numbered, accepted, refused, Row}
use Rattle.calendar.specs.Answers.{date_row}
use Rattle.diagnostics.specs.Lent.{not_sound_row}
use Rattle.ds3231.specs.declared.Phase.TheVariants.{Released}
use Rattle.ds3231.specs.declared.Register.TheVariants.{Seconds}
use Rattle.ds3231.specs.Map.{register_row}
use Rattle.ds3231.specs.Numbers.{range}
use Rattle.ds3231.specs.Calls.{sound}
use Rattle.ds3231.specs.declared.Ds3231.{Ds3231}
use Rattle.ds3231_chip.specs.declared.power.Ds3231ConfigError.{Ds3231ConfigError}
use Rattle.ds3231_chip.specs.declared.power.Ds3231ConfigError.TheVariants.{Start, Temperature, ConversionTime}
use Rattle.ds3231_chip.specs.declared.ask.RegisterError.{RegisterError}
use Rattle.ds3231_chip.specs.declared.ask.RegisterError.TheVariants.{NotSound, NoSuchRegister}

-- ---- power-on

-- 'The table of refusals': 1 to 6, and 7 with the quarters. Order 2 of document 02: 22, with no values
abbrev pub config_row : Ds3231ConfigError → Row
config_row (Start e) = date_row e
config_row (Temperature q) = record { number = 7; values = q ∷ [] }
config_row ConversionTime = record { number = 22; values = [] }

-- a chip that is not sound, for a program's variable where power-on is refused or not yet called: its base seconds are out of range, and its conversion time too, so that every call on it gives 10 (`no_chip_gives_10` of proofs/PowerLaws.antt). The documents leave free what else it holds
abbrev pub no_chip : Ds3231
no_chip = record {
  timing = record { phase = Released; pointer = Seconds; clock = record { base_seconds = range; base_at = 0; weekday_offset = 0 }; twelve_hour = false; latched = replicate 7 0; pending = None; pending_at = 0 };
  registers = record { alarms = replicate 7 0; control = 0; status = 0; conversion_end = None; conversion_nanos = 0; aging = 0; temperature_quarters = pos 0; int_sqw_reported = false };
  diagnostics = record { waiting = 0; dropped = 0 };
}

-- ---- the calls that ask

-- 'The table of refusals': `register` 10, 9
abbrev pub asked_row : RegisterError → Row
asked_row (NotSound e) = not_sound_row e
asked_row (NoSuchRegister e) = register_row e

-- ---- the calls that are lent a store

-- 'The table of refusals': 10, then 11 for a store of len records
abbrev pub lent_verdict : Ds3231 → (len : ℕ) → Numbered (Unit {0})
lent_verdict c len = if not (sound c) then refused 10 [] else if not (eqb len 256) then refused 11 [] else accepted tt
