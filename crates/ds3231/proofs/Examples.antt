-- Document 01's 'Examples proved together': all its rows as one table, about the definitions.
-- Assumes nothing.
use Prim.Native.Nat.{ℕ}
use mathlib.Core.Bool.{true}
use mathlib.Core.List.{List}
use mathlib.Core.Path.{◌≡◌, ap}
use lib.IntN.{ℤ, pos, negsuc}
use lib.Bits.{bit_and, bit_or}
use Rattle.calendar.proofs.Examples as Calendar
use Rattle.fields.specs.Table.{undefined, sets, meaning}
use Rattle.fields.proofs.Examples as Hours
use Rattle.ds3231.specs.Registers.{temperature_high, temperature_low, byte_at, registers_written}
use Rattle.ds3231.specs.Types.{TemperatureMsb, TemperatureLsb}
use Rattle.ds3231.specs.declared.Registers.{Registers}

-- the temperature registers of some quarters, whatever the time, the other registers and the instant
abbrev Reads : ℤ → ℕ → ℕ → Type 0
Reads q high low = (l : List ℕ) (g : Registers) (t : ℕ) → g.temperature_quarters ≡ q → (byte_at l g TemperatureMsb t ≡ high) × (byte_at l g TemperatureLsb t ≡ low)

pub record Examples : Type 0 where
  -- dates, seconds and weekdays; 6,311,433,600 gives 8; 2100-02-29 gives 3
  pub calendar : Calendar.Examples
  -- hour byte 0x52 is 0, 0x72 is 12, 0x24 undefined
  pub midnight : meaning 0x02 0x52 ≡ sets 2 0 true
  pub noon : meaning 0x02 0x72 ≡ sets 2 12 true
  pub hour_24 : meaning 0x02 0x24 ≡ undefined
  -- −101 quarters read 0xE6 0xC0; −512 read 0x80 0x00; 511 read 0x7F 0xC0
  pub minus_101 : Reads (negsuc 100) 0xE6 0xC0
  pub minus_512 : Reads (negsuc 511) 0x80 0x00
  pub plus_511 : Reads (pos 511) 0x7F 0xC0
  -- status 0x88 written 0x0F is 0x08
  pub status : (g : Registers) (t : ℕ) → g.status ≡ 0x88 → (registers_written 0x0F 0x0F t g).status ≡ 0x08

temperature : (q : ℤ) (l : List ℕ) (g : Registers) (t : ℕ) → g.temperature_quarters ≡ q → (byte_at l g TemperatureMsb t ≡ temperature_high q) × (byte_at l g TemperatureLsb t ≡ temperature_low q)
temperature q l g t e = (ap temperature_high e, ap temperature_low e)

pub examples : Examples
examples =
    record {
      calendar = Calendar.examples;
      midnight = Hours.midnight;
      noon = Hours.noon;
      hour_24 = Hours.hour_24;
      minus_101 = temperature (negsuc 100);
      minus_512 = temperature (negsuc 511);
      plus_511 = temperature (pos 511);
      status = λ g t e. ap (λ (s : ℕ). bit_or (bit_and (bit_and s 0x0F) 0x83) (bit_and 0x0F 0x08)) e;
    }
