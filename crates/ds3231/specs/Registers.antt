-- The byte of a register, and the registers outside the time, 0x07 to 0x12: their bytes, and what a write does to them. Assumes nothing.
use Rattle.computed.specs.Prelude.{ℕ, min, Bool, false, not, List, leb, ltb, eqb, bit_and, bit_or, entry, set, ℤ, pos, negsuc, shr_z}
use Rattle.std.specs.Prelude.{◌+◌, ◌*◌, ◌-◌, ◌%◌, ◌&&◌, ◌||◌, if◌then◌else◌, Option, Some, None}
use Rattle.ds3231.specs.Types.{Registers, Register, Seconds, Minutes, Hours, Weekday, Date, Month, Year, Alarm1Seconds, Alarm1Minutes, Alarm1Hours, Alarm1Day, Alarm2Minutes, Alarm2Hours, Alarm2Day, Control, Status, Aging, TemperatureMsb, TemperatureLsb}

-- 'Register bytes': a conversion runs while the instant is below its end
abbrev pub runs_at : Option ℕ → ℕ → Bool
runs_at (Some end) t = ltb t end
runs_at None t = false

abbrev pub converting : Registers → ℕ → Bool
converting g t = runs_at g.conversion_end t

-- the low eight bits of a signed number
abbrev pub low_byte : ℤ → ℕ
low_byte (pos n) = n % 256
low_byte (negsuc n) = 255 - n % 256

-- 'Register bytes': the temperature, the quarters shifted right by 2 as a signed number, low eight bits (`shr_z q 4` divides by 4, rounding down); their lowest two bits, in bits 7 and 6
abbrev pub temperature_high : ℤ → ℕ
temperature_high q = low_byte (shr_z q 4)

abbrev pub temperature_low : ℤ → ℕ
temperature_low q = low_byte q % 4 * 64

-- 'Register bytes': the byte of a register at t, from the seven bytes of the time at 0x00 to 0x06; control bit 5 and status bit 2 read set while a conversion runs. Both arrays are [u8; 7] in src/lib.rt, and in lists of seven entries no lookup misses (`time_entry` and `alarm_entry` of proofs/RegisterBytes.antt)
abbrev pub byte_at : List ℕ → Registers → Register → ℕ → ℕ
byte_at time g Seconds t = entry time 0
byte_at time g Minutes t = entry time 1
byte_at time g Hours t = entry time 2
byte_at time g Weekday t = entry time 3
byte_at time g Date t = entry time 4
byte_at time g Month t = entry time 5
byte_at time g Year t = entry time 6
byte_at time g Alarm1Seconds t = entry g.alarms 0
byte_at time g Alarm1Minutes t = entry g.alarms 1
byte_at time g Alarm1Hours t = entry g.alarms 2
byte_at time g Alarm1Day t = entry g.alarms 3
byte_at time g Alarm2Minutes t = entry g.alarms 4
byte_at time g Alarm2Hours t = entry g.alarms 5
byte_at time g Alarm2Day t = entry g.alarms 6
byte_at time g Control t = bit_or g.control (if converting g t then 0x20 else 0)
byte_at time g Status t = bit_or g.status (if converting g t then 0x04 else 0)
byte_at time g Aging t = g.aging
byte_at time g TemperatureMsb t = temperature_high g.temperature_quarters
byte_at time g TemperatureLsb t = temperature_low g.temperature_quarters

-- 'Diagnostics': a control byte that is NOTMODELLED, bit 2 clear, or set with bit 0 or 1
abbrev pub enables_output : ℕ → Bool
enables_output b = eqb (bit_and b 0x04) 0 || not (eqb (bit_and b 0x03) 0)

-- 'Register bytes': bit 5 set while not converting starts a conversion
abbrev pub starts_conversion : ℕ → ℕ → Registers → Bool
starts_conversion b t g = not (eqb (bit_and b 0x20) 0) && not (converting g t)

-- 'Register bytes': an alarm byte as written, at place 0 to 6 of the seven
abbrev pub alarm_written : ℕ → ℕ → Registers → Registers
alarm_written i b g = record { alarms = set g.alarms i b; control = g.control; status = g.status; conversion_end = g.conversion_end; conversion_nanos = g.conversion_nanos; aging = g.aging; temperature_quarters = g.temperature_quarters; int_sqw_reported = g.int_sqw_reported }

-- 'Register bytes': control keeps the byte without bit 5; Order 2 of document 02: a conversion ends at its start plus the chip's conversion time, that sum saturating. 'Diagnostics': reported once per power-on
abbrev pub control_written : ℕ → ℕ → Registers → Registers
control_written b t g = record {
  alarms = g.alarms;
  control = bit_and b 0xDF;
  status = g.status;
  conversion_end = if starts_conversion b t g then Some (min (t + g.conversion_nanos) 0xFFFF_FFFF_FFFF_FFFF) else g.conversion_end;
  conversion_nanos = g.conversion_nanos;
  aging = g.aging;
  temperature_quarters = g.temperature_quarters;
  int_sqw_reported = enables_output b || g.int_sqw_reported;
}

-- 'Register bytes': status after a write is (status & byte & 0x83) | (byte & 0x08)
abbrev pub status_written : ℕ → Registers → Registers
status_written b g = record { alarms = g.alarms; control = g.control; status = bit_or (bit_and (bit_and g.status b) 0x83) (bit_and b 0x08); conversion_end = g.conversion_end; conversion_nanos = g.conversion_nanos; aging = g.aging; temperature_quarters = g.temperature_quarters; int_sqw_reported = g.int_sqw_reported }

-- 'Register bytes': 0x10 aging, as written
abbrev pub aging_written : ℕ → Registers → Registers
aging_written b g = record { alarms = g.alarms; control = g.control; status = g.status; conversion_end = g.conversion_end; conversion_nanos = g.conversion_nanos; aging = b; temperature_quarters = g.temperature_quarters; int_sqw_reported = g.int_sqw_reported }

-- a byte written at t to the register of number r, which is at most 0x12: 0x00 to 0x06, 0x11 and 0x12 change nothing here
abbrev pub registers_written : ℕ → ℕ → ℕ → Registers → Registers
registers_written r b t g =
    if leb 0x07 r && leb r 0x0D then alarm_written (r - 7) b g
    else if eqb r 0x0E then control_written b t g
    else if eqb r 0x0F then status_written b g
    else if eqb r 0x10 then aging_written b g
    else g
