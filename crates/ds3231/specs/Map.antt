-- The register map: the number of each register, and what a number names. Assumes nothing.
use Rattle.computed.specs.Prelude.{ℕ, List, [], eqb}
use Rattle.std.specs.Prelude.{◌<◌, ◌∷◌, ◌≡◌, if◌then◌else◌, Option, Some, None}
use Rattle.refusals.specs.Numbered.{Row}
use Rattle.ds3231.specs.declared.pointer.NoSuchRegister.{NoSuchRegister}
use Rattle.ds3231.specs.Types.{Register, Seconds, Minutes, Hours, Weekday, Date, Month, Year, Alarm1Seconds, Alarm1Minutes, Alarm1Hours, Alarm1Day, Alarm2Minutes, Alarm2Hours, Alarm2Day, Control, Status, Aging, TemperatureMsb, TemperatureLsb}

-- 'Register bytes': 0x00 to 0x06 are seconds, minutes, hours, weekday, date, month, year; 0x07 to 0x0D hold alarm bytes; 0x0E control, 0x0F status, 0x10 aging, 0x11 and 0x12 temperature. No register's number is above 0x12 (`number_below` of proofs/Map.antt)
abbrev pub number_of : Register → ℕ
number_of Seconds = 0x00
number_of Minutes = 0x01
number_of Hours = 0x02
number_of Weekday = 0x03
number_of Date = 0x04
number_of Month = 0x05
number_of Year = 0x06
number_of Alarm1Seconds = 0x07
number_of Alarm1Minutes = 0x08
number_of Alarm1Hours = 0x09
number_of Alarm1Day = 0x0A
number_of Alarm2Minutes = 0x0B
number_of Alarm2Hours = 0x0C
number_of Alarm2Day = 0x0D
number_of Control = 0x0E
number_of Status = 0x0F
number_of Aging = 0x10
number_of TemperatureMsb = 0x11
number_of TemperatureLsb = 0x12

-- what a number names: the register of that number, or none where it is above 0x12
abbrev pub Names : ℕ → Option Register → Type 0
Names n (Some r) = number_of r ≡ n
Names n None = 0x12 < n

-- the registers in the order of their numbers
abbrev pub register_map : List Register
register_map =
    Seconds ∷ Minutes ∷ Hours ∷ Weekday ∷ Date ∷ Month ∷ Year
    ∷ Alarm1Seconds ∷ Alarm1Minutes ∷ Alarm1Hours ∷ Alarm1Day ∷ Alarm2Minutes ∷ Alarm2Hours ∷ Alarm2Day
    ∷ Control ∷ Status ∷ Aging ∷ TemperatureMsb ∷ TemperatureLsb ∷ []

-- what a number names, as it is computed: the first register of the map with that number, or none. `named_names` and `names_one` of proofs/Map.antt: the number names it, and nothing else
abbrev pub named_in : List Register → ℕ → Option Register
named_in [] n = None
named_in (r ∷ rs) n = if eqb n (number_of r) then Some r else named_in rs n

unfoldable pub named : ℕ → Option Register
named n = named_in register_map n

-- a number that names none, and 'The table of refusals': 9
abbrev pub no_register : NoSuchRegister
no_register = record {}

abbrev pub register_row : NoSuchRegister → Row
register_row e = record { number = 9; values = [] }
