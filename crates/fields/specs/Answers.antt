-- Need not be believed: no contract of a call of the chip cites it, and the contract of `decode` (src/lib.rt) equates what `decode` answers with `meaning` (specs/Table.antt). Who calls `decode`, which is no call of document 01, reads here what it answers. Assumes nothing.
use Rattle.computed.specs.Prelude.{ℕ, false, leb}
use Rattle.std.specs.Prelude.{◌&&◌, if◌then◌else◌, Option, Some, None}
use Rattle.fields.specs.Table.{Meaning, undefined, sets, from_digits, decimal}
use Rattle.fields.specs.declared.Field.{Field}
use Rattle.fields.specs.declared.Field.TheVariants.{Second, Minute, Hour, Weekday, Day, Month, Year}

-- the register of a field, its value and its flag
abbrev pub field_meaning : Field → Meaning
field_meaning (Second s) = sets 0 s false
field_meaning (Minute m) = sets 1 m false
field_meaning (Hour h twelve) = sets 2 h twelve
field_meaning (Weekday w) = sets 3 w false
field_meaning (Day d) = sets 4 d false
field_meaning (Month m century) = sets 5 m century
field_meaning (Year y) = sets 6 y false

-- of the field that a byte sets; none is undefined
abbrev pub decoded_meaning : Option Field → Meaning
decoded_meaning (Some f) = field_meaning f
decoded_meaning None = undefined

-- the number of two digits, none where a digit exceeds 9
abbrev pub of_digits : ℕ → Option ℕ
of_digits b = if decimal b then Some (from_digits b) else None

-- the number of two digits where it is from low to high
abbrev pub of_digits_within : ℕ → ℕ → ℕ → Option ℕ
of_digits_within low high b = if decimal b && (leb low (from_digits b) && leb (from_digits b) high) then Some (from_digits b) else None
