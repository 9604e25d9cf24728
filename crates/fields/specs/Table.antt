-- The datasheet's table of the time registers, as document 01 gives it: which byte of a register is defined and which field it sets, and the seven bytes of a time. Assumes nothing.
use Rattle.computed.specs.Prelude.{ℕ, Bool, true, false, not, List, [], leb, eqb}
use Rattle.std.specs.Prelude.{◌+◌, ◌*◌, ◌/◌, ◌%◌, ◌^◌, ◌&&◌, ◌∷◌, if◌then◌else◌}
use Rattle.calendar.specs.declared.DateTime.{DateTime}
use Rattle.fields.specs.Bytes.{field_byte}

-- 'Register bytes': what a written byte says at a register: undefined, or the register's field and a flag, which is the 12-hour mode of an hour, the century bit of a month, and else false
pub data Meaning : Type 0 where
  undefined : Meaning
  sets : (register : ℕ) (field : ℕ) (flag : Bool) → Meaning

-- bit k of a byte
unfoldable pub bit : ℕ → ℕ → Bool
bit k b = eqb (b / 2 ^ k % 2) 1

-- 'Register bytes': binary-coded decimal: the number of two digits, and that neither digit exceeds 9
unfoldable pub from_digits : ℕ → ℕ
from_digits b = 10 * (b / 16) + b % 16

unfoldable pub decimal : ℕ → Bool
decimal b = leb (b / 16) 9 && leb (b % 16) 9

-- 'Register bytes': the range of each register's field: seconds, minutes, hours, weekday, date, month, year
unfoldable pub in_field : ℕ → ℕ → Bool
in_field r n =
    if eqb r 0 then leb n 59
    else if eqb r 1 then leb n 59
    else if eqb r 2 then leb n 23
    else if eqb r 3 then leb 1 n && leb n 7
    else if eqb r 4 then leb 1 n && leb n 31
    else if eqb r 5 then leb 1 n && leb n 12
    else if eqb r 6 then leb n 99
    else false

-- 'Register bytes': a byte that is two digits and no more is undefined when a digit exceeds 9 or the field is out of range
unfoldable pub plain_meaning : ℕ → ℕ → Meaning
plain_meaning r b = if decimal b && in_field r (from_digits b) then sets r (from_digits b) false else undefined

-- 'Register bytes': an hour on a dial of 1 to 12, in bits 4 to 0: bit 5 set is PM, bit 7 must be 0
unfoldable pub dial_meaning : ℕ → Meaning
dial_meaning b =
    if not (bit 7 b) && decimal (b % 32) && leb 1 (from_digits (b % 32)) && leb (from_digits (b % 32)) 12
    then sets 2 (from_digits (b % 32) % 12 + (if bit 5 b then 12 else 0)) true
    else undefined

-- 'Register bytes': a month in bits 4 to 0: bit 7 set means 2100 to 2199, bits 6 and 5 must be 0
unfoldable pub month_meaning : ℕ → Meaning
month_meaning b =
    if not (bit 6 b) && not (bit 5 b) && decimal (b % 32) && in_field 5 (from_digits (b % 32))
    then sets 5 (from_digits (b % 32)) (bit 7 b)
    else undefined

-- 'Register bytes': what a byte says at a register; nothing at a register above 0x06. Bit 6 of an hour set is 12-hour mode.
unfoldable pub meaning : ℕ → ℕ → Meaning
meaning r b =
    if eqb r 2 then (if bit 6 b then dial_meaning b else plain_meaning 2 b)
    else if eqb r 5 then month_meaning b
    else plain_meaning r b

-- 'Register bytes': 0x00 to 0x06 are seconds, minutes, hours, weekday, date, month, year, here of a time, its weekday and an hour mode
unfoldable pub time_bytes : DateTime → ℕ → Bool → List ℕ
time_bytes t weekday twelve =
    field_byte 0 t.second false
    ∷ field_byte 1 t.minute false
    ∷ field_byte 2 t.hour twelve
    ∷ field_byte 3 weekday false
    ∷ field_byte 4 t.day false
    ∷ field_byte 5 t.month (leb 2100 t.year)
    ∷ field_byte 6 (t.year % 100) false
    ∷ []
