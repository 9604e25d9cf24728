-- Need not be believed: `byte_of_field` and `field_of_byte` (proofs/Laws.antt) make `field_byte` the inverse of `meaning`, and `number_of_digits` and `digits_of_number` make `to_digits` that of `from_digits`. Assumes nothing.
use Rattle.computed.specs.Prelude.{ℕ, Bool, leb, eqb, bit_or}
use Rattle.std.specs.Prelude.{◌+◌, ◌*◌, ◌/◌, ◌%◌, if◌then◌else◌}

-- the two digits of a number; of one above 159, those that eight bits keep
unfoldable pub to_digits : ℕ → ℕ
to_digits n = 16 * (n / 10 % 16) + n % 10

-- the byte of an hour: in 24-hour mode its digits; in 12-hour mode bit 6, bit 5 from 12 on, and the digits on the dial
unfoldable pub hour_byte : ℕ → Bool → ℕ
hour_byte h twelve =
    if twelve
    then bit_or (bit_or 0x40 (if leb 12 h then 0x20 else 0)) (to_digits (if eqb (h % 12) 0 then 12 else h % 12))
    else to_digits h

-- the byte of a register's field
unfoldable pub field_byte : ℕ → ℕ → Bool → ℕ
field_byte r n flag =
    if eqb r 2 then hour_byte n flag
    else if eqb r 3 then n
    else if eqb r 5 then bit_or (to_digits n) (if flag then 0x80 else 0)
    else to_digits n
