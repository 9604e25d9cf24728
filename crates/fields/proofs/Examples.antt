-- Hour bytes of document 01's table of examples.
-- Assumes nothing.
use mathlib.Core.Bool.{true}
use mathlib.Core.Path.{◌≡◌, refl}
use Rattle.fields.specs.Table.{undefined, sets, bit, from_digits, decimal, in_field, plain_meaning, dial_meaning, meaning}

-- 12 AM is hour 0
pub midnight : meaning 0x02 0x52 ≡ sets 2 0 true
unfolding bit from_digits decimal dial_meaning meaning
midnight = refl

-- 12 PM is hour 12
pub noon : meaning 0x02 0x72 ≡ sets 2 12 true
unfolding bit from_digits decimal dial_meaning meaning
noon = refl

-- there is no hour 24
pub hour_24 : meaning 0x02 0x24 ≡ undefined
unfolding bit from_digits decimal in_field plain_meaning meaning
hour_24 = refl
