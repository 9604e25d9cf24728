-- `fields::encode_hour` meets its contract, in each hour mode.
use mathlib.Core.Bool.{Bool, true, false}
use mathlib.Core.Path.{◌≡◌, sym, ap, ap₂, ◌∙◌}
use Prim.Native.Nat.{ℕ, ◌%◌}
use lib.Bits.{bit_or}
use lib.Dec.{leb, eqb}
use Rattle.std.specs.Prelude.{if◌then◌else◌}
use Rattle.fields.specs.Bytes.{to_digits, hour_byte}
use Rattle.fields.proofs.encode_hour.Goals as goal

plain-hour : (h d : ℕ) (twelve : Bool) → twelve ≡ false → d ≡ to_digits h → d ≡ hour_byte h twelve
unfolding hour_byte
plain-hour h d twelve e f = f ∙ ap (hour_byte h) (sym e)

dial-hour : (h p k d : ℕ) (twelve : Bool) → twelve ≡ true → p ≡ (if leb 12 h then 0x20 else 0) → k ≡ (if eqb (h % 12) 0 then 12 else h % 12) → d ≡ to_digits k →
    bit_or (bit_or 0x40 p) d ≡ hour_byte h twelve
unfolding hour_byte
dial-hour h p k d twelve e f g i = ap₂ bit_or (ap (bit_or 0x40) f) (i ∙ ap to_digits g) ∙ ap (hour_byte h) (sym e)

pub returns-then-not-twelve_hour : goal.returns-then-not-twelve_hour
returns-then-not-twelve_hour c = plain-hour _ _ _ c.if-not-twelve_hour.true c.to_bcd.ensures

pub returns : goal.returns
returns c = dial-hour _ _ _ _ _ c.if-not-twelve_hour.false c.pm_bit.ensures c.on_dial.ensures c.to_bcd-2.ensures
