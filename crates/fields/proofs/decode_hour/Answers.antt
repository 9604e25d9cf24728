-- `fields::decode_hour` meets its contract, in each hour mode.
use mathlib.Core.Bool.{Bool, true, false, not, ◌&&◌}
use mathlib.Core.Path.{◌≡◌, ap, ◌∙◌}
use Prim.Native.Nat.{ℕ, ◌+◌, ◌/◌, ◌%◌, ◌≤◌, ◌<◌}
use native.Mathlib.Omega.{arith}
use lib.Bits.{bit_and, and_high}
use lib.Dec.{leb, leb-zero}
use borrow.Author.Tests.{eq-eqb, ne_eqb}
use Rattle.std.specs.Prelude.{if◌then◌else◌, Option, Some, None}
use Rattle.fields.specs.Table.{undefined, sets, bit, from_digits, decimal, in_field, plain_meaning, dial_meaning, meaning}
use Rattle.fields.specs.Answers.{decoded_meaning, of_digits_within}
use Rattle.fields.proofs.Digits.{each_answer, plain_some, plain_none, by_some, by_none}
use borrow.Author.Rules.{rules}
use Rattle.fields.proofs.decode_hour.Goals as goal

-- bit 6 chooses the mode
module _ (b : ℕ) where
  plain-hour : bit_and b 0x40 ≡ 0 → plain_meaning 2 b ≡ meaning 2 b
  unfolding meaning bit
  plain-hour e = rw (ne_eqb (b / 64 % 2) 1 (omega (arith, and_high b 1 6)))

  dial-hour : (bit_and b 0x40 ≡ 0 → ⊥) → dial_meaning b ≡ meaning 2 b
  unfolding meaning bit
  dial-hour e = rw (eq-eqb (b / 64 % 2) 1 (omega (arith, and_high b 1 6)))

hours : (n : ℕ) → (leb 0 n && leb n 23) ≡ in_field 2 n
unfolding in_field
hours n = rw (leb-zero n)

-- the number on the dial, without bits 6 and 5: computed at each byte
abbrev onDial : ℕ → Bool
onDial b = not (bit 7 b) && decimal (b % 32) && leb 1 (from_digits (b % 32)) && leb (from_digits (b % 32)) 12

abbrev dialOf : ℕ → Option ℕ
dialOf b = if onDial b then Some (from_digits (b % 32)) else None

dial-is : (b : ℕ) → b < 256 → of_digits_within 1 12 (bit_and b 0x9F) ≡ dialOf b
unfolding bit decimal from_digits
dial-is = each_answer (λ b. of_digits_within 1 12 (bit_and b 0x9F)) dialOf tt

dial-some : (b n k : ℕ) → Some n ≡ dialOf b → k ≡ (if bit 5 b then 12 else 0) → sets 2 (n % 12 + k) true ≡ dial_meaning b
unfolding dial_meaning
dial-some b n k e f =
    ap (λ (i : ℕ). sets 2 (n % 12 + i) true) f
    ∙ by_some (onDial b) (from_digits (b % 32)) n (λ i. sets 2 (i % 12 + (if bit 5 b then 12 else 0)) true) e

dial-none : (b : ℕ) → None ≡ dialOf b → undefined ≡ dial_meaning b
unfolding dial_meaning
dial-none b e = by_none (onDial b) (from_digits (b % 32)) _ e

half-day : (pm : Bool) → (if pm then 12 else 0) ≤ 12
half-day true = omega arith
half-day false = omega arith

pub returns-in_err-hour : goal.returns-in_err-hour
returns-in_err-hour c = ap decoded_meaning c.from_residual.ensures ∙ plain_none 2 0 23 hours _ c.in_err-hour.ensures ∙ plain-hour _ c.if-byte-eq0.true

pub returns-then-byte-eq0 : goal.returns-then-byte-eq0
returns-then-byte-eq0 c = plain_some 2 0 23 hours _ _ c.in_ok-hour.ensures ∙ plain-hour _ c.if-byte-eq0.true

pub returns-in_err-on_dial : goal.returns-in_err-on_dial
returns-in_err-on_dial c =
    ap decoded_meaning c.from_residual-in_err-on_dial.ensures ∙ dial-none _ (c.in_err-on_dial.ensures ∙ dial-is _ (search rules)) ∙ dial-hour _ c.if-byte-eq0.false

pub returns : goal.returns
returns c = dial-some _ _ _ (c.in_ok-on_dial.ensures ∙ dial-is _ (search rules)) c.afternoon.ensures ∙ dial-hour _ c.if-byte-eq0.false
