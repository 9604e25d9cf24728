-- `fields::decode_month` meets its contract.
use mathlib.Core.Bool.{Bool, not, ◌&&◌}
use mathlib.Core.Path.{◌≡◌, refl, sym, ap, ◌∙◌}
use Prim.Native.Nat.{ℕ, zero, suc, ◌*◌, ◌/◌, ◌%◌, ◌<◌}
use native.Mathlib.Omega.{arith}
use lib.Bits.{bit_and, and_high}
use lib.Dec.{eqb}
use borrow.Author.Tests.{eq-eqb, ne_eqb}
use Rattle.std.specs.Prelude.{if◌then◌else◌, Option, Some, None}
use Rattle.fields.specs.Table.{undefined, sets, bit, from_digits, decimal, in_field, month_meaning, meaning}
use Rattle.fields.specs.Answers.{decoded_meaning, of_digits_within}
use Rattle.fields.proofs.Digits.{each_answer, by_some, by_none}
use borrow.Author.Rules.{rules}
use Rattle.fields.proofs.decode_month.Goals as goal

-- the month in bits 4 to 0 where bits 6 and 5 are 0: computed at each byte
abbrev isMonth : ℕ → Bool
isMonth b = not (bit 6 b) && not (bit 5 b) && decimal (b % 32) && in_field 5 (from_digits (b % 32))

abbrev month_of : ℕ → Option ℕ
month_of b = if isMonth b then Some (from_digits (b % 32)) else None

abbrev read : ℕ → Option ℕ
read b = if eqb (bit_and b 0x60) 0 then of_digits_within 1 12 (bit_and b 0x1F) else None

month-is : (b : ℕ) → b < 256 → read b ≡ month_of b
unfolding bit decimal from_digits in_field
month-is = each_answer read month_of tt

bit-of : (d : ℕ) → d < 2 → not (eqb (d * 128) 0) ≡ eqb d 1
bit-of zero h = refl
bit-of (suc zero) h = refl
bit-of (suc (suc d)) h = absurd (omega arith)

century : (b : ℕ) → not (eqb (bit_and b 0x80) 0) ≡ bit 7 b
unfolding bit
century b = ap (λ (k : ℕ). not (eqb k 0)) (and_high b 1 7) ∙ bit-of (b / 128 % 2) (omega arith)

module _ (b : ℕ) (h : b < 256) where
  set-bits : (bit_and b 0x60 ≡ 0 → ⊥) → None ≡ month_of b
  set-bits n = ap (λ t. if t then of_digits_within 1 12 (bit_and b 0x1F) else None) (sym (ne_eqb (bit_and b 0x60) 0 n)) ∙ month-is b h

  no_bits : bit_and b 0x60 ≡ 0 → of_digits_within 1 12 (bit_and b 0x1F) ≡ month_of b
  no_bits e = ap (λ t. if t then of_digits_within 1 12 (bit_and b 0x1F) else None) (sym (eq-eqb (bit_and b 0x60) 0 e)) ∙ month-is b h

month-some : (b n : ℕ) → Some n ≡ month_of b → sets 5 n (not (eqb (bit_and b 0x80) 0)) ≡ meaning 5 b
unfolding month_meaning meaning
month-some b n e = ap (sets 5 n) (century b) ∙ by_some (isMonth b) (from_digits (b % 32)) n (λ k. sets 5 k (bit 7 b)) e

month-none : (b : ℕ) → None ≡ month_of b → undefined ≡ meaning 5 b
unfolding month_meaning meaning
month-none b e = by_none (isMonth b) (from_digits (b % 32)) _ e

pub returns-then-byte-ne0 : goal.returns-then-byte-ne0
returns-then-byte-ne0 c = month-none _ (set-bits _ (search rules) c.if-byte-ne0.true)

pub returns-in_err-month : goal.returns-in_err-month
returns-in_err-month c = ap decoded_meaning c.from_residual.ensures ∙ month-none _ (c.in_err-month.ensures ∙ no_bits _ (search rules) c.if-byte-ne0.false)

pub returns : goal.returns
returns c = month-some _ _ (c.in_ok-month.ensures ∙ no_bits _ (search rules) c.if-byte-ne0.false)
