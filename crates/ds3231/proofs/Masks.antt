-- A control byte keeps bit 5 clear, a status byte stays within 0x8B.
-- Assumes nothing.
use Prim.Native.Nat.{ℕ, ◌/◌}
use mathlib.Core.Path.{◌≡◌, sym, ap, ap₂, ◌∙◌}
use native.Mathlib.Omega.{arith}
use lib.Arith.{bin_ind}
use lib.Bits.{bit_and, bit_or, and_step, or_step, and_shr, or_shr, and_zero_r}
use Rattle.std.proofs.lemmas.Nat.{and_assoc}

and_or : (c a b : ℕ) → bit_and (bit_or a b) c ≡ bit_or (bit_and a c) (bit_and b c)
and_or =
    bin_ind (λ (c : ℕ). (a b : ℕ) → bit_and (bit_or a b) c ≡ bit_or (bit_and a c) (bit_and b c)) (λ a b. and_zero_r (bit_or a b) ∙ sym (ap₂ bit_or (and_zero_r a) (and_zero_r b)))
    (λ c ih a b.
    let p : bit_and (bit_or a b / 2) (c / 2) ≡ bit_or (bit_and a c / 2) (bit_and b c / 2) = ap (λ (x : ℕ). bit_and x (c / 2)) (or_shr a b 1) ∙ ih (a / 2) (b / 2) ∙ sym (ap₂ bit_or (and_shr a c 1) (and_shr b c 1)) in
    omega (arith, p, and_step (bit_or a b) c, or_step (bit_and a c) (bit_and b c), or_step a b, and_step a c, and_step b c))

pub control_clear : (b : ℕ) → bit_and (bit_and b 0xDF) 0x20 ≡ 0
control_clear b = and_assoc 0x20 b 0xDF ∙ and_zero_r b

pub status_within : (s b : ℕ) → bit_and (bit_or (bit_and s 0x83) (bit_and b 0x08)) 0x8B ≡ bit_or (bit_and s 0x83) (bit_and b 0x08)
status_within s b = and_or 0x8B (bit_and s 0x83) (bit_and b 0x08) ∙ ap₂ bit_or (and_assoc 0x8B s 0x83) (and_assoc 0x8B b 0x08)
