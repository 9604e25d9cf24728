-- The claim of `EightBits`, proved: a sound chip's offset is at most 6, every call keeps it sound, and on a chip that is not sound each call is refused.
-- Assumes nothing.
use Prim.Native.Nat.{ℕ, ◌^◌, ◌≤◌, ◌<◌}
use mathlib.Core.Bool.{Bool, true, false}
use mathlib.Core.List.{List, [], ◌∷◌}
use mathlib.Core.Path.{◌≡◌, refl, sym, ap, subst, ◌∙◌}
use native.Mathlib.Omega.{arith}
use borrow.Author.Tests.{leb-true, le-leb}
use lib.Dec.{leb}
use Rattle.ds3231.specs.Calls.{sound, Call, chip_after}
use Rattle.ds3231.specs.Total.{chip_after_all}
use Rattle.ds3231.specs.EightBits.{with_offset, in_eight_bits, of_any_width, Outcome, outcome, outcomes, NeverAbove6, NothingLost, EightBits}
use Rattle.ds3231.specs.declared.Ds3231.{Ds3231}
use Rattle.ds3231.proofs.Facts.{same_test, sound_test, sound_fact}
use Rattle.ds3231.proofs.Sounds.{sound_kept, sound_run}
use Rattle.ds3231.proofs.PowersOn.{power_on_sound}
use Rattle.ds3231.proofs.ConversionTime.{gives_10}

-- ---- a sound chip

at_most_6 : (c : Ds3231) → sound c ≡ true → c.timing.clock.weekday_offset ≤ 6
at_most_6 c e = (sound_fact c e).timing.offset

bounded : (n : ℕ) (c : Ds3231) → sound c ≡ true → sound (with_offset n c) ≡ leb n 6
bounded n c e =
    let h = sound_fact c e in
    let t = h.timing in
    same_test _ _ (λ w. le-leb _ _ (at_most_6 (with_offset n c) w)) (λ w. sound_test _ (record {
      timing = record { base = t.base; offset = leb-true _ _ w; pending = t.pending };
      registers = h.registers;
      waiting = h.waiting;
    }))

never_above_6 : (c : Ds3231) → sound c ≡ true → NeverAbove6 c
never_above_6 c e = record { never_above = λ calls. at_most_6 (chip_after_all c calls) (sound_run calls c e); bound = λ n. bounded n c e }

-- ---- any chip whose offset eight bits hold

abbrev Fits : Ds3231 → Type 0
Fits c = c.timing.clock.weekday_offset < 2 ^ 8

fits_after : (k : Call) (c : Ds3231) → Fits c → Fits (chip_after k c)
fits_after k c h = by (sound c) refl
  where
    by : (b : Bool) → sound c ≡ b → Fits (chip_after k c)
    by true e = omega (arith, at_most_6 (chip_after k c) (sound_kept k c e))
    by false e = subst Fits (sym ((gives_10 c e).chip k)) h

fits_run : (ks : List Call) (c : Ds3231) → Fits c → Fits (chip_after_all c ks)
fits_run [] c h = h
fits_run (k ∷ ks) c h = fits_run ks (chip_after k c) (fits_after k c h)

held : (c : Ds3231) → Fits c → in_eight_bits c ≡ c
held c h = ap (λ (n : ℕ). with_offset n c) (omega (arith, h))

outcomes_same : (ks : List Call) (c : Ds3231) → Fits c → outcomes in_eight_bits c ks ≡ outcomes of_any_width c ks
outcomes_same [] c h = refl
outcomes_same (k ∷ ks) c h =
    let f = fits_after k c h in
    ap (λ (d : Ds3231). outcome k c d ∷ outcomes in_eight_bits d ks) (held (chip_after k c) f)
    ∙ ap (λ (l : List Outcome). outcome k c (chip_after k c) ∷ l) (outcomes_same ks (chip_after k c) f)

nothing_lost : (c : Ds3231) → Fits c → NothingLost c
nothing_lost c h =
    record {
      no_value = λ calls. held (chip_after_all c calls) (fits_run calls c h);
      as_before = λ calls. ap (λ (d : Ds3231). outcomes in_eight_bits d calls) (held c h) ∙ outcomes_same calls c h;
    }

-- ---- the claim

sound_claim : (c : Ds3231) → sound c ≡ true → NeverAbove6 c × NothingLost c
sound_claim c e = (never_above_6 c e, nothing_lost c (omega (arith, at_most_6 c e)))

pub eight_bits : EightBits
eight_bits = record { sound_chip = sound_claim; from_power_on = λ f c₀ e. sound_claim c₀ (power_on_sound f c₀ e); any_chip = nothing_lost }
