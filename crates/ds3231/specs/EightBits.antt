-- Order 13 of document 02: the weekday offset in eight bits. It never exceeds 6, so that eight bits hold it, and bus events and takings answer and leave the same with the offset in eight bits as with one of any width. That it has eight bits is the field `weekday_offset: u8` of src/lib.rt; a definition's number has any size. Assumes nothing.
use Rattle.computed.specs.Prelude.{ℕ, true, List, [], leb}
use Rattle.std.specs.Prelude.{◌%◌, ◌^◌, ◌≤◌, ◌<◌, ◌∷◌, ◌≡◌}
use Rattle.refusals.specs.Numbered.{Numbered, accepted}
use Rattle.diagnostics.specs.declared.I2cDiagnostic.{I2cDiagnostic}
use Rattle.ds3231.specs.Calls.{sound, power_on, Answered, Call, chip_after, store_after, out_after, answer}
use Rattle.ds3231.specs.Total.{chip_after_all}
use Rattle.ds3231.specs.Types.{Ds3231, Ds3231Config}

-- the chip c with the weekday offset n, all else the same
abbrev pub with_offset : ℕ → Ds3231 → Ds3231
with_offset n c = record {
  timing = let w = c.timing in record {
    phase = w.phase;
    pointer = w.pointer;
    clock = record { base_seconds = w.clock.base_seconds; base_at = w.clock.base_at; weekday_offset = n };
    twelve_hour = w.twelve_hour;
    latched = w.latched;
    pending = w.pending;
    pending_at = w.pending_at;
  };
  registers = c.registers;
  diagnostics = c.diagnostics;
}

-- the chip of whose weekday offset the low eight bits are kept
abbrev pub in_eight_bits : Ds3231 → Ds3231
in_eight_bits c = with_offset (c.timing.clock.weekday_offset % 2 ^ 8) c

-- the chip of whose weekday offset all is kept, whatever its width
abbrev pub of_any_width : Ds3231 → Ds3231
of_any_width c = c

-- what a call answers; the chip that a host keeps after it; the store after it, and the records that a taking copies into, none for a bus event
pub record Outcome : Type 0 where
  pub answered : Numbered Answered
  pub chip : Ds3231
  pub store : List I2cDiagnostic
  pub out : List I2cDiagnostic

-- of a call on the chip c, after which the host keeps `kept`
abbrev pub outcome : Call → Ds3231 → (kept : Ds3231) → Outcome
outcome k c kept = record { answered = answer k c; chip = kept; store = store_after k c; out = out_after k c }

-- the outcomes of calls in turn, the first on the chip c. After each call the host keeps `keep` of the chip, and lends this to the next
abbrev pub outcomes : (keep : Ds3231 → Ds3231) → Ds3231 → List Call → List Outcome
outcomes keep c [] = []
outcomes keep c (k ∷ ks) =
    let kept = keep (chip_after k c) in
    outcome k c kept ∷ outcomes keep kept ks

-- ---- what is claimed of a chip c

pub record NeverAbove6 (c : Ds3231) : Type 0 where
  -- 'never exceeds 6': whatever is called, and so after each call of a list
  pub never_above : (calls : List Call) → (chip_after_all c calls).timing.clock.weekday_offset ≤ 6
  -- 'the soundness rule for it keeps its bound': with another offset the chip is sound exactly where that is at most 6
  pub bound : (n : ℕ) → sound (with_offset n c) ≡ leb n 6

pub record NothingLost (c : Ds3231) : Type 0 where
  -- 'no value is lost': with the low eight bits of its offset the chip is the same, and so is what `now`, `register` and the dropped count answer
  pub no_value : (calls : List Call) → in_eight_bits (chip_after_all c calls) ≡ chip_after_all c calls
  -- 'every bus answer is as before': eight bits of the first chip's offset, and of the offset after each call, change no answer, chip, store or output
  pub as_before : (calls : List Call) → outcomes in_eight_bits (in_eight_bits c) calls ≡ outcomes of_any_width c calls

pub record EightBits : Type 0 where
  pub sound_chip : (c : Ds3231) → sound c ≡ true → NeverAbove6 c × NothingLost c
  pub from_power_on : (f : Ds3231Config) (c₀ : Ds3231) → power_on f ≡ accepted c₀ → NeverAbove6 c₀ × NothingLost c₀
  -- any chip whose offset eight bits hold, sound or not. An offset of 256 is not sound, and its low eight bits, 0, are
  pub any_chip : (c : Ds3231) → c.timing.clock.weekday_offset < 2 ^ 8 → NothingLost c
