-- Power-on gives a sound chip, and every call keeps a sound chip sound.
-- Assumes nothing.
use Prim.Native.Nat.{ℕ, ◌≤◌, ◌<◌}
use mathlib.Core.Bool.{Bool, true, false}
use mathlib.Core.List.{List, [], ◌∷◌}
use mathlib.Core.Path.{◌≡◌, refl, sym, ap, subst, ◌∙◌}
use native.Mathlib.Omega.{arith}
use lib.Dec.{leb, eqb}
use lib.Bits.{bit_and}
use Rattle.refusals.specs.Numbered.{Numbered, accepted, refused, unless}
use Rattle.std.specs.Prelude.{if◌then◌else◌, Option, Some, None}
use Rattle.computed.proofs.Choice.{chosen}
use Rattle.calendar.proofs.Laws.{time_in_range, seconds_below, nearest_in_range}
use Rattle.fields.specs.Table.{Meaning, meaning}
use Rattle.diagnostics.proofs.Counts.{counted_all_in}
use Rattle.ds3231.specs.Numbers.{range}
use Rattle.ds3231.specs.Clock.{seconds_at}
use Rattle.ds3231.specs.Timing.{is_defined, opened, found, committed_clock, noted, pointed_by, commit, accept}
use Rattle.ds3231.specs.Map.{number_of, named}
use Rattle.ds3231.specs.Registers.{registers_written}
use Rattle.ds3231.specs.Calls.{in_quarters, in_conversion_times, sound, chip_on, Step, written, has_read, step, step_chip, Call, bus, taking, chip_by, verdict, chip_after}
use Rattle.ds3231.specs.Total.{chip_after_all}
use Rattle.ds3231.specs.Types.{PendingTime, Register}
use Rattle.ds3231.specs.declared.Clock.{Clock}
use Rattle.ds3231.specs.declared.Phase.{Phase}
use Rattle.ds3231.specs.declared.Phase.TheVariants.{Released, Pointer, Writing, Reading, Ignoring}
use Rattle.ds3231.specs.declared.Timing.{Timing}
use Rattle.ds3231.specs.declared.Registers.{Registers}
use Rattle.ds3231.specs.declared.Ds3231.{Ds3231}
use Rattle.ds3231.specs.declared.Event.{Event}
use Rattle.ds3231.specs.declared.Event.TheVariants.{Start, Write, Read, Stop}
use Rattle.ds3231.specs.declared.Ds3231Config.{Ds3231Config}
use Rattle.ds3231.proofs.Written.{left}
use Rattle.ds3231.proofs.Masks.{control_clear, status_within}
use Rattle.ds3231.proofs.Facts.{PendingIn, HasPending, TimingIn, RegistersIn, ConfigIn, Sound, sound_test, sound_fact}
use Rattle.ds3231.proofs.Weekdays.{InWeek, not_set, opened_weekday}
use Rattle.ds3231.proofs.Bytes.{MeaningIn, meaning_in, noted_in, offset_in, seconds_in, weekday_shown, time_in}

opened_in : (k : Clock) (t : ℕ) → PendingIn (opened k t)
opened_in k t =
    let w = subst InWeek (sym (opened_weekday k t)) (weekday_shown k t) in
    record { time = time_in _ (time_in_range (seconds_at k t) (seconds_in k t)); week_from = w.0; week_to = w.1 }

-- ---- the timing's steps

commit_in : (c : Timing) → TimingIn c → TimingIn (commit c)
commit_in c h =
    let k = by c.pending in
    record { base = k.0; offset = k.1; pending = tt }
  where
    by : (q : Option PendingTime) → ((committed_clock q c.pending_at c.clock).base_seconds < range) × ((committed_clock q c.pending_at c.clock).weekday_offset ≤ 6)
    by (Some p) = (seconds_below _ (nearest_in_range p.time), offset_in _ _)
    by None = subst (λ (k : Clock). (k.base_seconds < range) × (k.weekday_offset ≤ 6)) (sym (not_set c.pending_at c.clock)) (h.base, h.offset)

accept_in : (m : Meaning) → MeaningIn m → (t : ℕ) (c : Timing) → TimingIn c → TimingIn (accept m t c)
accept_in m i t c h =
    record { base = h.base; offset = h.offset; pending = by (is_defined m) }
  where
    found_in : (q : Option PendingTime) → HasPending q → PendingIn (found q c.clock t)
    found_in (Some p) f = f
    found_in None f = opened_in c.clock t

    by : (d : Bool) → HasPending (if d then Some (noted m (found c.pending c.clock t)) else c.pending)
    by true = noted_in m i _ (found_in c.pending h.pending)
    by false = h.pending

-- ---- the other registers

others_in : (r b t : ℕ) (g : Registers) → RegistersIn g → RegistersIn (registers_written r b t g)
others_in r b t g h =
    let l = left r b t g in
    record {
      quarters = ap in_quarters l.quarters ∙ h.quarters;
      control = subst (λ (x : ℕ). bit_and x 0x20 ≡ 0) (sym l.control) (chosen (λ (x : ℕ). bit_and x 0x20 ≡ 0) (eqb r 0x0E) (λ e. control_clear b) (λ e. h.control));
      status = subst (λ (x : ℕ). bit_and x 0x8B ≡ x) (sym l.status) (chosen (λ (x : ℕ). bit_and x 0x8B ≡ x) (eqb r 0x0F) (λ e. status_within (bit_and g.status b) b) (λ e. h.status));
      conversion = ap in_conversion_times l.time ∙ h.conversion;
    }

-- ---- the events

-- timing and registers of a step
abbrev StepIn : Step → Type 0
StepIn s = TimingIn s.timing × RegistersIn s.registers

write_in_lem : (p : Phase) (b t : ℕ) (c : Ds3231) → Sound c → StepIn (written p b t c)
write_in_lem Released b t c h = (h.timing, h.registers)
write_in_lem Reading b t c h = (h.timing, h.registers)
write_in_lem Ignoring b t c h = (h.timing, h.registers)
write_in_lem Pointer b t c h = (by (named b), h.registers)
  where
    by : (d : Option Register) → TimingIn (pointed_by d c.timing)
    by (Some r) = let w = h.timing in record { base = w.base; offset = w.offset; pending = w.pending }
    by None = let w = h.timing in record { base = w.base; offset = w.offset; pending = w.pending }
write_in_lem Writing b t c h =
    let r = number_of c.timing.pointer in
    let k = accept_in (meaning r b) (meaning_in r b) t c.timing h.timing in
    (record { base = k.base; offset = k.offset; pending = k.pending }, others_in r b t c.registers h.registers)

read_in_lem : (p : Phase) (t : ℕ) (c : Ds3231) → Sound c → StepIn (has_read p t c)
read_in_lem Released t c h = (h.timing, h.registers)
read_in_lem Pointer t c h = (h.timing, h.registers)
read_in_lem Writing t c h = (h.timing, h.registers)
read_in_lem Ignoring t c h = (h.timing, h.registers)
read_in_lem Reading t c h =
    let w = h.timing in (
      chosen TimingIn (leb 0x12 (number_of c.timing.pointer)) (λ e. record { base = w.base; offset = w.offset; pending = w.pending })
          (λ e. record { base = w.base; offset = w.offset; pending = w.pending }),
      h.registers,
    )

-- ---- every call keeps a sound chip sound

step_in : (e : Event) (c : Ds3231) → Sound c → StepIn (step e c)
step_in (Start a r t) c h =
    let k = commit_in c.timing h.timing in
    (record { base = k.base; offset = k.offset; pending = k.pending }, h.registers)
step_in (Write b t) c h = write_in_lem c.timing.phase b t c h
step_in (Read k t) c h = read_in_lem c.timing.phase t c h
step_in (Stop t) c h =
    let k = commit_in c.timing h.timing in
    (record { base = k.base; offset = k.offset; pending = k.pending }, h.registers)

pub call_sound : (k : Call) (c : Ds3231) → Sound c → Sound (chip_by k c)
call_sound (bus s e) c h =
    let i = step_in e c h in
    record { timing = i.0; registers = i.1; waiting = counted_all_in (step e c).reports c.diagnostics h.waiting }
call_sound (taking s o) c h = record { timing = h.timing; registers = h.registers; waiting = omega arith }

pub step_sound : (e : Event) (c : Ds3231) → sound c ≡ true → sound (step_chip (step e c) c) ≡ true
step_sound e c h = sound_test (step_chip (step e c) c) (call_sound (bus [] e) c (sound_fact c h))

-- refused or not
pub after_sound : (v : Numbered (Unit {0})) (k : Call) (c : Ds3231) → Sound c → Sound (unless v (chip_by k c) c)
after_sound (accepted u) k c h = call_sound k c h
after_sound (refused n vs) k c h = h

pub sound_kept : (k : Call) (c : Ds3231) → sound c ≡ true → sound (chip_after k c) ≡ true
sound_kept k c e = sound_test _ (after_sound (verdict k c) k c (sound_fact c e))

pub sound_run : (ks : List Call) (c : Ds3231) → sound c ≡ true → sound (chip_after_all c ks) ≡ true
sound_run [] c e = e
sound_run (k ∷ ks) c e = sound_run ks (chip_after k c) (sound_kept k c e)

-- ---- power-on gives a sound chip

pub time_taken : (f : Ds3231Config) → (chip_on f).registers.conversion_nanos ≡ f.conversion_nanos
time_taken f = refl

pub on_sound : (f : Ds3231Config) → ConfigIn f → Sound (chip_on f)
on_sound f h =
    record {
      timing = record { base = seconds_below f.start h.start; offset = offset_in _ _; pending = tt };
      registers = record { quarters = h.quarters; control = refl; status = chosen (λ x. bit_and x 0x8B ≡ x) f.oscillator_stopped (λ e. refl) (λ e. refl); conversion = ap in_conversion_times (time_taken f) ∙ h.conversion };
      waiting = omega arith;
    }
