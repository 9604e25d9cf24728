-- Order 7 of document 02: the weekday register counts midnights since it was last set, over the end of 2199 too, and so does the model of the exact time. `weekday_at` of Clock.antt and `exact_weekday` of Model.antt say how; here is what is claimed of them, `CountsMidnights`. Assumes nothing.
use Rattle.computed.specs.Prelude.{ℕ, Bool, true, false, List, eqb, At}
use Rattle.std.specs.Prelude.{◌+◌, ◌*◌, ◌-◌, ◌/◌, ◌%◌, ◌≤◌, ◌<◌, ◌&&◌, ◌∷◌, ◌≡◌, if◌then◌else◌, Option, Some, None}
use Rattle.refusals.specs.Numbered.{Numbered, accepted, is_accepted}
use Rattle.calendar.specs.Stated.{date_time, weekday_of, nearest, next_weekday}
use Rattle.calendar.specs.declared.DateTime.{DateTime}
use Rattle.diagnostics.specs.declared.I2cDiagnostic.{I2cDiagnostic}
use Rattle.fields.specs.Table.{meaning}
use Rattle.ds3231.specs.Numbers.{nanos, range, day}
use Rattle.ds3231.specs.Map.{number_of}
use Rattle.ds3231.specs.Timing.{is_defined}
use Rattle.ds3231.specs.Calls.{sound, power_on, now_answer, register_answer, Call, bus, taking, verdict, chip_after}
use Rattle.ds3231.specs.Model.{Accepted, Model, exact, whole_second, weekday_for, exact_weekday, exact_bytes, weekday_by, never, last_seconds, holds_at, closed_by}
use Rattle.ds3231.specs.Exact.{events, NeverFall, last_instant, after}
use Rattle.ds3231.specs.Types.{PendingTime, Timing, Ds3231, Ds3231Config, Phase, Released, Pointer, Writing, Reading, Ignoring, Start, Write, Read, Stop}

-- ---- a second on

-- a time at which a day begins
abbrev pub at_midnight : DateTime → Bool
at_midnight d = eqb d.hour 0 && eqb d.minute 0 && eqb d.second 0

-- the weekday at the time d, from the weekday w of the second before
abbrev pub a_second_on : DateTime → (w : ℕ) → ℕ
a_second_on d w = if at_midnight d then next_weekday w else w

-- ---- when it is set

-- START and STOP end the transaction under way
abbrev pub ends : Call → Bool
ends (bus s (Start a r t)) = true
ends (bus s (Write b t)) = false
ends (bus s (Read k t)) = false
ends (bus s (Stop t)) = true
ends (taking s o) = false

abbrev pub is_pending : Option PendingTime → Bool
is_pending (Some p) = true
is_pending None = false

-- a call that sets the clock: not refused, and it ends a transaction with an accepted time byte
abbrev pub sets_clock : Call → Ds3231 → Bool
sets_clock k c = is_accepted (verdict k c) && (ends k && is_pending c.timing.pending)

-- addressed for writing, with the pointer written
abbrev pub in_writing : Phase → Bool
in_writing Released = false
in_writing Pointer = false
in_writing Writing = true
in_writing Reading = false
in_writing Ignoring = false

-- a byte that goes to 0x00 to 0x06 and is not undefined
abbrev pub writes_time : Call → Timing → Bool
writes_time (bus s (Start a r t)) c = false
writes_time (bus s (Write b t)) c = in_writing c.phase && is_defined (meaning (number_of c.pointer) b)
writes_time (bus s (Read k t)) c = false
writes_time (bus s (Stop t)) c = false
writes_time (taking s o) c = false

-- a call by which such a byte is accepted: it is not refused
abbrev pub accepts : Call → Ds3231 → Bool
accepts k c = is_accepted (verdict k c) && writes_time k c.timing

-- ---- what is claimed of a sound chip c

-- what `register` answers of the weekday
abbrev pub weekday_answer : Ds3231 → ℕ → Numbered ℕ
weekday_answer c t = register_answer c 0x03 t

-- the weekday that an accepted byte at t finds: that of the pending time, or without one what `register` answers
abbrev pub Finds : Option PendingTime → Ds3231 → (t w : ℕ) → Type 0
Finds (Some p) c t w = p.weekday ≡ w
Finds None c t w = weekday_answer c t ≡ accepted w

abbrev pub Pends : Ds3231 → (w : ℕ) → Type 0
Pends c w = (p : PendingTime) × (c.timing.pending ≡ Some p) × (p.weekday ≡ w)

-- the chip after the clock was set to the pending time p, a second of it beginning at b
pub record IsSet (c : Ds3231) (p : PendingTime) (b : ℕ) : Type 0 where
  pub from : c.timing.clock.base_at ≡ b
  pub date : now_answer c b ≡ accepted (nearest p.time)
  pub weekday : weekday_answer c b ≡ accepted p.weekday
  pub no_more : c.timing.pending ≡ None

pub record Counts (c : Ds3231) : Type 0 where
  -- 'steps at midnight': a second on it is the next weekday where `now` shows a midnight, and else the same
  pub steps : (t : ℕ) (d : DateTime) (w : ℕ) → c.timing.clock.base_at ≤ t → now_answer c (t + nanos) ≡ accepted d → weekday_answer c t ≡ accepted w
      → weekday_answer c (t + nanos) ≡ accepted (a_second_on d w)
  -- 'so it must go to 3': 2199-12-31T23:59:59 is followed by 2000-01-01T00:00:00, with the next weekday
  pub into_2000 : (t w : ℕ) → c.timing.clock.base_at ≤ t → now_answer c t ≡ accepted (date_time 2199 12 31 23 59 59) → weekday_answer c t ≡ accepted w
      → (now_answer c (t + nanos) ≡ accepted (date_time 2000 1 1 0 0 0)) × (weekday_answer c (t + nanos) ≡ accepted (next_weekday w))
  -- within a second of the clock it is the same
  pub same_second : (t u : ℕ) → (t - c.timing.clock.base_at) / nanos ≡ (u - c.timing.clock.base_at) / nanos → weekday_answer c t ≡ weekday_answer c u
  -- 'Acknowledgements': instants may fall, and below the base no time has passed
  pub below : (t : ℕ) → t ≤ c.timing.clock.base_at → (now_answer c t ≡ now_answer c c.timing.clock.base_at) × (weekday_answer c t ≡ weekday_answer c c.timing.clock.base_at)
  -- while the end of 2199 has not been passed since the clock was set: 'Register bytes': (days since 2000 + offset) mod 7 + 1
  pub formula : (t : ℕ) → let s = c.timing.clock.base_seconds + (t - c.timing.clock.base_at) / nanos in s < range → weekday_answer c t ≡ accepted ((s / day + c.timing.clock.weekday_offset) % 7 + 1)
  -- 'last set': by the end of a transaction with an accepted time byte, to the pending time and weekday
  pub is_set : (k : Call) (p : PendingTime) → sets_clock k c ≡ true → c.timing.pending ≡ Some p → IsSet (chip_after k c) p c.timing.pending_at
  -- and by no other call
  pub is_kept : (k : Call) → sets_clock k c ≡ false → (chip_after k c).timing.clock ≡ c.timing.clock
  -- the pending weekday: what `register` answers at the first accepted byte, until a weekday byte is accepted, 01 to 07
  pub carried : (s : List I2cDiagnostic) (b t w : ℕ) → accepts (bus s (Write b t)) c ≡ true → Finds c.timing.pending c t w
      → Pends (chip_after (bus s (Write b t)) c) (if eqb (number_of c.timing.pointer) 0x03 then b else w)
  -- a second of the pending time begins at the last seconds byte, or without one where the clock's began at the first accepted byte
  pub begins : (s : List I2cDiagnostic) (b t : ℕ) → accepts (bus s (Write b t)) c ≡ true
      → (chip_after (bus s (Write b t)) c).timing.pending_at
      ≡ (if eqb (number_of c.timing.pointer) 0x00 then t else if is_pending c.timing.pending then c.timing.pending_at else t - (t - c.timing.clock.base_at) % nanos)
  -- no other call changes the pending time
  pub pending_kept : (k : Call) → sets_clock k c ≡ false → accepts k c ≡ false
      → ((chip_after k c).timing.pending ≡ c.timing.pending) × ((chip_after k c).timing.pending_at ≡ c.timing.pending_at)

-- ---- what is claimed of the model

pub record ModelCounts (m : Model) : Type 0 where
  -- a nanosecond on
  pub model_steps : (t : ℕ) → m.since ≤ t → exact_weekday m (t + 1) ≡ (if eqb (exact m (t + 1) % (day * nanos)) 0 then next_weekday (exact_weekday m t) else exact_weekday m t)
  pub model_formula : (t : ℕ) → m.count + (t - m.since) < range * nanos → exact_weekday m t ≡ weekday_for (whole_second m t / day) m.offset
  -- a transaction with accepted bytes sets it, where the date that they make holds, to the last weekday byte, or without one to the weekday at the first accepted byte
  pub model_sets : (a : Accepted) (l : List Accepted) → exact_weekday (closed_by (a ∷ l) m) (holds_at (last_seconds (a ∷ l) never) a.at) ≡ weekday_by (a ∷ l) (exact_weekday m a.at)

-- after calls on the chip c₀ of a power-on f: the registers 0x00 to 0x06 are the model's bytes at every instant from the last event on
abbrev pub ShowsModel : Ds3231Config → Ds3231 → List Call → Type 0
ShowsModel f c₀ calls =
    (t n : ℕ) → last_instant 0 (events c₀ calls) ≤ t → n ≤ 0x06 → let w = after f c₀ calls in (b : ℕ) × (register_answer w.chip n t ≡ accepted b) × At (exact_bytes w.model t) n b

-- ---- the claim

pub record CountsMidnights : Type 0 where
  pub counts : (c : Ds3231) → sound c ≡ true → Counts c
  -- 'last set': by power-on, at instant 0, to the weekday of its date
  pub powers_on : (f : Ds3231Config) (c₀ : Ds3231) → power_on f ≡ accepted c₀ → (c₀.timing.clock.base_at ≡ 0) × (weekday_answer c₀ 0 ≡ accepted (weekday_of f.start)) × (c₀.timing.pending ≡ None)
  -- 'and so does the model of demand 3'
  pub model_counts : (m : Model) → ModelCounts m
  pub shows_model : (f : Ds3231Config) (c₀ : Ds3231) → power_on f ≡ accepted c₀ → (calls : List Call) → NeverFall 0 (events c₀ calls) → ShowsModel f c₀ calls
