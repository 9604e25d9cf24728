-- The calls on one chip: what each answers and leaves, in document 01's numbers. Assumes nothing.
use Rattle.computed.specs.Prelude.{ℕ, Bool, true, false, not, List, [], leb, ltb, eqb, bit_and, length, take, drop, replicate, ℤ, pos, negsuc, le_z}
use Rattle.std.specs.Prelude.{◌&&◌, ◌∷◌, ◌++◌, if◌then◌else◌, Option, Some, None}
use Rattle.refusals.specs.Numbered.{Numbered, accepted, refused, is_accepted, and_then, unless}
use Rattle.calendar.specs.Stated.{date_time, checked, with_day, weekday_of, month_length}
use Rattle.calendar.specs.declared.DateTime.{DateTime}
use Rattle.fields.specs.Bytes.{to_digits}
use Rattle.fields.specs.Table.{meaning}
use Rattle.diagnostics.specs.Reports.{report, counted_all, stored_all}
use Rattle.diagnostics.specs.declared.I2cDiagnostic.{I2cDiagnostic}
use Rattle.diagnostics.specs.declared.I2cDiagnosticKind.TheVariants.{NotModelled, ReadOnly, NoSuchRegister, Undefined}
use Rattle.ds3231.specs.Numbers.{range}
use Rattle.ds3231.specs.Map.{number_of, named}
use Rattle.ds3231.specs.Clock.{time_at, clock_set}
use Rattle.ds3231.specs.Timing.{is_defined, shown_at, latch, in_phase, pointed, pointed_by, commit, accept, phase_for}
use Rattle.ds3231.specs.Changed.{next_pointer}
use Rattle.ds3231.specs.Registers.{byte_at, enables_output, registers_written}
use Rattle.ds3231.specs.Types.{Clock, PendingTime, Seconds, Phase, Released, Pointer, Writing, Reading, Ignoring, Timing, Registers, Ds3231, Ds3231Config, Event, Start, Write, Read, Stop, Reply, Acknowledge, Byte, Done, Register}

-- ---- sound

-- 'The table of refusals': a pending time is valid apart from its day, which is 1 to 31, and its weekday 1 to 7
unfoldable pub sound_time : DateTime → Bool
sound_time t = is_accepted (checked (with_day 1 t)) && leb 1 t.day && leb t.day 31

unfoldable pub sound_pending : PendingTime → Bool
sound_pending p = sound_time p.time && leb 1 p.weekday && leb p.weekday 7

-- a pending time, if there is one
abbrev pub sound_if_pending : Option PendingTime → Bool
sound_if_pending (Some p) = sound_pending p
sound_if_pending None = true

-- 'The table of refusals': base seconds in range, offset at most 6, a pending time; the pointer is at most 0x12 by its type (`number_below` of proofs/Map.antt)
unfoldable pub sound_timing : Timing → Bool
sound_timing c =
    ltb c.clock.base_seconds range && leb c.clock.weekday_offset 6 && sound_if_pending c.pending

-- 'Register bytes': the quarters of a degree run from −512 to 511
unfoldable pub in_quarters : ℤ → Bool
in_quarters q = le_z (negsuc 511) q && le_z q (pos 511)

-- Order 2 of document 02: a conversion time is 125,000,000 to 200,000,000 nanoseconds, both ends legal
unfoldable pub in_conversion_times : ℕ → Bool
in_conversion_times n = leb 125_000_000 n && leb n 200_000_000

-- 'The table of refusals': quarters in range, control bit 5 clear, status within 0x8B. Order 2 of document 02: and the conversion time in range
unfoldable pub sound_registers : Registers → Bool
sound_registers g =
    in_quarters g.temperature_quarters && eqb (bit_and g.control 0x20) 0 && eqb (bit_and g.status 0x8B) g.status
    && in_conversion_times g.conversion_nanos

-- 'The table of refusals': and at most 256 waiting
unfoldable pub sound : Ds3231 → Bool
sound c = sound_timing c.timing && sound_registers c.registers && leb c.diagnostics.waiting 256

-- ---- power-on

-- 'Register bytes': power-on has pointer 0 and 24-hour mode; 'Shown time and exact time': the configured seconds at instant 0, where the time is latched; the weekday offset is 5 (`power_on_offset` of proofs/ExactTime.antt). Document 01 leaves free what `pending_at` holds: no call shows it
abbrev pub timing_from : Clock → Timing
timing_from k = latch 0 (record { phase = Released; pointer = Seconds; clock = k; twelve_hour = false; latched = []; pending = None; pending_at = 0 })

abbrev pub timing_on : Ds3231Config → Timing
timing_on f = timing_from (clock_set f.start (weekday_of f.start) 0)

-- 'Register bytes': control 0x1C, status 0x08, or 0x88 where the oscillator had stopped; alarms and aging 0. Order 2 of document 02: power-on takes the conversion time, and the chip keeps it
abbrev pub registers_on : Ds3231Config → Registers
registers_on f = record {
  alarms = replicate 7 0;
  control = 0x1C;
  status = if f.oscillator_stopped then 0x88 else 0x08;
  conversion_end = None;
  conversion_nanos = f.conversion_nanos;
  aging = 0;
  temperature_quarters = f.temperature_quarters;
  int_sqw_reported = false;
}

abbrev pub chip_on : Ds3231Config → Ds3231
chip_on f = record { timing = timing_on f; registers = registers_on f; diagnostics = record { waiting = 0; dropped = 0 } }

-- 'Script answers': power-on (2026-01-01T00:00:00, oscillator not stopped, 100 quarters). Order 2 of document 02: `clockrun` and the host's run keep 200,000,000
abbrev pub default_config : Ds3231Config
default_config = record { start = date_time 2026 1 1 0 0 0; oscillator_stopped = false; temperature_quarters = pos 100; conversion_nanos = 200_000_000 }

-- 'The table of refusals': 7, quarters outside −512 to 511
unfoldable pub checked_quarters : ℤ → Numbered (Unit {0})
checked_quarters q = if in_quarters q then accepted tt else refused 7 (q ∷ [])

-- Order 2 of document 02: 22, a time outside 125,000,000 to 200,000,000, with no values
unfoldable pub checked_conversion_time : ℕ → Numbered (Unit {0})
checked_conversion_time n = if in_conversion_times n then accepted tt else refused 22 []

-- 'The table of refusals': power-on 1 to 7. Order 2 of document 02: 22 after 7
abbrev pub power_on : Ds3231Config → Numbered Ds3231
power_on f =
    and_then (checked f.start) (and_then (checked_quarters f.temperature_quarters) (and_then (checked_conversion_time f.conversion_nanos) (accepted (chip_on f))))

-- ---- the calls that ask

-- 'The table of refusals': 10, chip not sound
abbrev pub checked_chip : Ds3231 → Numbered (Unit {0})
checked_chip c = if sound c then accepted tt else refused 10 []

-- the time that `now` shows
abbrev pub shown_time : Ds3231 → ℕ → DateTime
shown_time c t = time_at c.timing.clock t

-- 'The table of refusals': `now` and the dropped count 10
abbrev pub now_answer : Ds3231 → ℕ → Numbered DateTime
now_answer c t = and_then (checked_chip c) (accepted (shown_time c t))

abbrev pub dropped_answer : Ds3231 → Numbered ℕ
dropped_answer c = and_then (checked_chip c) (accepted c.diagnostics.dropped)

-- 'Register bytes': `register` uses the live time; 'The table of refusals': 9, `register` above 0x12
abbrev pub register_byte : Option Register → Ds3231 → ℕ → Numbered ℕ
register_byte (Some r) c t = accepted (byte_at (shown_at c.timing t) c.registers r t)
register_byte None c t = refused 9 []

-- 'The table of refusals': `register` 10, 9
abbrev pub register_answer : Ds3231 → ℕ → ℕ → Numbered ℕ
register_answer c n t = and_then (checked_chip c) (register_byte (named n) c t)

-- ---- the bus events

-- what an event makes of timing and registers, the reports that it makes, and its reply
pub record Step : Type 0 where
  pub timing : Timing
  pub registers : Registers
  pub reports : List I2cDiagnostic
  pub reply : Reply

-- 'Diagnostics': UNDEFINED, at commit 0x04 and the day as digits
abbrev pub commit_reports : ℕ → Option PendingTime → List I2cDiagnostic
commit_reports t (Some p) =
    if ltb (month_length p.time.year p.time.month) p.time.day
    then report t (Undefined 0x04 (to_digits p.time.day)) ∷ []
    else []
commit_reports t None = []

-- 'Diagnostics': NOREGISTER (pointer byte)
abbrev pub pointer_reports : Option Register → ℕ → ℕ → List I2cDiagnostic
pointer_reports (Some r) b t = []
pointer_reports None b t = report t (NoSuchRegister b) ∷ []

-- 'Diagnostics': UNDEFINED (register, byte), NOTMODELLED (control byte) once per power-on, READONLY (0x11, 0x12); r is a register's number, at most 0x12
abbrev pub register_reports : ℕ → ℕ → ℕ → Registers → List I2cDiagnostic
register_reports r b t g =
    if leb r 0x06 then (if is_defined (meaning r b) then [] else report t (Undefined r b) ∷ [])
    else if eqb r 0x0E && enables_output b && not g.int_sqw_reported then report t (NotModelled b) ∷ []
    else if leb 0x11 r then report t (ReadOnly r) ∷ []
    else []

-- 'Script answers': START and WRITE 1 or 0, READ the byte, STOP 0
abbrev pub reply_byte : Reply → ℕ
reply_byte (Acknowledge b) = if b then 1 else 0
reply_byte (Byte b) = b
reply_byte Done = 0

-- an event that changes and reports nothing
abbrev pub replied_only : Reply → Ds3231 → Step
replied_only y c = record { timing = c.timing; registers = c.registers; reports = []; reply = y }

-- 'Acknowledgements': START commits, latches, then acknowledges only address 0x68
abbrev pub started : ℕ → Bool → ℕ → Ds3231 → Step
started a r t c = record {
  timing = in_phase (phase_for a r) (latch t (commit c.timing));
  registers = c.registers;
  reports = commit_reports t c.timing.pending;
  reply = Acknowledge (eqb a 0x68);
}

-- 'Acknowledgements': the first written byte is the pointer; above 0x12 it is acknowledged, reported, and the following bytes are acknowledged and dropped. Later bytes are all acknowledged and go to the register, and the pointer goes up by one. A write while not addressed for writing is not acknowledged and changes nothing
abbrev pub written : Phase → ℕ → ℕ → Ds3231 → Step
written Released b t c = replied_only (Acknowledge false) c
written Reading b t c = replied_only (Acknowledge false) c
written Ignoring b t c = replied_only (Acknowledge true) c
written Pointer b t c = record {
  timing = pointed_by (named b) c.timing;
  registers = c.registers;
  reports = pointer_reports (named b) b t;
  reply = Acknowledge true;
}
written Writing b t c = record {
  timing = pointed (next_pointer c.timing.pointer) (accept (meaning (number_of c.timing.pointer) b) t c.timing);
  registers = registers_written (number_of c.timing.pointer) b t c.registers;
  reports = register_reports (number_of c.timing.pointer) b t c.registers;
  reply = Acknowledge true;
}

-- 'Acknowledgements': a read while not addressed for reading gives 0xFF and moves nothing. 'Register bytes': bus reads of time use the latch, which is made anew when a read moves the pointer past 0x12 to 0
abbrev pub has_read : Phase → ℕ → Ds3231 → Step
has_read Released t c = replied_only (Byte 0xFF) c
has_read Pointer t c = replied_only (Byte 0xFF) c
has_read Writing t c = replied_only (Byte 0xFF) c
has_read Ignoring t c = replied_only (Byte 0xFF) c
has_read Reading t c = record {
  timing = let moved = pointed (next_pointer c.timing.pointer) c.timing in if leb 0x12 (number_of c.timing.pointer) then latch t moved else moved;
  registers = c.registers;
  reports = [];
  reply = Byte (byte_at c.timing.latched c.registers c.timing.pointer t);
}

-- 'Shown time and exact time': STOP closes the transaction; nothing is addressed
abbrev pub stopped : ℕ → Ds3231 → Step
stopped t c = record {
  timing = in_phase Released (commit c.timing);
  registers = c.registers;
  reports = commit_reports t c.timing.pending;
  reply = Done;
}

abbrev pub step : Event → Ds3231 → Step
step (Start a r t) c = started a r t c
step (Write b t) c = written c.timing.phase b t c
step (Read k t) c = has_read c.timing.phase t c
step (Stop t) c = stopped t c

abbrev pub step_chip : Step → Ds3231 → Ds3231
step_chip s c = record { timing = s.timing; registers = s.registers; diagnostics = counted_all s.reports c.diagnostics }

-- ---- the calls that change the chip, each with the store that it is lent, and taking with its output

-- what a call answers that is not refused: an event its reply, taking how many records it copied
pub data Answered : Type 0 where
  replied : Reply → Answered
  copied : ℕ → Answered

pub data Call : Type 0 where
  bus : (store : List I2cDiagnostic) → Event → Call
  taking : (store out : List I2cDiagnostic) → Call

abbrev pub lent_store : Call → List I2cDiagnostic
lent_store (bus s e) = s
lent_store (taking s o) = s

-- 'The table of refusals': 12, taking into fewer records than wait
abbrev pub too_short : Call → Ds3231 → Bool
too_short (bus s e) c = false
too_short (taking s o) c = ltb (length o) c.diagnostics.waiting

-- 'The table of refusals': bus events 10, 11; taking 10, 11, 12
abbrev pub verdict : Call → Ds3231 → Numbered (Unit {0})
verdict k c =
    if not (sound c) then refused 10 []
    else if not (eqb (length (lent_store k)) 256) then refused 11 []
    else if too_short k c then refused 12 []
    else accepted tt

-- what a call that is not refused leaves and answers. 'Diagnostics': taking empties the store and lets it fill again; the dropped count stays
abbrev pub chip_by : Call → Ds3231 → Ds3231
chip_by (bus s e) c = step_chip (step e c) c
chip_by (taking s o) c = record { timing = c.timing; registers = c.registers; diagnostics = record { waiting = 0; dropped = c.diagnostics.dropped } }

abbrev pub store_by : Call → Ds3231 → List I2cDiagnostic
store_by (bus s e) c = stored_all (step e c).reports c.diagnostics s
store_by (taking s o) c = s

abbrev pub out_by : Call → Ds3231 → List I2cDiagnostic
out_by (bus s e) c = []
out_by (taking s o) c = take c.diagnostics.waiting s ++ drop c.diagnostics.waiting o

abbrev pub answered_by : Call → Ds3231 → Answered
answered_by (bus s e) c = replied (step e c).reply
answered_by (taking s o) c = copied c.diagnostics.waiting

-- the output that a call is lent
abbrev pub lent_out : Call → List I2cDiagnostic
lent_out (bus s e) = []
lent_out (taking s o) = o

-- 'The table of refusals': refusals change nothing. The chip, the store and the output after a call, and its answer
abbrev pub chip_after : Call → Ds3231 → Ds3231
chip_after k c = unless (verdict k c) (chip_by k c) c

abbrev pub store_after : Call → Ds3231 → List I2cDiagnostic
store_after k c = unless (verdict k c) (store_by k c) (lent_store k)

abbrev pub out_after : Call → Ds3231 → List I2cDiagnostic
out_after k c = unless (verdict k c) (out_by k c) (lent_out k)

abbrev pub answer : Call → Ds3231 → Numbered Answered
answer k c = and_then (verdict k c) (accepted (answered_by k c))
