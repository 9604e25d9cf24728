-- What the bus does to the part of the chip that keeps the time: accepted bytes, commit, latch, pointer and phase. Assumes nothing.
use Rattle.computed.specs.Prelude.{ℕ, Bool, true, false, List, eqb}
use Rattle.std.specs.Prelude.{if◌then◌else◌, Option, Some, None}
use Rattle.calendar.specs.Stated.{nearest}
use Rattle.fields.specs.Table.{Meaning, undefined, sets, time_bytes}
use Rattle.ds3231.specs.Changed.{changed_time, changed_weekday, changed_mode}
use Rattle.ds3231.specs.Clock.{time_at, weekday_at, second_start, clock_set}
use Rattle.ds3231.specs.Types.{Clock, PendingTime, Register, Phase, Released, Pointer, Writing, Reading, Ignoring, Timing}

-- ---- an accepted byte, by what it says

abbrev pub is_defined : Meaning → Bool
is_defined undefined = false
is_defined (sets r n flag) = true

-- whether it sets the seconds
abbrev pub sets_seconds : Meaning → Bool
sets_seconds undefined = false
sets_seconds (sets r n flag) = eqb r 0

-- ---- the pending time

-- 'Shown time and exact time': as the first accepted byte finds it, the clock's whole second there; 'Register bytes': and its weekday
abbrev pub opened : Clock → ℕ → PendingTime
opened k t = record { time = time_at k t; weekday = weekday_at k t }

-- the pending time that a byte at t finds
abbrev pub found : Option PendingTime → Clock → ℕ → PendingTime
found (Some p) k t = p
found None k t = opened k t

-- with one more byte
abbrev pub noted : Meaning → PendingTime → PendingTime
noted m p = record { time = changed_time m p.time; weekday = changed_weekday m p.weekday }

-- 'Shown time and exact time': a second of the pending time that a byte at t finds begins at b, or without one where the clock's does
abbrev pub found_at : Option PendingTime → (b : ℕ) → Clock → ℕ → ℕ
found_at (Some p) b k t = b
found_at None b k t = second_start k t

-- 'Shown time and exact time': the clock that it sets, a second beginning at t; a day past the month's end becomes its last day
abbrev pub clock_from : PendingTime → ℕ → Clock
clock_from p t = clock_set (nearest p.time) p.weekday t

-- the clock after the end of a transaction: a pending time sets it
abbrev pub committed_clock : Option PendingTime → ℕ → Clock → Clock
committed_clock (Some p) t k = clock_from p t
committed_clock None t k = k

-- ---- the steps

-- the seven time bytes at t, in the hour mode then held
abbrev pub shown_at : Timing → ℕ → List ℕ
shown_at c t = time_bytes (time_at c.clock t) (weekday_at c.clock t) c.twelve_hour

-- 'Register bytes': the latched time is seven bytes, copied together
abbrev pub latch : ℕ → Timing → Timing
latch t c = record { phase = c.phase; pointer = c.pointer; clock = c.clock; twelve_hour = c.twelve_hour; latched = shown_at c t; pending = c.pending; pending_at = c.pending_at }

abbrev pub in_phase : Phase → Timing → Timing
in_phase p c = record { phase = p; pointer = c.pointer; clock = c.clock; twelve_hour = c.twelve_hour; latched = c.latched; pending = c.pending; pending_at = c.pending_at }

abbrev pub pointed : Register → Timing → Timing
pointed r c = record { phase = c.phase; pointer = r; clock = c.clock; twelve_hour = c.twelve_hour; latched = c.latched; pending = c.pending; pending_at = c.pending_at }

-- 'Acknowledgements': the first written byte is the pointer; above 0x12 the following bytes are dropped, the pointer unmoved
abbrev pub pointed_by : Option Register → Timing → Timing
pointed_by (Some r) c = in_phase Writing (pointed r c)
pointed_by None c = in_phase Ignoring c

-- 'Shown time and exact time': the pending time is applied. What `pending_at` holds without one is left free: here it stays
abbrev pub commit : Timing → Timing
commit c = record {
  phase = c.phase;
  pointer = c.pointer;
  clock = committed_clock c.pending c.pending_at c.clock;
  twelve_hour = c.twelve_hour;
  latched = c.latched;
  pending = None;
  pending_at = c.pending_at;
}

-- 'Register bytes': a byte at a time register; an undefined one changes no field, the hour mode changes at once, the time only when the transaction ends. A second of the pending time begins at the last seconds byte, or without one where the clock's own did at the first accepted byte
abbrev pub accept : Meaning → ℕ → Timing → Timing
accept m t c = record {
  phase = c.phase;
  pointer = c.pointer;
  clock = c.clock;
  twelve_hour = changed_mode m c.twelve_hour;
  latched = c.latched;
  pending = if is_defined m then Some (noted m (found c.pending c.clock t)) else c.pending;
  pending_at = if is_defined m then (if sets_seconds m then t else found_at c.pending c.pending_at c.clock t) else c.pending_at;
}

-- 'Acknowledgements': the phase after a START; only 0x68 is addressed
abbrev pub phase_for : ℕ → Bool → Phase
phase_for address read = if eqb address 0x68 then (if read then Reading else Pointer) else Released
