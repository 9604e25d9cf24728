-- Document 01's model of the exact time, 'Shown time and exact time'. It is fed the kind, instant, address, read bit and byte of each bus call that is not refused, and no answers. It shares with the chip's side `meaning`, `time_bytes`, the calendar, the numbers of `Numbers`, the events and the configuration, and nothing else. Assumes nothing.
use Rattle.computed.specs.Prelude.{ℕ, Bool, true, false, List, [], leb, ltb, eqb}
use Rattle.std.specs.Prelude.{◌+◌, ◌*◌, ◌-◌, ◌/◌, ◌%◌, ◌≤◌, ◌&&◌, ◌∷◌, ◌++◌, ◌≡◌, if◌then◌else◌}
use Rattle.calendar.specs.Stated.{seconds_of, time_of, month_length, day_number, with_day}
use Rattle.calendar.specs.declared.DateTime.{DateTime}
use Rattle.fields.specs.Table.{Meaning, undefined, sets, meaning, time_bytes}
use Rattle.ds3231.specs.Numbers.{nanos, range, day}
use Rattle.ds3231.specs.Types.{Ds3231Config, Event, Start, Write, Read, Stop}

-- where the model stands in a transaction
pub data Stage : Type 0 where
  unaddressed : Stage
  awaits_pointer : Stage
  writes : Stage
  drops : Stage
  reads : Stage

-- a byte accepted at a time register, and its instant
pub record Accepted : Type 0 where
  pub register : ℕ
  pub value : ℕ
  pub at : ℕ

-- the exact count was last set at the instant `since`, to `count`; `accepted` are the accepted bytes of the transaction under way, the first one first
pub record Model : Type 0 where
  pub count : ℕ
  pub since : ℕ
  pub pointer : ℕ
  pub stage : Stage
  pub twelve : Bool
  pub offset : ℕ
  pub accepted : List Accepted
  pub latched : List ℕ

-- ---- the exact count

-- 'Shown time and exact time': it grows by one each nanosecond, modulo 6,311,433,600 × 1,000,000,000
abbrev pub exact : Model → ℕ → ℕ
exact m t = (m.count + (t - m.since)) % (range * nanos)

-- its whole second, which is below 6,311,433,600 by that modulus
abbrev pub whole_second : Model → ℕ → ℕ
whole_second m t = exact m t / nanos

-- 'Register bytes': weekday is (days since 2000 + offset) mod 7 + 1
abbrev pub weekday_for : ℕ → ℕ → ℕ
weekday_for days offset = (days + offset) % 7 + 1

-- Order 7 of document 02: the day since 2000 on which the count was last set, and one for each midnight since. The count is not taken modulo the range here, so that the end of 2199 is a midnight as any other
abbrev pub days_counted : Model → ℕ → ℕ
days_counted m t = (m.count + (t - m.since)) / nanos / day

-- the weekday then
abbrev pub exact_weekday : Model → ℕ → ℕ
exact_weekday m t = weekday_for (days_counted m t) m.offset

-- 'Shown time and exact time': latched are 0x00 to 0x06 for the count's whole second at that instant, in the hour mode then held, weekday by its rule
abbrev pub exact_bytes : Model → ℕ → List ℕ
exact_bytes m t = time_bytes (time_of (whole_second m t)) (exact_weekday m t) m.twelve

-- ---- the date that accepted bytes make, in order

-- 'Shown time and exact time': a month byte also sets the century, a year byte keeps it
abbrev pub date_with : Meaning → DateTime → DateTime
date_with undefined d = d
date_with (sets r n flag) d = record {
  year = if eqb r 5 then 2000 + (if flag then 100 else 0) + d.year % 100 else if eqb r 6 then 2000 + (if leb 2100 d.year then 100 else 0) + n else d.year;
  month = if eqb r 5 then n else d.month;
  day = if eqb r 4 then n else d.day;
  hour = if eqb r 2 then n else d.hour;
  minute = if eqb r 1 then n else d.minute;
  second = if eqb r 0 then n else d.second;
}

abbrev pub date_by : List Accepted → DateTime → DateTime
date_by [] d = d
date_by (a ∷ l) d = date_by l (date_with (meaning a.register a.value) d)

-- 'Shown time and exact time': a day past the month's end becomes its last day
abbrev pub clamped : DateTime → DateTime
clamped d = if ltb (month_length d.year d.month) d.day then with_day (month_length d.year d.month) d else d

-- 'Register bytes': the last accepted weekday byte, or without one the weekday given
abbrev pub weekday_with : Meaning → ℕ → ℕ
weekday_with undefined w = w
weekday_with (sets r n flag) w = if eqb r 3 then n else w

abbrev pub weekday_by : List Accepted → ℕ → ℕ
weekday_by [] w = w
weekday_by (a ∷ l) w = weekday_by l (weekday_with (meaning a.register a.value) w)

-- 'Register bytes': the offset, 0 to 6, with which the committed date has the weekday, as `offset_with` computes it
pub record IsOffset (days weekday offset : ℕ) : Type 0 where
  pub at_most : offset ≤ 6
  pub gives : weekday_for days offset ≡ weekday

-- the first of 0 to 6 that gives the weekday, and 7 where none does. Theorem `the_offset` of proofs/Follows.antt: of a weekday it is the one offset
abbrev pub first_offset : List ℕ → ℕ → ℕ → ℕ
first_offset [] days w = 7
first_offset (o ∷ os) days w = if eqb (weekday_for days o) w then o else first_offset os days w

unfoldable pub offset_with : ℕ → ℕ → ℕ
offset_with days w = first_offset (0 ∷ 1 ∷ 2 ∷ 3 ∷ 4 ∷ 5 ∷ 6 ∷ []) days w

-- the instant of the last accepted seconds byte, if there is one
pub data Instant : Type 0 where
  never : Instant
  at : ℕ → Instant

abbrev pub seconds_with : Meaning → ℕ → Instant → Instant
seconds_with undefined t i = i
seconds_with (sets r n flag) t i = if eqb r 0 then at t else i

abbrev pub last_seconds : List Accepted → Instant → Instant
last_seconds [] i = i
last_seconds (a ∷ l) i = last_seconds l (seconds_with (meaning a.register a.value) a.at i)

-- ---- a transaction is closed

-- 'Shown time and exact time': if a seconds byte was accepted, that date holds, with no part second, at the last such byte's instant; otherwise at the first accepted byte's instant, with the part second the exact count had there
abbrev pub holds_at : Instant → ℕ → ℕ
holds_at never first = first
holds_at (at t) first = t

abbrev pub part_second : Instant → ℕ → Model → ℕ
part_second never first m = exact m first % nanos
part_second (at t) first m = 0

-- 'Shown time and exact time': the date is the count's whole second at the first accepted time byte, changed by each accepted byte in order
abbrev pub date_set : List Accepted → ℕ → Model → DateTime
date_set l first m = clamped (date_by l (time_of (whole_second m first)))

-- 'Shown time and exact time': a transaction with at least one accepted time byte sets the count, at its STOP or at the next START
abbrev pub closed_by : List Accepted → Model → Model
closed_by [] m = m
closed_by (a ∷ l) m =
    let d = date_set (a ∷ l) a.at m in
    let i = last_seconds (a ∷ l) never in
    record {
      count = seconds_of d * nanos + part_second i a.at m;
      since = holds_at i a.at;
      pointer = m.pointer;
      stage = m.stage;
      twelve = m.twelve;
      offset = offset_with (day_number d.year d.month d.day) (weekday_by (a ∷ l) (exact_weekday m a.at));
      accepted = [];
      latched = m.latched;
    }

abbrev pub closed : Model → Model
closed m = closed_by m.accepted m

-- ---- the events

abbrev pub latching : ℕ → Model → Model
latching t m = record { count = m.count; since = m.since; pointer = m.pointer; stage = m.stage; twelve = m.twelve; offset = m.offset; accepted = m.accepted; latched = exact_bytes m t }

abbrev pub standing : Stage → Model → Model
standing s m = record { count = m.count; since = m.since; pointer = m.pointer; stage = s; twelve = m.twelve; offset = m.offset; accepted = m.accepted; latched = m.latched }

abbrev pub pointing : ℕ → Model → Model
pointing r m = record { count = m.count; since = m.since; pointer = r; stage = m.stage; twelve = m.twelve; offset = m.offset; accepted = m.accepted; latched = m.latched }

-- 'Shown time and exact time': a byte that goes to 0x00 to 0x06 and is not undefined is an accepted time byte; an hour byte sets the mode at once
abbrev pub keeps : Meaning → Accepted → List Accepted → List Accepted
keeps undefined a l = l
keeps (sets r n flag) a l = l ++ (a ∷ [])

abbrev pub mode_with : Meaning → Bool → Bool
mode_with undefined twelve = twelve
mode_with (sets r n flag) twelve = if eqb r 2 then flag else twelve

abbrev pub keeping : ℕ → ℕ → ℕ → Model → Model
keeping r b t m = record { count = m.count; since = m.since; pointer = m.pointer; stage = m.stage; twelve = mode_with (meaning r b) m.twelve; offset = m.offset; accepted = keeps (meaning r b) (record { register = r; value = b; at = t }) m.accepted; latched = m.latched }

-- 'Acknowledgements': the pointer goes up by one, from 0x12 to 0
abbrev pub moved_pointer : ℕ → ℕ
moved_pointer r = if ltb r 0x12 then r + 1 else 0

-- 'Shown time and exact time': WRITE follows the acknowledgement rules
abbrev pub write_in : Stage → ℕ → ℕ → Model → Model
write_in unaddressed b t m = m
write_in reads b t m = m
write_in drops b t m = m
write_in awaits_pointer b t m = if leb b 0x12 then standing writes (pointing b m) else standing drops m
write_in writes b t m = pointing (moved_pointer m.pointer) (keeping m.pointer b t m)

-- addressed for reading; and a READ that then moves the pointer from 0x12 to 0
abbrev pub is_reads : Stage → Bool
is_reads unaddressed = false
is_reads awaits_pointer = false
is_reads writes = false
is_reads drops = false
is_reads reads = true

abbrev pub wraps : Model → Bool
wraps m = is_reads m.stage && leb 0x12 m.pointer

-- 'Shown time and exact time': every READ addressed for reading, at whatever register, moves the pointer up by one, from 0x12 to 0, where it latches anew
abbrev pub read_by : ℕ → Model → Model
read_by t m =
    if wraps m then latching t (pointing 0 m)
    else if is_reads m.stage then pointing (m.pointer + 1) m
    else m

-- 'Shown time and exact time': START addresses by its read bit if it names 0x68, else nothing
abbrev pub stage_for : ℕ → Bool → Stage
stage_for address read = if eqb address 0x68 then (if read then reads else awaits_pointer) else unaddressed

-- 'Shown time and exact time': START closes the transaction, latches, then addresses; STOP closes the transaction, and nothing is addressed
abbrev pub fed : Event → Model → Model
fed (Start a r t) m = standing (stage_for a r) (latching t (closed m))
fed (Write b t) m = write_in m.stage b t m
fed (Read k t) m = read_by t m
fed (Stop t) m = standing unaddressed (closed m)

-- 'Shown time and exact time': it begins as at power-on, unaddressed: the configured seconds at instant 0. 'Register bytes': pointer 0, 24-hour mode, offset 5
abbrev pub model_on : Ds3231Config → Model
model_on f =
    latching 0 (record { count = seconds_of f.start * nanos; since = 0; pointer = 0; stage = unaddressed; twelve = false; offset = 5; accepted = []; latched = [] })
