-- The claim `SetIsRead`, proved: what is read depends on the events alone; the seven bytes make a date, whatever the time was before; and within its second the clock shows that date in the same bytes.
-- Assumes nothing.
use Prim.Native.Nat.{ℕ, ◌+◌, ◌%◌, ◌≤◌, ◌<◌}
use mathlib.Core.Bool.{Bool, true, false, not, ◌&&◌}
use mathlib.Core.List.{List, [], ◌∷◌, ◌++◌}
use mathlib.Core.Path.{◌≡◌, refl, ap, ap₂, ◌∙◌}
use native.Mathlib.Omega.{arith}
use borrow.Author.Tests.{le-leb, lt-leb}
use lib.Dec.{leb, eqb}
use lib.ListN.{length}
use Rattle.std.specs.Prelude.{if◌then◌else◌, Option, Some, None}
use Rattle.refusals.specs.Numbered.{Numbered, accepted, refused, and_then, unless}
use Rattle.computed.specs.Entries.{entry}
use Rattle.calendar.specs.Stated.{InRange, date_time, nearest, month_length}
use Rattle.calendar.specs.declared.DateTime.{DateTime}
use Rattle.calendar.proofs.Laws.{nearest_same}
use Rattle.fields.specs.Bytes.{field_byte}
use Rattle.fields.specs.Table.{Meaning, undefined, sets, bit, from_digits, decimal, in_field, month_meaning, meaning, time_bytes}
use Rattle.fields.proofs.Laws.{Bounds, in_field_lem, field_bounds, field_of_byte}
use Rattle.diagnostics.specs.declared.I2cDiagnostic.{I2cDiagnostic}
use Rattle.ds3231.specs.Numbers.{nanos}
use Rattle.ds3231.specs.Map.{named}
use Rattle.ds3231.specs.Changed.{changed_time, changed_weekday, changed_mode}
use Rattle.ds3231.specs.Clock.{time_at, weekday_at, clock_set}
use Rattle.ds3231.specs.Timing.{is_defined, shown_at, commit, accept}
use Rattle.ds3231.specs.Calls.{sound, Step, written, has_read, step, Answered, replied, Call, bus, taking, verdict, chip_by, answered_by}
use Rattle.ds3231.specs.Exact.{fully_lent}
use Rattle.ds3231.specs.SetAndRead.{seven, LegalBytes, Instants, stop_event, set_events, read_events, if_read, read_answers, SetIsRead}
use Rattle.ds3231.specs.declared.Phase.{Phase}
use Rattle.ds3231.specs.declared.Phase.TheVariants.{Released, Pointer, Writing, Reading, Ignoring}
use Rattle.ds3231.specs.declared.Timing.{Timing}
use Rattle.ds3231.specs.declared.Registers.{Registers}
use Rattle.ds3231.specs.declared.Ds3231.{Ds3231}
use Rattle.ds3231.specs.declared.Event.{Event}
use Rattle.ds3231.specs.declared.Event.TheVariants.{Start, Write, Read, Stop}
use Rattle.ds3231.specs.declared.Reply.TheVariants.{Byte}
use Rattle.ds3231.proofs.Facts.{Sound, sound_fact}
use Rattle.ds3231.proofs.Sounds.{call_sound}
use Rattle.ds3231.proofs.Weekdays.{set_date, set_shows, plain_number}
use Rattle.ds3231.proofs.Bytes.{century}
use Rattle.ds3231.proofs.ExactTime.{verdict_is}

-- ---- the events alone

-- a chip of some timing and registers, with nothing reported
abbrev bare : Timing → Registers → Ds3231
bare c g = record { timing = c; registers = g; diagnostics = record { waiting = 0; dropped = 0 } }

write_bare : (p : Phase) (b t : ℕ) (c : Ds3231) → written p b t c ≡ written p b t (bare c.timing c.registers)
write_bare Released b t c = refl
write_bare Pointer b t c = refl
write_bare Writing b t c = refl
write_bare Reading b t c = refl
write_bare Ignoring b t c = refl

read_bare : (p : Phase) (t : ℕ) (c : Ds3231) → has_read p t c ≡ has_read p t (bare c.timing c.registers)
read_bare Released t c = refl
read_bare Pointer t c = refl
read_bare Writing t c = refl
read_bare Reading t c = refl
read_bare Ignoring t c = refl

-- what an event makes of a chip depends on its timing and registers alone
step_bare : (e : Event) (c : Ds3231) → step e c ≡ step e (bare c.timing c.registers)
step_bare (Start a r t) c = refl
step_bare (Write b t) c = write_bare c.timing.phase b t c
step_bare (Read k t) c = read_bare c.timing.phase t c
step_bare (Stop t) c = refl

-- what the READs among events answer
abbrev event_answers : Timing → Registers → List Event → List (Numbered Answered)
event_answers c g [] = []
event_answers c g (e ∷ es) = let s = step e (bare c g) in if_read e (accepted (replied s.reply)) ++ event_answers s.timing s.registers es

-- calls by their events, on every sound chip
abbrev ByEvents : List Call → Type 0
ByEvents ks = (c : Ds3231) → Sound c → read_answers c ks ≡ event_answers c.timing c.registers (fully_lent ks)

-- a taking, and a bus call lent a store of some length, after their verdict
taking_none : (v : Numbered (Unit {0})) (s o : List I2cDiagnostic) (c : Ds3231) (ks : List Call) → Sound c → ByEvents ks
    → read_answers (unless v (chip_by (taking s o) c) c) ks ≡ event_answers c.timing c.registers (fully_lent ks)
taking_none (accepted u) s o c ks h rest = rest (chip_by (taking s o) c) (call_sound (taking s o) c h)
taking_none (refused n vs) s o c ks h rest = rest c h

bus_answer : (lent : Bool) (v : Numbered (Unit {0})) (s : List I2cDiagnostic) (e : Event) (c : Ds3231) (ks : List Call) → Sound c → ByEvents ks
    → v ≡ (if not lent then refused 11 [] else accepted tt)
    → (if lent then if_read e (and_then v (accepted (answered_by (bus s e) c))) else []) ++ read_answers (unless v (chip_by (bus s e) c) c) ks
    ≡ event_answers c.timing c.registers (if lent then e ∷ fully_lent ks else fully_lent ks)
bus_answer true v s e c ks h rest q =
    ap (λ (x : Numbered (Unit {0})). if_read e (and_then x (accepted (answered_by (bus s e) c))) ++ read_answers (unless x (chip_by (bus s e) c) c) ks) q
    ∙ ap (λ (l : List (Numbered Answered)). if_read e (accepted (answered_by (bus s e) c)) ++ l) (rest (chip_by (bus s e) c) (call_sound (bus s e) c h))
    ∙ ap (λ (x : Step). if_read e (accepted (replied x.reply)) ++ event_answers x.timing x.registers (fully_lent ks)) (step_bare e c)
bus_answer false v s e c ks h rest q = ap (λ (x : Numbered (Unit {0})). read_answers (unless x (chip_by (bus s e) c) c) ks) q ∙ rest c h

-- refused calls and takings change nothing of it
by_events : (ks : List Call) → ByEvents ks
by_events [] c h = refl
by_events (bus s e ∷ ks) c h = bus_answer (eqb (length s) 256) (verdict (bus s e) c) s e c ks h (by_events ks) (verdict_is (bus s e) c h)
by_events (taking s o ∷ ks) c h = taking_none (verdict (taking s o) c) s o c ks h (by_events ks)

-- ---- the events of the two transactions

-- the time that is latched, by what the seven bytes say, once they are accepted at the instants w
abbrev pub latched : (m0 m1 m2 m3 m4 m5 m6 : Meaning) → (w : ℕ → ℕ) (t : ℕ) → Timing → List ℕ
latched m0 m1 m2 m3 m4 m5 m6 w t c =
    shown_at (commit (accept m6 (w 6) (accept m5 (w 5) (accept m4 (w 4) (accept m3 (w 3) (accept m2 (w 2) (accept m1 (w 1) (accept m0 (w 0) (commit c))))))))) t

abbrev pub latched_by : (bytes write : ℕ → ℕ) (t : ℕ) → Timing → List ℕ
latched_by b w t c = latched (meaning 0 (b 0)) (meaning 1 (b 1)) (meaning 2 (b 2)) (meaning 3 (b 3)) (meaning 4 (b 4)) (meaning 5 (b 5)) (meaning 6 (b 6)) w t c

-- seven READs from 0x00 answer the bytes of a list
abbrev pub answers_of : List ℕ → List (Numbered Answered)
answers_of l = seven (λ r. accepted (replied (Byte (entry l r))))

read_latched : (s : Option ℕ) (b : ℕ → ℕ) (k : ℕ → Bool) (t : Instants) (c : Timing) (g : Registers)
    → event_answers c g (set_events b t ++ stop_event s ++ read_events k t) ≡ answers_of (latched_by b t.write t.reading_start c)
unfolding named
read_latched (Some u) b k t c g = refl
read_latched None b k t c g = refl

-- ---- the fields that the bytes say

-- a month byte says the number of bits 4 to 0, and the century by bit 7
month_number : (b q n : ℕ) (flag : Bool) → month_meaning b ≡ sets q n flag → (n ≡ from_digits (b % 32)) × (flag ≡ bit 7 b)
unfolding month_meaning
month_number b q n flag e = by (not (bit 6 b) && not (bit 5 b) && decimal (b % 32) && in_field 5 (from_digits (b % 32))) e
  where
    by : (t : Bool) → (if t then sets 5 (from_digits (b % 32)) (bit 7 b) else undefined) ≡ sets q n flag → (n ≡ from_digits (b % 32)) × (flag ≡ bit 7 b)
    by true f = (cc, cc)
    by false f = cc

-- the field and the flag that the byte of register r says
pub record Says (r b : ℕ) : Type 0 where
  pub field : ℕ
  pub flag : Bool
  pub means : meaning r b ≡ sets r field flag
  pub bounds : Bounds r field
  pub back : field_byte r field flag ≡ b

says : (r b : ℕ) → b ≤ 0xFF → is_defined (meaning r b) ≡ true → Says r b
says r b h d = by (meaning r b) refl d
  where
    by : (m : Meaning) → meaning r b ≡ m → is_defined m ≡ true → Says r b
    by undefined e f = cc
    by (sets q n flag) e f =
        let i = in_field_lem r b q n flag e in
        record { field = n; flag = flag; means = e ∙ ap (λ (k : ℕ). sets k n flag) i.0; bounds = field_bounds r n i.1; back = field_of_byte r b q n flag (omega arith) e }

-- the century and the two digits of a year
year_digits : (flag : Bool) (y : ℕ) → y ≤ 99 → let n = 2000 + (if flag then 100 else 0) + y in (leb 2100 n ≡ flag) × (n % 100 ≡ y)
year_digits true y h = (le-leb 2100 (2100 + y) (omega arith), omega arith)
year_digits false y h = (lt-leb 2100 (2000 + y) (omega arith), omega arith)

-- ---- the date that they make, and its bytes

module _ (b : ℕ → ℕ) (l : LegalBytes b) where
  said : (r : ℕ) → r ≤ 6 → Says r (b r)
  said r h = says r (b r) (l.byte r h) (l.defined r h)

  second : Says 0 (b 0)
  second = said 0 (omega arith)

  minute : Says 1 (b 1)
  minute = said 1 (omega arith)

  hour : Says 2 (b 2)
  hour = said 2 (omega arith)

  weekday : Says 3 (b 3)
  weekday = said 3 (omega arith)

  day : Says 4 (b 4)
  day = said 4 (omega arith)

  month : Says 5 (b 5)
  month = said 5 (omega arith)

  year : Says 6 (b 6)
  year = said 6 (omega arith)

  abbrev date_by : Bool → DateTime
  date_by century = date_time (2000 + (if century then 100 else 0) + year.field) month.field day.field hour.field minute.field second.field

  abbrev date : DateTime
  date = date_by month.flag

  -- what the seven bytes make of a value, the first byte first
  abbrev changed_by : {A : Type 0} → (Meaning → A → A) → A → A
  changed_by f x =
      f (sets 6 year.field year.flag) (f (sets 5 month.field month.flag) (f (sets 4 day.field day.flag) (f (sets 3 weekday.field weekday.flag)
      (f (sets 2 hour.field hour.flag) (f (sets 1 minute.field minute.flag) (f (sets 0 second.field second.flag) x))))))

  -- whatever time, weekday and hour mode the chip had, they are those of the bytes
  all_set : (d : DateTime) → changed_by changed_time d ≡ date
  all_set d = ap date_by (year_digits month.flag (d.year % 100) (omega arith)).0

  weekday_set : (n : ℕ) → changed_by changed_weekday n ≡ weekday.field
  weekday_set n = refl

  mode_set : (x : Bool) → changed_by changed_mode x ≡ hour.flag
  mode_set x = refl

  day_in : day.field ≤ month_length date.year date.month
  unfolding meaning
  day_in =
      let d = plain_number 4 (b 4) 4 day.field day.flag day.means in
      let m = month_number (b 5) 5 month.field month.flag month.means in
      let y = plain_number 6 (b 6) 6 year.field year.flag year.means in
      rw (d, m.0, m.1, y) l.day

  date_in : InRange date
  date_in =
      let m = month.bounds.month refl in
      let y = century month.flag year.field (year.bounds.year refl) in
      record {
        date = record { year_from = y.0; year_to = y.1; month_from = m.0; month_to = m.1; day_from = (day.bounds.day refl).0; day_to = day_in };
        hour_to = hour.bounds.hour refl;
        minute_to = minute.bounds.minute refl;
        second_to = second.bounds.second refl;
      }

  bytes_back : time_bytes date weekday.field hour.flag ≡ seven b
  unfolding time_bytes field_byte
  bytes_back =
      let d = year_digits month.flag year.field (year.bounds.year refl) in
      let m = ap (field_byte 5 month.field) d.0 ∙ month.back in
      let y = ap (λ (n : ℕ). field_byte 6 n year.flag) d.1 ∙ year.back in
      λ j. second.back j ∷ minute.back j ∷ hour.back j ∷ weekday.back j ∷ day.back j ∷ m j ∷ y j ∷ []

  -- the bytes that are latched within the second
  latched_back : (c : Timing) (w : ℕ → ℕ) (t : ℕ) → t < w 0 + nanos → latched_by b w t c ≡ seven b
  latched_back c w t h =
      let shown : DateTime → ℕ → Bool → List ℕ = λ d n x. let k = clock_set d n (w 0) in time_bytes (time_at k t) (weekday_at k t) x in
      let k = (commit c).clock in
      (λ j. latched (second.means j) (minute.means j) (hour.means j) (weekday.means j) (day.means j) (month.means j) (year.means j) w t c)
      ∙ (λ j. shown (nearest (all_set (time_at k (w 0)) j)) (weekday_set (weekday_at k (w 0)) j) (mode_set c.twelve_hour j))
      ∙ ap (λ (d : DateTime). shown d weekday.field hour.flag) (nearest_same date date_in)
      ∙ ap₂ (λ (d : DateTime) (n : ℕ). time_bytes d n hour.flag) (set_date date weekday.field (w 0) t date_in h) (set_shows date weekday.field (w 0) t date_in h (weekday.bounds.weekday refl))
      ∙ bytes_back

-- ---- the claim

-- by what is latched at the START for reading
pub read_by_latch : (c : Ds3231) (b : ℕ → ℕ) (k : ℕ → Bool) (t : Instants) (calls : List Call) → sound c ≡ true → fully_lent calls ≡ set_events b t ++ stop_event t.stop ++ read_events k t
    → read_answers c calls ≡ answers_of (latched_by b t.write t.reading_start c.timing)
read_by_latch c b k t calls e f = by_events calls c (sound_fact c e) ∙ ap (event_answers c.timing c.registers) f ∙ read_latched t.stop b k t c.timing c.registers

pub set_is_read : SetIsRead
set_is_read c b k t calls e l f h = read_by_latch c b k t calls e f ∙ ap answers_of (latched_back b l c.timing t.write t.reading_start h)
