-- The claim `SetIsRead` is not empty: on the chip of a script's power-on a time is set and read back in each hour mode and century, with a refused call and a taking between the two transactions. And its bound is exact: where the START for reading comes a nanosecond later, the next second is read.
-- Assumes nothing.
use Prim.Native.Nat.{ℕ, ◌+◌, ◌*◌, ◌-◌, ◌/◌, ◌%◌, ◌≤◌}
use mathlib.Core.Bool.{Bool, true, false}
use mathlib.Core.List.{List, [], ◌∷◌, ◌++◌}
use mathlib.Core.Path.{◌≡◌, refl, ap, ap₂, ◌∙◌}
use native.Mathlib.Omega.{arith}
use borrow.Author.Tests.{le-leb}
use lib.Dec.{T, leb}
use Rattle.std.specs.Prelude.{if◌then◌else◌, Option, Some, None}
use Rattle.computed.specs.Entries.{entry}
use Rattle.computed.proofs.Claim.{Claim, eq, le, and, Means, below, each}
use Rattle.calendar.specs.Stated.{seconds_of, month_length, InRange, date_time, time_of, nearest, day_number}
use Rattle.calendar.proofs.Examples.{examples}
use Rattle.calendar.proofs.Laws.{month_bounds, nearest_same, time_of_seconds, seconds_below, seconds_day, seconds_formula}
use Rattle.calendar.specs.declared.DateTime.{DateTime}
use Rattle.fields.specs.Bytes.{to_digits, hour_byte, field_byte}
use Rattle.fields.specs.Table.{Meaning, undefined, sets, bit, from_digits, decimal, in_field, plain_meaning, dial_meaning, month_meaning, meaning, time_bytes}
use Rattle.ds3231.specs.Numbers.{nanos, range, day}
use Rattle.ds3231.specs.Clock.{time_at, weekday_at, clock_set}
use Rattle.ds3231.specs.Timing.{is_defined, commit}
use Rattle.ds3231.specs.Calls.{sound, chip_on, default_config, Call, bus, taking}
use Rattle.ds3231.specs.Exact.{fully_lent, NeverFall}
use Rattle.ds3231.specs.SetAndRead.{LegalBytes, Instants, stop_event, set_events, read_events, read_answers}
use Rattle.ds3231.specs.declared.Ds3231.{Ds3231}
use Rattle.ds3231.specs.declared.Timing.{Timing}
use Rattle.ds3231.specs.declared.Event.TheVariants.{Start}
use Rattle.ds3231.proofs.Facts.{example_is}
use Rattle.ds3231.proofs.Midnights.{end_of_2199, first_of_2000}
use Rattle.ds3231.proofs.PowersOn.{default_on, power_on_sound}
use Rattle.ds3231.proofs.Weekdays.{InWeek, counted_on, offset_gives}
use Rattle.ds3231.proofs.SetAndRead.{answers_of, latched_by, read_by_latch, set_is_read}
use Rattle.ds3231.proofs.Witness.{store, on_store, rises, rises_never, set_time, set_in}

-- ---- the calls

abbrev pub chip : Ds3231
chip = chip_on default_config

chip_sound : sound chip ≡ true
chip_sound = power_on_sound default_config (chip_on default_config) default_on

-- the instant of the seconds byte, which is no whole second
abbrev pub set_at : ℕ
set_at = 1_234_567_890

-- the other events, with a STOP or without one; the START for reading comes n nanoseconds after the seconds byte
abbrev pub instants : (stop : Option ℕ) (n : ℕ) → Instants
instants stop n =
    record {
      start = 1_234_565_890;
      pointer = 1_234_566_890;
      write = λ r. set_at + r * 1_000;
      stop = stop;
      next_start = 1_234_575_890;
      next_pointer = 1_234_576_890;
      reading_start = set_at + n;
      read = λ r. 3_000_000_000 + r * 1_000_000_000;
    }

abbrev pub stopped : Option ℕ
stopped = Some 1_234_574_890

abbrev pub acknowledged : ℕ → Bool
acknowledged r = true

-- the list l is set, and read; between the two a call that is lent no store, and a taking
abbrev pub calls : Option ℕ → List ℕ → ℕ → List Call
calls stop l n =
    on_store (set_events (entry l) (instants stop n) ++ stop_event stop)
    ++ (bus [] (Start 0x68 true 1_234_574_890) ∷ taking store store ∷ on_store (read_events acknowledged (instants stop n)))

-- what the claim asks, but for its bound: and m is read
pub record Reads (stop : Option ℕ) (l : List ℕ) (n : ℕ) (m : List ℕ) : Type 0 where
  pub sound_chip : sound chip ≡ true
  pub legal : LegalBytes (entry l)
  pub events : fully_lent (calls stop l n) ≡ set_events (entry l) (instants stop n) ++ stop_event stop ++ read_events acknowledged (instants stop n)
  pub never_fall : NeverFall 0 (fully_lent (calls stop l n))
  pub is_read : read_answers chip (calls stop l n) ≡ answers_of m

events_are : (stop : Option ℕ) (l : List ℕ) (n : ℕ) → fully_lent (calls stop l n) ≡ set_events (entry l) (instants stop n) ++ stop_event stop ++ read_events acknowledged (instants stop n)
unfolding store on_store
events_are None l n = refl
events_are (Some t) l n = refl

-- ---- legal bytes

abbrev says_field : Meaning → Claim
says_field undefined = eq 0 1
says_field (sets r n flag) = eq 0 0

says_defined : (m : Meaning) → Means (says_field m) → is_defined m ≡ true
says_defined undefined h = cc
says_defined (sets r n flag) h = refl

legal_byte : List ℕ → ℕ → Claim
legal_byte l r = and (le (entry l r) 0xFF) (says_field (meaning r (entry l r)))

-- the days of the month that a list says
abbrev days : List ℕ → ℕ
days l = month_length (2000 + (if bit 7 (entry l 5) then 100 else 0) + from_digits (entry l 6)) (from_digits (entry l 5 % 0x20))

legal_by : (l : List ℕ) → T (below (legal_byte l) 7) → from_digits (entry l 4) ≤ days l → LegalBytes (entry l)
unfolding legal_byte
legal_by l t d =
    record {
      byte = λ r h. (each (legal_byte l) 0 7 t r (omega arith) (omega arith)).0;
      defined = λ r h. says_defined _ (each (legal_byte l) 0 7 t r (omega arith) (omega arith)).1;
      day = d;
    }

-- ---- a nanosecond before the bound

abbrev pub read_back : Option ℕ → (l : List ℕ) → Type 0
read_back stop l = Reads stop l 999_999_999 l

reads_back : (stop : Option ℕ) (l : List ℕ) → T (below (legal_byte l) 7) → from_digits (entry l 4) ≤ days l → T (rises 0 (fully_lent (calls stop l 999_999_999))) → read_back stop l
reads_back stop l t d r =
    let i = legal_by l t d in
    record {
      sound_chip = chip_sound;
      legal = i;
      events = events_are stop l 999_999_999;
      never_fall = rises_never 0 _ r;
      is_read = set_is_read chip (entry l) acknowledged (instants stop 999_999_999) (calls stop l 999_999_999) chip_sound i (events_are stop l 999_999_999) (omega arith);
    }

-- February 28 of a year 24, with these bytes of seconds, hours and month, and weekday 3
abbrev pub february : (seconds hours month : ℕ) → List ℕ
february s h m = s ∷ 0x34 ∷ h ∷ 0x03 ∷ 0x28 ∷ m ∷ 0x24 ∷ []

-- 23:59:59 on 2199-12-31, a Tuesday
abbrev pub last_second : List ℕ
last_second = 0x59 ∷ 0x59 ∷ 0x23 ∷ 0x02 ∷ 0x31 ∷ 0x92 ∷ 0x99 ∷ []

-- each hour mode in each century
pub modes_and_centuries :
    read_back stopped (february 0x56 0x12 0x02) × read_back None (february 0x56 0x12 0x82)
    × read_back None (february 0x56 0x72 0x02) × read_back stopped (february 0x56 0x72 0x82)
unfolding legal_byte store on_store rises bit from_digits decimal in_field plain_meaning dial_meaning month_meaning meaning
modes_and_centuries = (
  reads_back stopped _ tt (omega (arith, month_bounds 2024 2)) tt,
  reads_back None _ tt (omega (arith, month_bounds 2124 2)) tt,
  reads_back None _ tt (omega (arith, month_bounds 2024 2)) tt,
  reads_back stopped _ tt (omega (arith, month_bounds 2124 2)) tt,
)

-- 12 AM of 2000-02-29, and the last second of 2199
pub last_days : read_back stopped (0x00 ∷ 0x00 ∷ 0x52 ∷ 0x02 ∷ 0x29 ∷ 0x02 ∷ 0x00 ∷ []) × read_back stopped last_second
unfolding legal_byte store on_store rises bit from_digits decimal in_field plain_meaning dial_meaning month_meaning meaning
last_days = (
  reads_back stopped _ tt (example_is _ _ examples.rows.1.0.seconds_are).0.date.day_to tt,
  reads_back stopped _ tt end_of_2199.0.date.day_to tt,
)

-- ---- at the bound

-- the bytes of a clock that was set to a time and a weekday, a second on
abbrev bytes_a_second_on : DateTime → (weekday : ℕ) → (twelve : Bool) → List ℕ
bytes_a_second_on d w x = let k = clock_set d w set_at in time_bytes (time_at k (set_at + nanos)) (weekday_at k (set_at + nanos)) x

-- of a time d in the second century: those of the next time n, with a weekday more where a day begins
module _ (d n : DateTime) (w : ℕ) (x : Bool) (i : InRange d) (j : InRange n) (h : InWeek w) (e : (seconds_of d + 1) % range ≡ seconds_of n) where
  time_on : time_at (clock_set d w set_at) (set_at + nanos) ≡ n
  time_on = ap time_of (omega (arith, e)) ∙ time_of_seconds n j

  weekday_on : weekday_at (clock_set d w set_at) (set_at + nanos) ≡ (w - 1 + (seconds_of d % day + 1) / day) % 7 + 1
  weekday_on =
      let k = clock_set d w set_at in
      omega (arith, counted_on k (set_at + nanos), seconds_day d i, offset_gives (day_number d.year d.month d.day) w h)

  next_bytes : bytes_a_second_on d w x ≡ time_bytes n ((w - 1 + (seconds_of d % day + 1) / day) % 7 + 1) x
  next_bytes = ap₂ (λ (t : DateTime) (v : ℕ). time_bytes t v x) time_on weekday_on

-- the date of a month byte and a year byte of the second century, whatever the year was
dated : (c : Timing) (year month day hour minute second : ℕ) → InRange (date_time (2100 + year) month day hour minute second)
    → nearest (date_time (2000 + (if leb 2100 (2100 + (time_at (commit c).clock set_at).year % 100) then 100 else 0) + year) month day hour minute second)
    ≡ date_time (2100 + year) month day hour minute second
dated c year month day hour minute second v =
    ap (λ (x : Bool). nearest (date_time (2000 + (if x then 100 else 0) + year) month day hour minute second)) (le-leb 2100 (2100 + (time_at (commit c).clock set_at).year % 100) (omega arith))
    ∙ nearest_same (date_time (2100 + year) month day hour minute second) v

next_time : DateTime
next_time = date_time 2124 2 28 12 34 57

next_in : InRange next_time
unfolding next_time
next_in = omega (arith, month_bounds 2124 2)

-- what is latched a second after the seconds byte
abbrev latched_later : List ℕ → Timing → List ℕ
latched_later l c = latched_by (entry l) (instants stopped nanos).write (instants stopped nanos).reading_start c

february_later : (c : Timing) → latched_later (february 0x56 0x72 0x82) c ≡ february 0x57 0x72 0x82
unfolding set_time next_time bit to_digits from_digits decimal in_field plain_meaning dial_meaning month_meaning meaning hour_byte field_byte time_bytes
february_later c =
    let f = seconds_formula set_time in
    ap (λ (d : DateTime). bytes_a_second_on d 3 true) (dated c 24 2 28 12 34 56 set_in)
    ∙ next_bytes set_time next_time 3 true set_in next_in (omega arith) (omega (arith, f, seconds_formula next_time, seconds_below next_time next_in))
    ∙ ap (λ (m : ℕ). time_bytes next_time ((2 + m) % 7 + 1) true) {y = 0} (omega (arith, f))

last_later : (c : Timing) → latched_later last_second c ≡ 0x00 ∷ 0x00 ∷ 0x00 ∷ 0x03 ∷ 0x01 ∷ 0x01 ∷ 0x00 ∷ []
unfolding bit to_digits from_digits decimal in_field plain_meaning dial_meaning month_meaning meaning hour_byte field_byte time_bytes
last_later c =
    let e = end_of_2199 in
    let f = first_of_2000 in
    ap (λ (d : DateTime). bytes_a_second_on d 2 false) (dated c 99 12 31 23 59 59 e.0)
    ∙ next_bytes (date_time 2199 12 31 23 59 59) (date_time 2000 1 1 0 0 0) 2 false e.0 f.0 (omega arith) (omega (arith, e.1, f.1))
    ∙ ap (λ (m : ℕ). time_bytes (date_time 2000 1 1 0 0 0) ((1 + m) % 7 + 1) false) {y = 1} (omega (arith, e.1))

reads_later : (l m : List ℕ) → T (below (legal_byte l) 7) → from_digits (entry l 4) ≤ days l → T (rises 0 (fully_lent (calls stopped l nanos)))
    → ((c : Timing) → latched_later l c ≡ m) → Reads stopped l nanos m
reads_later l m t d r e =
    record {
      sound_chip = chip_sound;
      legal = legal_by l t d;
      events = events_are stopped l nanos;
      never_fall = rises_never 0 _ r;
      is_read = read_by_latch chip (entry l) acknowledged (instants stopped nanos) (calls stopped l nanos) chip_sound (events_are stopped l nanos) ∙ ap answers_of (e chip.timing);
    }

pub next_second : Reads stopped (february 0x56 0x72 0x82) 1_000_000_000 (february 0x57 0x72 0x82)
    × Reads stopped last_second 1_000_000_000 (0x00 ∷ 0x00 ∷ 0x00 ∷ 0x03 ∷ 0x01 ∷ 0x01 ∷ 0x00 ∷ [])
unfolding legal_byte store on_store rises bit from_digits decimal in_field plain_meaning dial_meaning month_meaning meaning
next_second = (
  reads_later _ _ tt (omega (arith, month_bounds 2124 2)) tt february_later,
  reads_later _ _ tt end_of_2199.0.date.day_to tt last_later,
)
