-- Order 11: for a sound chip the conversion of its shown seconds is never refused, and `register` answers a byte at each of 0x00 to 0x12, which is the byte of the definition by numbers.
-- Assumes nothing.
use Prim.Native.Nat.{ℕ, suc, ◌-◌, ◌^◌, ◌≤◌, ◌<◌}
use mathlib.Core.Bool.{Bool, true}
use mathlib.Core.List.{List, []}
use mathlib.Core.Path.{◌≡◌, refl, sym, ap, subst, ◌∙◌}
use native.Mathlib.Omega.{arith}
use borrow.Author.Tests.{leb-true}
use lib.Bits.{bit_or, or_lt}
use lib.Dec.{leb, eqb}
use lib.IntN.{ℤ, pos, negsuc}
use lib.ListN.{length, get_or, replicate}
use lib.Signed.{shr_z}
use Rattle.refusals.specs.Numbered.{Numbered, accepted, refused, and_then, some_or}
use Rattle.refusals.proofs.Lossless.{some_or_lossless}
use Rattle.std.specs.Prelude.{if◌then◌else◌, Option, Some, None}
use Rattle.computed.specs.Entries.{entry}
use Rattle.computed.proofs.Choice.{chosen}
use Rattle.computed.proofs.Claim.{le, each}
use Rattle.calendar.specs.Stated.{checked_seconds, time_of}
use Rattle.calendar.specs.declared.DateTime.{DateTime}
use Rattle.calendar.proofs.Laws.{seconds_accepted, time_in_range}
use Rattle.fields.proofs.Laws.{time_byte_below}
use Rattle.ds3231.specs.Types.{Registers, Ds3231, Ds3231Config, Register, Seconds, Minutes, Hours, Weekday, Date, Month, Year, Alarm1Seconds, Alarm1Minutes, Alarm1Hours, Alarm1Day, Alarm2Minutes, Alarm2Hours, Alarm2Day, Control, Status, Aging, TemperatureMsb, TemperatureLsb}
use Rattle.ds3231.specs.Map.{number_of, Names, named}
use Rattle.ds3231.specs.Clock.{seconds_at}
use Rattle.ds3231.specs.Timing.{shown_at}
use Rattle.ds3231.specs.Registers.{converting, low_byte, temperature_high, temperature_low, byte_at}
use Rattle.ds3231.specs.Calls.{sound, registers_on, chip_on, checked_chip, shown_time, now_answer, register_byte, register_answer}
use Rattle.ds3231.proofs.Map.{named_names}
use Rattle.ds3231.proofs.Bytes.{seconds_in, weekday_shown}
use Rattle.ds3231.proofs.Facts.{ConfigIn, sound_test}
use Rattle.ds3231.proofs.Sounds.{on_sound}

-- what a call that asks answers on a sound chip
pub asked : {A : Type 0} (c : Ds3231) (a : Numbered A) → sound c ≡ true → and_then (checked_chip c) a ≡ a
asked c a e = ap (λ (x : Bool). and_then (if x then accepted tt else refused 10 []) a) e

-- ---- the conversion

-- the shown seconds of a chip: the check accepts them, `from_seconds_since_2000` gives the date by its contract, and `now` answers that date
pub record Converted (c : Ds3231) (t : ℕ) : Type 0 where
  pub is_accepted : checked_seconds (seconds_at c.timing.clock t) ≡ accepted tt
  pub gives_date : (r : Option DateTime)
      → some_or 8 r ≡ and_then (checked_seconds (seconds_at c.timing.clock t)) (accepted (time_of (seconds_at c.timing.clock t)))
      → r ≡ Some (shown_time c t)
  pub is_shown : now_answer c t ≡ accepted (shown_time c t)

pub conversion_never_refused : (c : Ds3231) → sound c ≡ true → (t : ℕ) → Converted c t
conversion_never_refused c e t =
    let s = seconds_at c.timing.clock t in
    let a = seconds_accepted s (seconds_in c.timing.clock t) in
    record {
      is_accepted = a;
      gives_date = λ r h. some_or_lossless 8 r (Some (time_of s)) (h ∙ ap (λ (v : Numbered (Unit {0})). and_then v (accepted (time_of s))) a);
      is_shown = asked c (accepted (shown_time c t)) e;
    }

-- ---- the byte of each register

-- the definition by numbers, as it stood before Order 11: for `register_has_byte` alone
abbrev other_byte_before : Registers → ℕ → ℕ → ℕ
other_byte_before g r t =
    if leb r 0x0D then get_or g.alarms (r - 7) 0
    else if eqb r 0x0E then bit_or g.control (if converting g t then 0x20 else 0)
    else if eqb r 0x0F then bit_or g.status (if converting g t then 0x04 else 0)
    else if eqb r 0x10 then g.aging
    else if eqb r 0x11 then temperature_high g.temperature_quarters
    else temperature_low g.temperature_quarters

abbrev byte_before : List ℕ → Registers → ℕ → ℕ → ℕ
byte_before bytes g r t = if leb r 0x06 then get_or bytes r 0 else other_byte_before g r t

abbrev pub register_byte_before : Ds3231 → ℕ → ℕ → ℕ
register_byte_before c r t = byte_before (shown_at c.timing t) c.registers r t

as_before : (time : List ℕ) (g : Registers) (r : Register) (t : ℕ) → byte_at time g r t ≡ byte_before time g (number_of r) t
as_before time g Seconds t = refl
as_before time g Minutes t = refl
as_before time g Hours t = refl
as_before time g Weekday t = refl
as_before time g Date t = refl
as_before time g Month t = refl
as_before time g Year t = refl
as_before time g Alarm1Seconds t = refl
as_before time g Alarm1Minutes t = refl
as_before time g Alarm1Hours t = refl
as_before time g Alarm1Day t = refl
as_before time g Alarm2Minutes t = refl
as_before time g Alarm2Hours t = refl
as_before time g Alarm2Day t = refl
as_before time g Control t = refl
as_before time g Status t = refl
as_before time g Aging t = refl
as_before time g TemperatureMsb t = refl
as_before time g TemperatureLsb t = refl

-- registers as every call is passed them: seven alarm bytes, and numbers that fit their widths
pub record Fitting (g : Registers) : Type 0 where
  pub alarms : length g.alarms ≡ 7
  pub alarm_bytes : (i : ℕ) → i < length g.alarms → entry g.alarms i < 256
  pub control : g.control < 256
  pub status : g.status < 256
  pub aging : g.aging < 256

-- those of every power-on fit
zeros : (i : ℕ) → i < 7 → entry (replicate 7 0) i < 256
zeros i h = each (λ k. le (suc (entry (replicate 7 0) k)) 256) 0 7 tt i (omega arith) (omega arith)

pub fitting_on : (f : Ds3231Config) → Fitting (registers_on f)
fitting_on f = record { alarms = refl; alarm_bytes = zeros; control = omega arith; status = chosen (λ (x : ℕ). x < 256) f.oscillator_stopped (λ e. omega arith) (λ e. omega arith); aging = omega arith }

low_below : (z : ℤ) → low_byte z < 256
low_below (pos n) = omega arith
low_below (negsuc n) = omega arith

with_bits : (a m : ℕ) (b : Bool) → a < 256 → m < 256 → bit_or a (if b then m else 0) < 256
with_bits a m b p q = or_lt 8 a (if b then m else 0) p (chosen (λ (x : ℕ). x < 2 ^ 8) b (λ e. q) (λ e. omega arith))

abbrev IsByte : ℕ → Type 0
IsByte b = b < 256

before_below : (c : Ds3231) (n t : ℕ) → Fitting c.registers → n ≤ 0x12 → IsByte (register_byte_before c n t)
before_below c n t f h =
    let k = c.timing.clock in
    let g = c.registers in
    let w = weekday_shown k t in
    chosen IsByte (leb n 0x06) (λ e. time_byte_below _ _ c.timing.twelve_hour (time_in_range (seconds_at k t) (seconds_in k t)) w.0 w.1 n (leb-true n 0x06 e))
    (λ e. chosen IsByte (leb n 0x0D) (λ q. let z = leb-true n 0x0D q in f.alarm_bytes (n - 7) (omega (arith, f.alarms)))
    (λ q. chosen IsByte (eqb n 0x0E) (λ u. with_bits g.control 0x20 (converting g t) f.control (omega arith))
    (λ u. chosen IsByte (eqb n 0x0F) (λ u. with_bits g.status 0x04 (converting g t) f.status (omega arith))
    (λ u. chosen IsByte (eqb n 0x10) (λ u. f.aging)
    (λ u. chosen IsByte (eqb n 0x11) (λ u. low_below (shr_z g.temperature_quarters 4)) (λ u. omega arith))))))

-- `register` at a number: it answers a byte, below 256, which is the one of the definition before Order 11
pub record HasByte (c : Ds3231) (n t : ℕ) : Type 0 where
  pub byte : ℕ
  pub answers : register_answer c n t ≡ accepted byte
  pub below : byte < 256
  pub before : byte ≡ register_byte_before c n t

pub register_has_byte : (c : Ds3231) → sound c ≡ true → Fitting c.registers → (t n : ℕ) → n ≤ 0x12 → HasByte c n t
register_has_byte c e f t n h = by (named n) (named_names n) refl
  where
    by : (d : Option Register) → Names n d → named n ≡ d → HasByte c n t
    by (Some r) p q =
        let b = as_before (shown_at c.timing t) c.registers r t ∙ ap (λ (x : ℕ). register_byte_before c x t) p in
        record {
          byte = byte_at (shown_at c.timing t) c.registers r t;
          answers = asked c (register_byte (named n) c t) e ∙ ap (λ (x : Option Register). register_byte x c t) q;
          below = subst IsByte (sym b) (before_below c n t f h);
          before = b;
        }
    by None p q = absurd (omega arith)

-- the chip of a power-on that is not refused meets both conditions
pub on_has_byte : (f : Ds3231Config) → ConfigIn f → (t n : ℕ) → n ≤ 0x12 → HasByte (chip_on f) n t
on_has_byte f h = register_has_byte (chip_on f) (sound_test (chip_on f) (on_sound f h)) (fitting_on f)
