-- Order 14 of document 02: what was set is what is read. The claim is `SetIsRead`. Assumes nothing.
use Rattle.computed.specs.Prelude.{ℕ, Bool, true, false, List, [], eqb, length}
use Rattle.std.specs.Prelude.{◌+◌, ◌%◌, ◌≤◌, ◌<◌, ◌∷◌, ◌++◌, ◌≡◌, if◌then◌else◌, Option, Some, None}
use Rattle.refusals.specs.Numbered.{Numbered, accepted}
use Rattle.calendar.specs.Stated.{month_length}
use Rattle.fields.specs.Table.{bit, from_digits, meaning}
use Rattle.ds3231.specs.Numbers.{nanos}
use Rattle.ds3231.specs.Timing.{is_defined}
use Rattle.ds3231.specs.Calls.{sound, Answered, replied, Call, bus, taking, chip_after, answer}
use Rattle.ds3231.specs.Exact.{fully_lent}
use Rattle.ds3231.specs.Types.{Ds3231, Event, Start, Write, Read, Stop, Byte}

-- one for each time register, 0x00 to 0x06
abbrev pub seven : {A : Type 0} → (ℕ → A) → List A
seven f = f 0x00 ∷ f 0x01 ∷ f 0x02 ∷ f 0x03 ∷ f 0x04 ∷ f 0x05 ∷ f 0x06 ∷ []

-- 'seven defined bytes, with a day its month has': `b r` is the byte of register r. The month has the day in its year; bit 7 of the month byte set means 2100 to 2199
pub record LegalBytes (b : ℕ → ℕ) : Type 0 where
  pub byte : (r : ℕ) → r ≤ 0x06 → b r ≤ 0xFF
  pub defined : (r : ℕ) → r ≤ 0x06 → is_defined (meaning r (b r)) ≡ true
  pub day : from_digits (b 0x04) ≤ month_length (2000 + (if bit 7 (b 0x05) then 100 else 0) + from_digits (b 0x06)) (from_digits (b 0x05 % 0x20))

-- the instants of the events; `write r` and `read r` are those of register r
pub record Instants : Type 0 where
  pub start : ℕ
  pub pointer : ℕ
  pub write : ℕ → ℕ
  pub stop : Option ℕ
  pub next_start : ℕ
  pub next_pointer : ℕ
  pub reading_start : ℕ
  pub read : ℕ → ℕ

-- 'one transaction that writes pointer 0 and seven defined bytes'
abbrev pub set_events : (b : ℕ → ℕ) → Instants → List Event
set_events b t = Start 0x68 false t.start ∷ Write 0x00 t.pointer ∷ seven (λ r. Write (b r) (t.write r))

-- its STOP, or none
abbrev pub stop_event : Option ℕ → List Event
stop_event (Some t) = Stop t ∷ []
stop_event None = []

-- 'the next transaction points to 0 and reads seven bytes', each READ with some acknowledge value
abbrev pub read_events : (k : ℕ → Bool) → Instants → List Event
read_events k t = Start 0x68 false t.next_start ∷ Write 0x00 t.next_pointer ∷ Start 0x68 true t.reading_start ∷ seven (λ r. Read (k r) (t.read r))

-- the answer a to a READ, and none to another event
abbrev pub if_read : Event → (a : Numbered Answered) → List (Numbered Answered)
if_read (Start x r t) a = []
if_read (Write b t) a = []
if_read (Read k t) a = a ∷ []
if_read (Stop t) a = []

-- the same of a call: where it is lent 256 records, and none to a taking
abbrev pub of_read : Call → (a : Numbered Answered) → List (Numbered Answered)
of_read (bus s e) a = if eqb (length s) 256 then if_read e a else []
of_read (taking s o) a = []

-- what the READs among calls answer, each call getting the chip that the last one left
abbrev pub read_answers : Ds3231 → List Call → List (Numbered Answered)
read_answers c [] = []
read_answers c (k ∷ ks) = of_read k (answer k c) ++ read_answers (chip_after k c) ks

-- of every sound chip and every list of calls: where the bus calls that are lent 256 records are these events, and the START for reading comes less than a second after the seconds byte, the READs answer the seven bytes.
-- Other bus calls, which a sound chip refuses, and takings may stand anywhere in the list. The order's other two conditions are not asked: that instants never fall, and that the next START comes within that second too
abbrev pub SetIsRead : Type 0
SetIsRead = (c : Ds3231) (b : ℕ → ℕ) (k : ℕ → Bool) (t : Instants) (calls : List Call)
    → sound c ≡ true
    → LegalBytes b
    → fully_lent calls ≡ set_events b t ++ stop_event t.stop ++ read_events k t
    → t.reading_start < t.write 0x00 + nanos
    → read_answers c calls ≡ seven (λ r. accepted (replied (Byte (b r))))
