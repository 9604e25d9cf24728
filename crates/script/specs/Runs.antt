-- What a run of a script answers and leaves, by the chip's own calls, record after record: document 01, 'Script answers' and 'The table of refusals'. Assumes nothing.
use Rattle.computed.specs.Prelude.{ℕ, zero, suc, not, List, [], eqb, length, replicate, nat_abs}
use Rattle.std.specs.Prelude.{◌+◌, ◌*◌, ◌/◌, ◌%◌, ◌∷◌, ◌++◌, ◌≡◌, if◌then◌else◌, Result, Ok, Err}
use Rattle.refusals.specs.Numbered.{Numbered, accepted, refused, and_then, unless, Row, answered}
use Rattle.diagnostics.specs.Lent.{lent_row}
use Rattle.diagnostics.specs.Reports.{unwritten}
use Rattle.diagnostics.specs.declared.I2cDiagnostic.{I2cDiagnostic}
use Rattle.ds3231.specs.Calls.{sound, chip_on, default_config, Answered, replied, copied, reply_byte, bus, chip_after, store_after, answer}
use Rattle.ds3231.specs.declared.Ds3231.{Ds3231}
use Rattle.ds3231.specs.declared.Event.{Event}
use Rattle.ds3231.specs.declared.Event.TheVariants.{Start, Write, Read, Stop}
use Rattle.script_check.specs.Records.{instant_of, kind_of, value_of, records_in, checked_length, checked_from, fault_row}
use Rattle.script.specs.declared.errors.RunError.{RunError}
use Rattle.script.specs.declared.errors.RunError.TheVariants.{Lent, AnswersLength, Script}
use Rattle.script.specs.declared.runs.RunOutcome.{RunOutcome}

-- 'Script answers': START address times 2 plus read bit, WRITE data, READ 1 or 0 for the master's acknowledge
unfoldable pub event_of : List ℕ → ℕ → Event
event_of s i =
    if eqb (kind_of s i) 0 then Start (value_of s i / 2) (eqb (value_of s i % 2) 1) (instant_of s i)
    else if eqb (kind_of s i) 1 then Write (value_of s i) (instant_of s i)
    else if eqb (kind_of s i) 2 then Read (eqb (value_of s i) 1) (instant_of s i)
    else Stop (instant_of s i)

-- no record takes, and no event of a run is refused (`none_refused` in proofs/RunLaws.antt): the 0 that stands for those is left free
abbrev pub answer_byte : Numbered Answered → ℕ
answer_byte (accepted (replied y)) = reply_byte y
answer_byte (accepted (copied n)) = 0
answer_byte (refused n vs) = 0

pub record Held : Type 0 where
  pub chip : Ds3231
  pub store : List I2cDiagnostic

-- the chip and its store after the first i records
unfoldable pub held_at : List ℕ → Held → ℕ → Held
held_at s h zero = h
held_at s h (suc i) =
    let g = held_at s h i in
    record { chip = chip_after (bus g.store (event_of s i)) g.chip; store = store_after (bus g.store (event_of s i)) g.chip }

-- the answer to record i, on the chip after the first i records
abbrev pub answer_at : List ℕ → Held → ℕ → ℕ
answer_at s h i = answer_byte (answer (bus (held_at s h i).store (event_of s i)) (held_at s h i).chip)

-- 'Script answers': one byte an event, of the first n
unfoldable pub answers_to : List ℕ → Held → ℕ → List ℕ
answers_to s h zero = []
answers_to s h (suc n) = answers_to s h n ++ (answer_at s h n ∷ [])

-- 'The table of refusals': the row of why a run is refused
abbrev pub run_row : RunError → Row
run_row (Lent e) = lent_row e
run_row AnswersLength = record { number = 15; values = [] }
run_row (Script f) = fault_row f

-- 'The table of refusals': 14, 13, 15, then record by record 16 to 19; `room` is how many answer bytes are lent
unfoldable pub checked_run : List ℕ → ℕ → Numbered (Unit {0})
checked_run s room = and_then (checked_length (length s)) (if eqb room (records_in s) then checked_from s 0 (records_in s) else refused 15 [])

-- 'The table of refusals': 10, 11, then those
unfoldable pub run_verdict : Held → List ℕ → ℕ → Numbered (Unit {0})
run_verdict h s room = if not (sound h.chip) then refused 10 [] else if not (eqb (length h.store) 256) then refused 11 [] else checked_run s room

-- a run: its answer, and the chip, the store and the answer bytes after it. 'The table of refusals': refusals change nothing
pub record Ran (h : Held) (s : List ℕ) (a : List ℕ) (r : Result (Unit {0}) RunError) (c' : Ds3231) (st' : List I2cDiagnostic) (a' : List ℕ) : Type 0 where
  pub answers : answered run_row r ≡ run_verdict h s (length a)
  pub chip : c' ≡ unless (run_verdict h s (length a)) (held_at s h (records_in s)).chip h.chip
  pub store : st' ≡ unless (run_verdict h s (length a)) (held_at s h (records_in s)).store h.store
  pub bytes : a' ≡ unless (run_verdict h s (length a)) (answers_to s h (records_in s)) a

-- a run by value: what it leaves of the chip and the store; a refusal leaves the caller's as they are
abbrev pub RanByValue : Held → List ℕ → List ℕ → Result RunOutcome RunError → List ℕ → Type 0
RanByValue h s a (Ok o) a' = Ran h s a (Ok tt) o.chip o.records a'
RanByValue h s a (Err e) a' = Ran h s a (Err e) h.chip h.store a'

-- 'Script answers': `clockrun` runs a script from power-on
abbrev pub clockrun_held : Held
clockrun_held = record { chip = chip_on default_config; store = replicate 256 unwritten }

-- 'Script answers': the host's number, 0, or the refusal number times 65,536 plus the record, which counts as 0 for 13 to 15
abbrev pub host_number : Numbered (Unit {0}) → ℕ
host_number (accepted u) = 0
host_number (refused n []) = n * 65536
host_number (refused n (i ∷ is)) = n * 65536 + nat_abs i
