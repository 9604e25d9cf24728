-- Need not be believed: `folded_same` of proofs/Folds.antt says that for every script the fold's answer is that of `checked_script`, which `check` promises. It is read for document 02, Order 3: `judged` is what `judge` promises, and goes by a record's own sixteen bytes and the running number alone. Assumes nothing.
use Rattle.computed.specs.Prelude.{ℕ, zero, suc, List, length, take, drop}
use Rattle.std.specs.Prelude.{◌*◌, Result}
use Rattle.refusals.specs.Numbered.{Numbered, accepted, refused, and_then}
use Rattle.script_check.specs.Records.{records_in, judged_after, judgement_numbered, verdict_of, checked_length}
use Rattle.script_check.specs.declared.faults.RecordFault.{RecordFault}

-- the sixteen bytes of record i, of a script that has it
abbrev pub bytes_of : List ℕ → ℕ → List ℕ
bytes_of s i = take 16 (drop (16 * i) s)

-- Order 3: a record is judged by its own sixteen bytes, which alone are a script of one record, and the running number
abbrev pub judged : List ℕ → ℕ → Result ℕ RecordFault
judged bytes last = judged_after bytes 0 last

-- one record more: what the judge answers of record i by the number before it; a refusal stays, and nothing is judged after it
abbrev pub moved_on : ℕ → List ℕ → Numbered ℕ → Numbered ℕ
moved_on i bytes (accepted last) = judgement_numbered i (judged bytes last)
moved_on i bytes (refused number values) = refused number values

-- Order 3: the running number after the first i records of a script that has as many, 0 before the first record; or the refusal of the first of them with a fault
unfoldable pub running : List ℕ → ℕ → Numbered ℕ
running s zero = accepted 0
running s (suc i) = moved_on i (bytes_of s i) (running s i)

-- the check by the running number: 14 and 13, then record after record
abbrev pub folded_script : List ℕ → Numbered (Unit {0})
folded_script s = and_then (checked_length (length s)) (verdict_of (running s (records_in s)))
