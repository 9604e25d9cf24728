-- The host's number fits in 32 bits, for a check and for a run.
-- Assumes nothing.
use Rattle.std.proofs.Common.{ℕ, zero, suc, ◌+◌, ◌≤◌, ◌<◌, List, arith, Result, Ok, Err}
use Rattle.std.proofs.lemmas.Bool.Decides.{nat_tests}
use Rattle.refusals.specs.Numbered.{Numbered, and_then}
use Rattle.script_check.specs.Records.{records_in, record_fault, judgement_numbered, verdict_of, checked_length, checked_from, checked_script}
use Rattle.script_check.specs.declared.faults.RecordFault.{RecordFault}
use Rattle.script_check.specs.declared.faults.RecordFault.TheVariants.{Kind, Value, Padding, Falling}
use Rattle.script.specs.Runs.{checked_run, host_number}

abbrev pub Fits : Numbered (Unit {0}) → Type 0
Fits v = host_number v < 4294967296

records_fit : (s : List ℕ) (n i : ℕ) → i + n ≤ 2048 → Fits (checked_from s i n)
unfolding checked_from
records_fit s zero i l = omega arith
records_fit s (suc n) i l = by (record_fault s i) (records_fit s n (i + 1) (omega arith))
  where
    by : (j : Result ℕ RecordFault) → Fits (checked_from s (i + 1) n) → Fits (and_then (verdict_of (judgement_numbered i j)) (checked_from s (i + 1) n))
    by (Ok at) h = h
    by (Err Kind) h = omega arith
    by (Err Value) h = omega arith
    by (Err Padding) h = omega arith
    by (Err Falling) h = omega arith

pub check_fits : (s : List ℕ) → Fits (checked_script s)
unfolding checked_length
check_fits s = grind (arith, nat_tests, records_fit s (records_in s) 0)

pub run_fits : (s : List ℕ) (room : ℕ) → Fits (checked_run s room)
unfolding checked_run checked_length
run_fits s room = grind (arith, nat_tests, records_fit s (records_in s) 0)
