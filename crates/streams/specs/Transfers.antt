-- How many bytes a read or a write of a whole slice moved. Assumes nothing.
use Rattle.std.specs.Prelude.{ℕ, Result, Ok, Err}
use Rattle.streams.specs.declared.ReadError.{ReadError}
use Rattle.streams.specs.declared.WriteError.{WriteError}
use Rattle.streams.specs.declared.WriteError.TheVariants.{Failed, Zero}

-- how many bytes were read: as many as the answer says, or those before the failure
abbrev pub bytes_read : Result ℕ ReadError → ℕ
bytes_read (Ok count) = count
bytes_read (Err e) = e.count

-- how many bytes were written before the write that failed, or that took none
abbrev pub written_before : WriteError → ℕ
written_before (Failed count error) = count
written_before (Zero count) = count

-- how many of n bytes were written
abbrev pub bytes_written : ℕ → Result (Unit {0}) WriteError → ℕ
bytes_written n (Ok done) = n
bytes_written n (Err e) = written_before e
