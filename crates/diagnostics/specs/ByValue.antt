-- Need not be believed: what the functions below the calls that are lent a store promise. The contract of `report` follows from it, and those of the calls on a lent chip. Assumes nothing.
use Rattle.computed.specs.Prelude.{ℕ, List, length, set}
use Rattle.std.specs.Prelude.{◌≡◌, Option, Some, None, Result, Ok, Err}
use Rattle.diagnostics.specs.Lent.{ReportedTo}
use Rattle.diagnostics.specs.Reports.{I2cDiagnostic, Diagnostics}
use Rattle.diagnostics.specs.declared.LentError.{LentError}
use Rattle.diagnostics.specs.declared.Posting.{Posting}
use Rattle.diagnostics.specs.declared.ReportOutcome.{ReportOutcome}

-- a report's record at the waiting count before it
abbrev pub posting_of : Diagnostics → I2cDiagnostic → Posting
posting_of n d = record { slot = n.waiting; «record» = d }

-- the store after a posting, if there is one: past the store's end nothing is set
abbrev pub posted : Option Posting → List I2cDiagnostic → List I2cDiagnostic
posted None s = s
posted (Some p) s = set s p.slot p.«record»

-- a report by value: what `report` promises, of every store of len records. A refusal leaves counts and store
abbrev pub ReportedOnStores : Diagnostics → ℕ → I2cDiagnostic → Result ReportOutcome LentError → Type 0
ReportedOnStores n len d (Ok r) = (s : List I2cDiagnostic) → length s ≡ len → ReportedTo n s d (Ok tt) r.counts (posted (Some r.posting) s)
ReportedOnStores n len d (Err e) = (s : List I2cDiagnostic) → length s ≡ len → ReportedTo n s d (Err e) n s
