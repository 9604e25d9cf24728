-- Need not be believed: what the functions by value promise below the calls on a lent chip and store. The contracts of those calls, `Called` and `Took`, follow from it. Assumes nothing.
use Rattle.computed.specs.Prelude.{ℕ, List, length, take, drop}
use Rattle.std.specs.Prelude.{◌≤◌, ◌++◌, ◌≡◌, Option, Result, Ok, Err}
use Rattle.diagnostics.specs.Reports.{stored_all}
use Rattle.diagnostics.specs.declared.Diagnostics.{Diagnostics}
use Rattle.diagnostics.specs.declared.I2cDiagnostic.{I2cDiagnostic}
use Rattle.diagnostics.specs.declared.LentError.{LentError}
use Rattle.diagnostics.specs.declared.Posting.{Posting}
use Rattle.diagnostics.specs.ByValue.{posted}
use Rattle.ds3231.specs.declared.Ds3231.{Ds3231}
use Rattle.ds3231.specs.declared.Event.{Event}
use Rattle.ds3231_bus.specs.Answers.{Called, Took}
use Rattle.ds3231_bus.specs.declared.outcomes.Outcome.{Outcome}
use Rattle.ds3231_bus.specs.declared.takings.TakeError.{TakeError}
use Rattle.ds3231_bus.specs.declared.takings.Taking.{Taking}

-- a bus call by value: what the call promises, of every store of len records. A refusal leaves chip and store
abbrev pub CalledOnStores : Event → Ds3231 → ℕ → Result Outcome LentError → Type 0
CalledOnStores e c len (Ok r) = (s : List I2cDiagnostic) → length s ≡ len → Called e c s (Ok r.reply) r.chip (posted r.posting s)
CalledOnStores e c len (Err x) = (s : List I2cDiagnostic) → length s ≡ len → Called e c s (Err x) c s

-- a posting that stores the reports ds in 256 records, with the counts n before them
abbrev pub PostsReports : List I2cDiagnostic → Diagnostics → Option Posting → Type 0
PostsReports ds n p = (s : List I2cDiagnostic) → length s ≡ 256 → posted p s ≡ stored_all ds n s

-- taking by value that is not refused, of every store of len records and every output of room; no more is copied than either has
pub record TookTo (c : Ds3231) (len room : ℕ) (r : Taking) : Type 0 where
  pub did : (s o : List I2cDiagnostic) → length s ≡ len → length o ≡ room → Took c s o (Ok r.count) r.chip s (take r.count s ++ drop r.count o)
  pub in_store : r.count ≤ len
  pub in_out : r.count ≤ room

-- taking by value: what taking promises. A refusal leaves chip, store and output
abbrev pub TookOnStores : (c : Ds3231) (len room : ℕ) → Result Taking TakeError → Type 0
TookOnStores c len room (Ok r) = TookTo c len room r
TookOnStores c len room (Err x) = (s o : List I2cDiagnostic) → length s ≡ len → length o ≡ room → Took c s o (Err x) c s o
