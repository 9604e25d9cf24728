-- A report into a lent store, in document 01's numbers: what `report` promises. Assumes nothing.
use Rattle.computed.specs.Prelude.{not, List, [], ltb, eqb, length}
use Rattle.std.specs.Prelude.{◌≡◌, if◌then◌else◌, Result}
use Rattle.refusals.specs.Numbered.{Numbered, accepted, refused, unless, Row, answered}
use Rattle.diagnostics.specs.Reports.{counted, stored, I2cDiagnostic, Diagnostics}
use Rattle.diagnostics.specs.declared.NotSound.{NotSound as NotSoundError}
use Rattle.diagnostics.specs.declared.LentError.{LentError}
use Rattle.diagnostics.specs.declared.LentError.TheVariants.{NotSound, StoreLength}

-- 'The table of refusals': 10
abbrev pub not_sound_row : NotSoundError → Row
not_sound_row e = record { number = 10; values = [] }

-- 'The table of refusals': 10, 11
abbrev pub lent_row : LentError → Row
lent_row NotSound = record { number = 10; values = [] }
lent_row StoreLength = record { number = 11; values = [] }

-- 'The table of refusals': 10 where more than 256 wait, then 11
abbrev pub report_verdict : Diagnostics → List I2cDiagnostic → Numbered (Unit {0})
report_verdict n s =
    if ltb 256 n.waiting then refused 10 []
    else if not (eqb (length s) 256) then refused 11 []
    else accepted tt

-- a report of d into a store s: its answer, the counts and the store after it
pub record ReportedTo (n : Diagnostics) (s : List I2cDiagnostic) (d : I2cDiagnostic) (a : Result (Unit {0}) LentError) (n' : Diagnostics) (s' : List I2cDiagnostic) : Type 0 where
  pub answer : answered lent_row a ≡ report_verdict n s
  pub counts : n' ≡ unless (report_verdict n s) (counted n) n
  pub store : s' ≡ unless (report_verdict n s) (stored n d s) s
