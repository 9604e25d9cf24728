-- What a diagnostic says in document 01's words, and what reports do to the store and to the counts. Assumes nothing.
use Rattle.computed.specs.Prelude.{ℕ, min, List, [], ltb, set}
use Rattle.std.specs.Prelude.{◌+◌, ◌∷◌, if◌then◌else◌}
use Rattle.diagnostics.specs.declared.ChipName.TheVariants.{Ds3231}
pub use Rattle.diagnostics.specs.declared.I2cDiagnosticKind.{I2cDiagnosticKind}
pub use Rattle.diagnostics.specs.declared.I2cDiagnosticKind.TheVariants.{NotModelled, ReadOnly, NoSuchRegister, Undefined}
pub use Rattle.diagnostics.specs.declared.I2cDiagnostic.{I2cDiagnostic}
pub use Rattle.diagnostics.specs.declared.Diagnostics.{Diagnostics}

-- 'Diagnostics': the words for the kinds
pub data Word : Type 0 where
  UNDEFINED : Word
  READONLY : Word
  NOREGISTER : Word
  NOTMODELLED : Word

-- a register or a byte, or none, which is printed as two dashes
pub data Column : Type 0 where
  none : Column
  number : ℕ → Column

-- what a line says after chip and instant
pub record Line : Type 0 where
  pub word : Word
  pub register : Column
  pub byte : Column

-- 'Diagnostics': UNDEFINED (register, byte), READONLY (register), NOREGISTER (pointer byte), NOTMODELLED (control byte). 'Script answers': the register of NOTMODELLED is 0E
abbrev pub line_of : I2cDiagnosticKind → Line
line_of (Undefined r b) = record { word = UNDEFINED; register = number r; byte = number b }
line_of (ReadOnly r) = record { word = READONLY; register = number r; byte = none }
line_of (NoSuchRegister b) = record { word = NOREGISTER; register = number b; byte = none }
line_of (NotModelled b) = record { word = NOTMODELLED; register = number 0x0E; byte = number b }

-- a report of the clock at an instant
abbrev pub report : ℕ → I2cDiagnosticKind → I2cDiagnostic
report t kind = record { at = t; chip = Ds3231; kind = kind }

-- what stands in a record that no report was written to: it is left free, since none of these waits
abbrev pub unwritten : I2cDiagnostic
unwritten = report 0 (ReadOnly 0)

-- 'Diagnostics': the store keeps 256 records; a report to a full store is counted as dropped. One more waits while fewer than 256 do, else one more is dropped, up to the largest number of 64 bits
abbrev pub counted : Diagnostics → Diagnostics
counted n = record {
  waiting = if ltb n.waiting 256 then n.waiting + 1 else n.waiting;
  dropped = if ltb n.waiting 256 then n.dropped else min (n.dropped + 1) 0xFFFF_FFFF_FFFF_FFFF;
}

-- 'Diagnostics': oldest first. A report stands in the next free place of 256, or nowhere
abbrev pub stored : Diagnostics → I2cDiagnostic → List I2cDiagnostic → List I2cDiagnostic
stored n d s = if ltb n.waiting 256 then set s n.waiting d else s

-- counts and store after a list of reports, the first one first
abbrev pub counted_all : List I2cDiagnostic → Diagnostics → Diagnostics
counted_all [] n = n
counted_all (d ∷ ds) n = counted_all ds (counted n)

abbrev pub stored_all : List I2cDiagnostic → Diagnostics → List I2cDiagnostic → List I2cDiagnostic
stored_all [] n s = s
stored_all (d ∷ ds) n s = stored_all ds (counted n) (stored n d s)
