-- How long the words and the lines are: no line has more than 48 bytes.
-- Assumes nothing.
use Rattle.std.proofs.Common.{◌≡◌, ℕ, ◌+◌, ◌*◌, ◌≤◌, ◌<◌, min, List, [], ◌∷◌, length, take, get_or, refl, ap, ◌∙◌, arith, length-append, length-take}
use Rattle.std.proofs.lemmas.Bool.Decides.{nat_tests}
use Rattle.diagnostics.specs.Reports.{Column, none, number, line_of}
use Rattle.diagnostics.specs.declared.I2cDiagnostic.{I2cDiagnostic}
use Rattle.diagnostics.specs.declared.I2cDiagnosticKind.{I2cDiagnosticKind}
use Rattle.diagnostics.specs.declared.I2cDiagnosticKind.TheVariants.{NotModelled, ReadOnly, NoSuchRegister, Undefined}
use Rattle.listing.specs.Text.{header, event_word, word_text, event_line, diagnostic_line, diagnostic_lines, column_text}
use Rattle.listing.specs.Appended.{Appended}
use Rattle.listing.proofs.Appending.{also}
use Rattle.listing.proofs.Digits.{decimal_length}
use Rattle.std.proofs.lemmas.List.{take_more, flat_map_more}

-- ---- words

pub event_word_length : (kind : ℕ) → length (event_word kind) ≤ 5
unfolding event_word
event_word_length kind = grind (arith, nat_tests)

pub report_word_length : (kind : I2cDiagnosticKind) → length (word_text (line_of kind).word) ≤ 11
report_word_length (NotModelled b) = omega arith
report_word_length (ReadOnly r) = omega arith
report_word_length (NoSuchRegister b) = omega arith
report_word_length (Undefined r b) = omega arith

column_length : (c : Column) → length (column_text c) ≡ 2
column_length none = refl
column_length (number n) = refl

-- ---- lines

pub header_length : length header ≤ 48
header_length = omega arith

pub event_length : (at kind value answer : ℕ) → length (event_line at kind value answer) ≤ 48
event_length at kind value answer = simp length-append (omega (arith, decimal_length at, event_word_length kind))

pub diagnostic_length : (d : I2cDiagnostic) → length (diagnostic_line d) ≤ 48
diagnostic_length d = simp (length-append, column_length) (omega (arith, decimal_length d.at, report_word_length d.kind))

-- so many lines have at most 48 bytes each
pub lines_length : (ds : List I2cDiagnostic) → length (diagnostic_lines ds) ≤ 48 * length ds
lines_length [] = omega arith
lines_length (d ∷ ds) = omega (arith, length-append (diagnostic_line d) (diagnostic_lines ds), diagnostic_length d, lines_length ds)

-- so have those of the first of 256 records
pub first_lines_length : (count : ℕ) (ds : List I2cDiagnostic) → length ds ≡ 256 → length (diagnostic_lines (take count ds)) ≤ 48 * min count 256
first_lines_length count ds l = omega (arith, lines_length (take count ds), length-take count ds ∙ ap (min count) l)

-- one line more, of the records' lines
pub line_more : (ds : List I2cDiagnostic) (i : ℕ) (d : I2cDiagnostic) {text out out₁ out₂ : List ℕ} {at r₁ r₂ : ℕ}
    → i < length ds → text ≡ diagnostic_line (get_or ds i d) → at ≤ length out → Appended (diagnostic_lines (take i ds)) out at out₁ r₁ → Appended text out₁ r₁ out₂ r₂
    → Appended (diagnostic_lines (take (i + 1) ds)) out at out₂ r₂
line_more ds i d h e l a b =
    rw (take_more ds i d h, ← flat_map_more diagnostic_line [] (take i ds) (get_or ds i d), ← e) (also l a b)
