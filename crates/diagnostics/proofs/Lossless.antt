-- A line loses nothing of a kind, and a numbered answer nothing of what `report` answers.
-- Assumes nothing.
use Prim.Native.Nat.{ℕ}
use mathlib.Core.Path.{◌≡◌, refl}
use lib.Dec.{eqb}
use Rattle.refusals.specs.Numbered.{Row, answered}
use Rattle.refusals.proofs.Lossless.{answered_lossless}
use Rattle.std.specs.Prelude.{if◌then◌else◌, Result}
use Rattle.computed.proofs.Lossless.{lossless}
use Rattle.diagnostics.specs.Lent.{not_sound_row, lent_row}
use Rattle.diagnostics.specs.Reports.{Word, UNDEFINED, READONLY, NOREGISTER, NOTMODELLED, Column, none, number, Line, line_of}
use Rattle.diagnostics.specs.declared.I2cDiagnosticKind.{I2cDiagnosticKind}
use Rattle.diagnostics.specs.declared.I2cDiagnosticKind.TheVariants.{NotModelled, ReadOnly, NoSuchRegister, Undefined}
use Rattle.diagnostics.specs.declared.NotSound.{NotSound as NotSoundError}
use Rattle.diagnostics.specs.declared.LentError.{LentError}
use Rattle.diagnostics.specs.declared.LentError.TheVariants.{NotSound, StoreLength}

abbrev value : Column → ℕ
value none = 0
value (number n) = n

-- the kind of a line, read back
abbrev kind_by : Word → ℕ → ℕ → I2cDiagnosticKind
kind_by UNDEFINED r b = Undefined r b
kind_by READONLY r b = ReadOnly r
kind_by NOREGISTER r b = NoSuchRegister r
kind_by NOTMODELLED r b = NotModelled b

abbrev kind_of : Line → I2cDiagnosticKind
kind_of l = kind_by l.word (value l.register) (value l.byte)

back : (k : I2cDiagnosticKind) → kind_of (line_of k) ≡ k
back (NotModelled b) = refl
back (ReadOnly r) = refl
back (NoSuchRegister b) = refl
back (Undefined r b) = refl

pub line_lossless : (k l : I2cDiagnosticKind) → line_of k ≡ line_of l → k ≡ l
line_lossless = lossless line_of kind_of back

-- a call that is lent a store
abbrev error_of : Row → LentError
error_of r = if eqb r.number 10 then NotSound else StoreLength

error_back : (e : LentError) → error_of (lent_row e) ≡ e
error_back NotSound = refl
error_back StoreLength = refl

pub lent_lossless : (d e : LentError) → lent_row d ≡ lent_row e → d ≡ e
lent_lossless = lossless lent_row error_of error_back

not_sound_lossless : (d e : NotSoundError) → not_sound_row d ≡ not_sound_row e → d ≡ e
not_sound_lossless d e q = refl

-- of two answers of a call that is passed a chip and no store
pub asked_lossless : {A : Type 0} (p q : Result A NotSoundError) → answered not_sound_row p ≡ answered not_sound_row q → p ≡ q
asked_lossless = answered_lossless not_sound_row not_sound_lossless

-- of two answers of a call that is lent a store
pub answer_lossless : {A : Type 0} (p q : Result A LentError) → answered lent_row p ≡ answered lent_row q → p ≡ q
answer_lossless = answered_lossless lent_row lent_lossless
