-- The numbered answers of the bus calls and of taking lose nothing: each answer can be read back.
-- Assumes nothing.
use Prim.Native.Nat.{ℕ}
use mathlib.Core.Path.{◌≡◌, refl}
use lib.Dec.{eqb}
use Rattle.std.specs.Prelude.{if◌then◌else◌, Result, Ok, Err}
use Rattle.refusals.specs.Numbered.{Numbered, accepted, refused}
use Rattle.computed.proofs.Lossless.{lossless}
use Rattle.diagnostics.specs.declared.LentError.{LentError}
use Rattle.diagnostics.specs.declared.LentError.TheVariants.{NotSound, StoreLength}
use Rattle.ds3231.specs.Calls.{Answered, replied, copied}
use Rattle.ds3231.specs.declared.Reply.{Reply}
use Rattle.ds3231_bus.specs.Answers.{bus_numbered, take_numbered}
use Rattle.ds3231_bus.specs.declared.takings.TakeError.{TakeError}
use Rattle.ds3231_bus.specs.declared.takings.TakeError.TheVariants.{Lent, OutTooShort}

-- the bus calls
abbrev bus_of : Numbered Answered → Result Reply LentError
bus_of (accepted (replied y)) = Ok y
bus_of (accepted (copied n)) = Err NotSound
bus_of (refused n vs) = Err (if eqb n 10 then NotSound else StoreLength)

bus_back : (a : Result Reply LentError) → bus_of (bus_numbered a) ≡ a
bus_back (Ok y) = refl
bus_back (Err NotSound) = refl
bus_back (Err StoreLength) = refl

pub bus_lossless : (a b : Result Reply LentError) → bus_numbered a ≡ bus_numbered b → a ≡ b
bus_lossless = lossless bus_numbered bus_of bus_back

-- taking
abbrev take_of : Numbered Answered → Result ℕ TakeError
take_of (accepted (replied y)) = Ok 0
take_of (accepted (copied n)) = Ok n
take_of (refused n vs) = Err (if eqb n 10 then Lent NotSound else if eqb n 11 then Lent StoreLength else OutTooShort)

take_back : (a : Result ℕ TakeError) → take_of (take_numbered a) ≡ a
take_back (Ok n) = refl
take_back (Err (Lent NotSound)) = refl
take_back (Err (Lent StoreLength)) = refl
take_back (Err OutTooShort) = refl

pub take_lossless : (a b : Result ℕ TakeError) → take_numbered a ≡ take_numbered b → a ≡ b
take_lossless = lossless take_numbered take_of take_back
