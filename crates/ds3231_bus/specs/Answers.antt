-- What the calls on a lent chip and store promise: answer, chip, store and output of each call, in the numbers of 'The table of refusals'. Assumes nothing.
use Rattle.computed.specs.Prelude.{ℕ, List, []}
use Rattle.std.specs.Prelude.{◌≡◌, Result, Ok, Err}
use Rattle.refusals.specs.Numbered.{Numbered, accepted, Row, refused_by}
use Rattle.diagnostics.specs.Lent.{lent_row}
use Rattle.diagnostics.specs.declared.I2cDiagnostic.{I2cDiagnostic}
use Rattle.diagnostics.specs.declared.LentError.{LentError}
use Rattle.ds3231.specs.Calls.{Answered, replied, copied, bus, taking, chip_after, store_after, out_after, answer}
use Rattle.ds3231.specs.declared.Ds3231.{Ds3231}
use Rattle.ds3231.specs.declared.Event.{Event}
use Rattle.ds3231.specs.declared.Reply.{Reply}
use Rattle.ds3231_bus.specs.declared.takings.TakeError.{TakeError}
use Rattle.ds3231_bus.specs.declared.takings.TakeError.TheVariants.{Lent, OutTooShort}

-- an event's reply, or 'The table of refusals': 10, 11
abbrev pub bus_numbered : Result Reply LentError → Numbered Answered
bus_numbered (Ok y) = accepted (replied y)
bus_numbered (Err e) = refused_by (lent_row e)

-- 'The table of refusals': taking 10, 11, 12
abbrev pub take_row : TakeError → Row
take_row (Lent e) = lent_row e
take_row OutTooShort = record { number = 12; values = [] }

-- how many records taking copied, or its refusal
abbrev pub take_numbered : Result ℕ TakeError → Numbered Answered
take_numbered (Ok n) = accepted (copied n)
take_numbered (Err e) = refused_by (take_row e)

-- a bus call on the chip c with the store s: its answer a, and the chip and the store after it
pub record Called (e : Event) (c : Ds3231) (s : List I2cDiagnostic) (a : Result Reply LentError) (c' : Ds3231) (s' : List I2cDiagnostic) : Type 0 where
  pub answers : bus_numbered a ≡ answer (bus s e) c
  pub chip : c' ≡ chip_after (bus s e) c
  pub store : s' ≡ store_after (bus s e) c

-- taking from the store s into the output o: its answer a, and the chip, the store and the output after it
pub record Took (c : Ds3231) (s o : List I2cDiagnostic) (a : Result ℕ TakeError) (c' : Ds3231) (s' o' : List I2cDiagnostic) : Type 0 where
  pub answers : take_numbered a ≡ answer (taking s o) c
  pub chip : c' ≡ chip_after (taking s o) c
  pub store : s' ≡ store_after (taking s o) c
  pub out : o' ≡ out_after (taking s o) c
