-- Document 01, 'The table of refusals': every call keeps a sound chip sound. Here of whatever meets the promise of a bus call or of taking, which the calls on a lent chip and those by value make alike.
-- Assumes nothing.
use mathlib.Core.Bool.{true}
use mathlib.Core.List.{List}
use mathlib.Core.Path.{◌≡◌, ap, ◌∙◌}
use Rattle.diagnostics.specs.declared.I2cDiagnostic.{I2cDiagnostic}
use Rattle.ds3231.specs.Calls.{sound, bus, taking}
use Rattle.ds3231.proofs.Sounds.{sound_kept}
use Rattle.ds3231.specs.declared.Ds3231.{Ds3231}
use Rattle.ds3231.specs.declared.Event.{Event}
use Rattle.ds3231_bus.specs.Answers.{Called, Took}
use Rattle.ds3231_bus.specs.declared.takings.TakeError.{TakeError}
use Rattle.diagnostics.specs.declared.LentError.{LentError}
use Rattle.ds3231.specs.declared.Reply.{Reply}
use Rattle.std.specs.Prelude.{ℕ, Result}

-- `address`, `write`, `read`, `stop`, and those of a session of bus_by_value
pub called_sound : (e : Event) (c : Ds3231) (s : List I2cDiagnostic) (a : Result Reply LentError) (c' : Ds3231) (s' : List I2cDiagnostic) → Called e c s a c' s' → sound c ≡ true → sound c' ≡ true
called_sound e c s a c' s' p h = ap sound p.chip ∙ sound_kept (bus s e) c h

-- `take_diagnostics`, and `take` of a session of bus_by_value
pub took_sound : (c : Ds3231) (s o : List I2cDiagnostic) (a : Result ℕ TakeError) (c' : Ds3231) (s' o' : List I2cDiagnostic) → Took c s o a c' s' o' → sound c ≡ true → sound c' ≡ true
took_sound c s o a c' s' o' p h = ap sound p.chip ∙ sound_kept (taking s o) c h
