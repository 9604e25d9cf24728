-- An event by value keeps a sound chip sound.
-- Assumes nothing.
use mathlib.Core.Bool.{true}
use mathlib.Core.Path.{◌≡◌, ap, ◌∙◌}
use Rattle.ds3231.specs.Calls.{sound, step}
use Rattle.ds3231.proofs.Sounds.{step_sound}
use Rattle.ds3231.specs.declared.Ds3231.{Ds3231}
use Rattle.ds3231.specs.declared.Event.{Event}
use Rattle.ds3231_step.specs.Answers.{SteppedBy}
use Rattle.ds3231_step.specs.declared.Stepped.{Stepped}

pub stepped_sound : (e : Event) (c : Ds3231) (r : Stepped) → SteppedBy (step e c) c r → sound c ≡ true → sound r.chip ≡ true
stepped_sound e c r p h = ap sound p.chip ∙ step_sound e c h
