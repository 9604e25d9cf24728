-- 'Where to use each form': the number and the values of each refusal, by the cases of its enum. Assumes nothing.
use Rattle.computed.specs.Prelude.{[], pos}
use Rattle.std.specs.Prelude.{◌∷◌}
use Rattle.refusals.specs.Numbered.{Row}
use Rattle.calendar.specs.declared.DateTimeError.{DateTimeError}
use Rattle.calendar.specs.declared.DateTimeError.TheVariants.{Year, Month, Day, Hour, Minute, Second}

-- 'The table of refusals': 1 to 6, with the values
abbrev pub date_row : DateTimeError → Row
date_row (Year y) = record { number = 1; values = pos y ∷ [] }
date_row (Month m) = record { number = 2; values = pos m ∷ [] }
date_row (Day y m d) = record { number = 3; values = pos y ∷ pos m ∷ pos d ∷ [] }
date_row (Hour h) = record { number = 4; values = pos h ∷ [] }
date_row (Minute m) = record { number = 5; values = pos m ∷ [] }
date_row (Second s) = record { number = 6; values = pos s ∷ [] }
