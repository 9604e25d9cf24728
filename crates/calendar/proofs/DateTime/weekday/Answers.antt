-- `calendar::DateTime::weekday` meets its contract, by what `validate` answers and the weekday's formula.
use mathlib.Core.Path.{◌≡◌, ap, sym, ◌∙◌}
use native.Mathlib.Omega.{arith}
use Rattle.refusals.specs.Numbered.{Numbered, accepted, and_then}
use Rattle.calendar.specs.Dates.{weekday_of}
use Rattle.calendar.proofs.Laws.{accepted_in_range, weekday_formula}
use Rattle.calendar.proofs.DateTime.weekday.Goals as goal

pub days_since_2000-days-requires : goal.days_since_2000-days-requires
days_since_2000-days-requires c = (accepted_in_range _ (sym c.in_ok-validate.ensures)).date

pub returns : goal.returns
returns c =
    let w : c.weekday_of_day.result ≡ weekday_of c.args.self = omega (arith, c.weekday_of_day.ensures, c.days_since_2000-days.ensures, weekday_formula c.args.self) in
    ap accepted w ∙ ap (λ (k : Numbered (Unit {0})). and_then k (accepted (weekday_of c.args.self))) c.in_ok-validate.ensures
