-- `calendar::DateTime::validate` meets its contract: each return is the first fault, or none.
use mathlib.Core.Bool.{true, false}
use mathlib.Core.Path.{◌≡◌, sym, ◌∙◌}
use native.Mathlib.Omega.{arith}
use borrow.Author.Tests.{ltb-true, ltb-false}
use Rattle.std.proofs.Common.{rules}
use Rattle.gregorian.specs.Times.{within}
use Rattle.gregorian.proofs.Checked.{below, above, bad_year, bad_month, bad_day, bad_hour, bad_minute, bad_second, valid_accepted}
use Rattle.calendar.specs.Dates.{equations}
use Rattle.calendar.proofs.Validated.{in_of, out_of}
use Rattle.calendar.proofs.DateTime.validate.Goals as goal
use Rattle.calendar.proofs.DateTime.validate.Goals.{then-self-eq0-via-then-self-eq0, then-self-eq0-via-else-self-eq0+then-is_past_month}

pub returns-then-not-contains : goal.returns-then-not-contains
unfolding within
returns-then-not-contains c =
    let w : within 2000 2199 c.args.self.year ≡ false = search rules in
    bad_year _ (out_of _ _ _ w) ∙ sym (equations.checked_is _)

pub returns-then-not-contains-2 : goal.returns-then-not-contains-2
unfolding within
returns-then-not-contains-2 c =
    let y : within 2000 2199 c.args.self.year ≡ true = search rules in
    let w : within 1 12 c.args.self.month ≡ false = search rules in
    bad_month _ (in_of _ _ _ y) (out_of _ _ _ w) ∙ sym (equations.checked_is _)

pub returns-then-self-eq0 : goal.returns-then-self-eq0
unfolding within
returns-then-self-eq0 c =
    let y : within 2000 2199 c.args.self.year ≡ true = search rules in
    let m : within 1 12 c.args.self.month ≡ true = search rules in
    bad_day _ (in_of _ _ _ y) (in_of _ _ _ m)
    (elim c.then-self-eq0.branch [ then-self-eq0-via-then-self-eq0 w ↦ below (omega arith) | then-self-eq0-via-else-self-eq0+then-is_past_month w ↦ above (ltb-true _ _ (sym w.is_past_month.ensures ∙ w.if-is_past_month.true)) ])
    ∙ sym (equations.checked_is _)

pub returns-then-self-gt23 : goal.returns-then-self-gt23
unfolding within
returns-then-self-gt23 c =
    let y : within 2000 2199 c.args.self.year ≡ true = search rules in
    let m : within 1 12 c.args.self.month ≡ true = search rules in
    let d = sym c.is_past_month.ensures ∙ c.if-is_past_month.false in
    bad_hour _ (in_of _ _ _ y) (in_of _ _ _ m) (omega (arith, ltb-false)) (above (omega arith)) ∙ sym (equations.checked_is _)

pub returns-then-self-gt59 : goal.returns-then-self-gt59
unfolding within
returns-then-self-gt59 c =
    let y : within 2000 2199 c.args.self.year ≡ true = search rules in
    let m : within 1 12 c.args.self.month ≡ true = search rules in
    let d = sym c.is_past_month.ensures ∙ c.if-is_past_month.false in
    bad_minute _ (in_of _ _ _ y) (in_of _ _ _ m) (omega (arith, ltb-false)) (omega arith) (above (omega arith)) ∙ sym (equations.checked_is _)

pub returns-then-self-gt59-2 : goal.returns-then-self-gt59-2
unfolding within
returns-then-self-gt59-2 c =
    let y : within 2000 2199 c.args.self.year ≡ true = search rules in
    let m : within 1 12 c.args.self.month ≡ true = search rules in
    let d = sym c.is_past_month.ensures ∙ c.if-is_past_month.false in
    bad_second _ (in_of _ _ _ y) (in_of _ _ _ m) (omega (arith, ltb-false)) (omega arith) (omega arith) (above (omega arith)) ∙ sym (equations.checked_is _)

pub returns : goal.returns
unfolding within
returns c =
    let y : within 2000 2199 c.args.self.year ≡ true = search rules in
    let m : within 1 12 c.args.self.month ≡ true = search rules in
    let d = sym c.is_past_month.ensures ∙ c.if-is_past_month.false in
    let iy = in_of 2000 2199 c.args.self.year y in
    let im = in_of 1 12 c.args.self.month m in
    sym (equations.checked_is _ ∙ valid_accepted _ (omega (arith, ltb-false)))
