-- `ds3231_chip::power::power_on` meets its contract.
use Prim.Native.Nat.{ℕ}
use mathlib.Core.Bool.{true, false}
use mathlib.Core.Path.{◌≡◌, refl, sym, ap₂, ◌∙◌}
use mir.Facts.{to_z-of_z}
use mir.Syntax.{w16}
use mir.Val.{SFits}
use borrow.Author.Rules.{rules}
use Rattle.refusals.proofs.Checks.{by_accepted}
use Rattle.calendar.specs.Stated.{checked, weekday_of}
use Rattle.calendar.proofs.Laws.{accepted_in_range, nearest_same}
use Rattle.ds3231.specs.Calls.{in_quarters, in_conversion_times}
use Rattle.ds3231.proofs.PowersOn.{times_legal, powers}
use Rattle.ds3231_chip.proofs.power.power_on.Goals as goal

pub returns-then-not-in_quarters : goal.returns-then-not-in_quarters
returns-then-not-in_quarters c =
    let s : SFits w16 c.args.config.temperature_quarters = search rules in
    let v = by_accepted (checked c.args.config.start) (weekday_of c.args.config.start) _ c.in_ok-weekday.ensures in
    let q : in_quarters c.args.config.temperature_quarters ≡ false = search rules in
    rw (to_z-of_z s, (powers c.args.config).then_quarters v.0 q) refl

pub returns-then-not-in_conversion_times : goal.returns-then-not-in_conversion_times
returns-then-not-in_conversion_times c =
    let v = by_accepted (checked c.args.config.start) (weekday_of c.args.config.start) _ c.in_ok-weekday.ensures in
    let q : in_quarters c.args.config.temperature_quarters ≡ true = search rules in
    let n : in_conversion_times c.args.config.conversion_nanos ≡ false = search rules in
    rw ((powers c.args.config).then_time v.0 q (sym (times_legal _) ∙ n)) refl

pub returns : goal.returns
returns c =
    let v = by_accepted (checked c.args.config.start) (weekday_of c.args.config.start) _ c.in_ok-weekday.ensures in
    let q : in_quarters c.args.config.temperature_quarters ≡ true = search rules in
    let n : in_conversion_times c.args.config.conversion_nanos ≡ true = search rules in
    let d : c.default.result ≡ record { waiting = 0; dropped = 0 } = ap₂ (λ (w d : ℕ). record { waiting = w; dropped = d }) c.default.ensures.0 c.default.ensures.1 in
    rw ((powers c.args.config).gives_chip v.0 q (sym (times_legal _) ∙ n), d, c.timing_from.ensures, c.set.ensures, c.registers_on.ensures, nearest_same _ (accepted_in_range _ v.0), v.1) refl
