-- `calendar::days_since_2000` meets its contract: January and February belong to the March year before.
use mathlib.Core.Logic.{⊎_elim, inl, inr}
use mathlib.Core.Path.{◌≡◌, ap, ◌∙◌}
use mir.Val.{bool_byte}
use lib.Dec.{leb}
use borrow.Author.Tests.{le-leb, lt-leb}
use Prim.Native.Nat.{ℕ, ◌≤◌}
use native.Mathlib.Omega.{arith}
use Rattle.computed.proofs.Choice.{le_or_lt}
use Rattle.gregorian.specs.Ranges.{ValidDate}
use Rattle.gregorian.proofs.Months.{month_bounds}
use Rattle.calendar.proofs.Formula.{start}
use Rattle.calendar.proofs.Hinnant.{Before, before_bounds, number}
use Rattle.calendar.proofs.days_since_2000.Goals as goal

day_small : (y m d : ℕ) → ValidDate y m d → d ≤ 31
day_small y m d h = omega (arith, month_bounds y m)

before_of : (m b : ℕ) → b ≡ bool_byte (leb m 2) → Before m b
before_of m b e = ⊎_elim (λ h. inl (h, e ∙ ap bool_byte (le-leb m 2 h))) (λ h. inr (h, e ∙ ap bool_byte (lt-leb m 2 h))) (le_or_lt m 2)

pub march_days-requires : goal.march_days-requires
unfolding start
march_days-requires c =
    let before = before_of _ _ c.from-before.ensures in
    let n = number _ _ _ _ c.requires before in
    let b = before_bounds _ _ c.requires.month_from c.requires.month_to before in
    rw (c.from.ensures, c.from-2.ensures, c.from-3.ensures) (omega arith, omega (arith, b), c.requires.day_from, day_small _ _ _ c.requires, omega arith)

pub returns : goal.returns
unfolding start
returns c =
    let e = c.march_days.ensures in
    omega (arith, e, c.from.ensures, c.from-2.ensures, c.from-3.ensures, number _ _ _ _ c.requires (before_of _ _ c.from-before.ensures))
