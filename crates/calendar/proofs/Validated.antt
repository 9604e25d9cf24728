-- When a number is in a range, by the test of it.
-- Assumes nothing.
use mathlib.Core.Path.{◌≡◌}
use mathlib.Core.Bool.{true, false}
use mathlib.Core.Logic.{⊎_elim}
use Rattle.std.specs.Prelude.{ℕ, ◌<◌, ◌⊎◌}
use Rattle.std.proofs.Common.{rules}
use Rattle.gregorian.specs.Times.{within}
use Rattle.gregorian.proofs.Checked.{In, Out, below, above}

pub in_of : (a b n : ℕ) → within a b n ≡ true → In a b n
unfolding within
in_of a b n h = search rules

either : (a b n : ℕ) → within a b n ≡ false → (b < n) ⊎ (n < a)
unfolding within
either a b n h = search rules

pub out_of : (a b n : ℕ) → within a b n ≡ false → Out a b n
out_of a b n h = ⊎_elim above below (either a b n h)
