-- `fields::from_bcd` meets its contract.
use mathlib.Core.Logic.{⊎_elim}
use mathlib.Core.Path.{ap, ◌∙◌}
use native.Mathlib.Omega.{arith}
use Rattle.fields.specs.Table.{from_digits}
use Rattle.std.specs.Prelude.{Some}
use Rattle.fields.proofs.Digits.{two_digits, no_tens, no_ones}
use Rattle.fields.proofs.from_bcd.Goals as goal

pub returns-then-tens-gt9 : goal.returns-then-tens-gt9
returns-then-tens-gt9 c = ⊎_elim (λ w. no_tens _ (omega arith)) (λ w. no_ones _ (omega arith)) c.then-tens-gt9.either

pub returns : goal.returns
unfolding from_digits
returns c = ap Some (omega arith) ∙ two_digits c.args.byte (omega arith) (omega arith)
