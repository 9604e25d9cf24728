-- `fields::to_bcd` meets its contract.
use native.Mathlib.Omega.{arith}
use Rattle.fields.specs.Bytes.{to_digits}
use Rattle.fields.proofs.to_bcd.Goals as goal

pub returns : goal.returns
unfolding to_digits
returns c = omega arith
