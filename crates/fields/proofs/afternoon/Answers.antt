-- `fields::afternoon` meets its contract: bit 5 by its mask.
use Prim.Native.Nat.{◌/◌, ◌%◌}
use native.Mathlib.Omega.{arith}
use lib.Bits.{and_high}
use borrow.Author.Tests.{eq-eqb, ne_eqb}
use Rattle.fields.specs.Table.{bit}
use Rattle.fields.proofs.afternoon.Goals as goal

pub returns-then-byte-eq0 : goal.returns-then-byte-eq0
unfolding bit
returns-then-byte-eq0 c = rw (ne_eqb (c.args.byte / 32 % 2) 1 (omega (arith, and_high c.args.byte 1 5)))

pub returns-else-byte-eq0 : goal.returns-else-byte-eq0
unfolding bit
returns-else-byte-eq0 c = rw (eq-eqb (c.args.byte / 32 % 2) 1 (omega (arith, and_high c.args.byte 1 5)))
