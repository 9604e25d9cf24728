-- `ds3231::Register::next` meets its contract: what the next number names, or the first register.
use mathlib.Core.Path.{◌≡◌, refl}
use Rattle.std.specs.Prelude.{Option, Some, None, ok_or}
use Rattle.std.specs.Result.{result_unwrap_or}
use Rattle.ds3231.specs.Map.{no_register}
use Rattle.ds3231.specs.declared.Register.{Register}
use Rattle.ds3231.specs.declared.Register.TheVariants.{Seconds}
use Rattle.ds3231.proofs.Map.{next_named, or_first}
use Rattle.ds3231.proofs.Register.next.Goals as goal

-- a register, or the first where there is none
value_is : (d : Option Register) → result_unwrap_or (ok_or d no_register) Seconds ≡ or_first d
value_is (Some r) = refl
value_is None = refl

pub returns : goal.returns
returns c = rw (c.unwrap_or.ensures, c.try_from.ensures, c.number.ensures, value_is) (next_named c.args.self)
