-- Each arm answers the register of its number, and the last none.
use Prim.Native.Nat.{ℕ, zero, suc, ◌≤◌}
use mathlib.Core.Path.{◌≡◌, sym, ap}
use native.Mathlib.Omega.{arith}
use Rattle.std.specs.Prelude.{Option, Some, None, ok_or}
use Rattle.ds3231.specs.Map.{Names, named, no_register}
use Rattle.ds3231.specs.declared.Register.{Register}
use Rattle.ds3231.specs.declared.Register.TheVariants.{Seconds, Minutes, Hours, Weekday, Date, Month, Year, Alarm1Seconds, Alarm1Minutes, Alarm1Hours, Alarm1Day, Alarm2Minutes, Alarm2Hours, Alarm2Day, Control, Status, Aging, TemperatureMsb, TemperatureLsb}
use Rattle.ds3231.proofs.Map.{names_one}
use Rattle.ds3231.proofs.pointer.RegisterTryFromU8.try_from.Goals as goal

-- a number that is none of those below k is at least k
abbrev Not : ℕ → ℕ → Type 0
Not zero n = Unit {0}
Not (suc k) n = Not k n × (n ≡ k → ⊥)

past : (k n : ℕ) → Not k n → k ≤ n
past zero n h = omega arith
past (suc k) n h = let z = past k n h.0 in let y = h.1 in omega arith

is : (n : ℕ) (d : Option Register) → Names n d → ok_or d no_register ≡ ok_or (named n) no_register
is n d h = ap (λ (x : Option Register). ok_or x no_register) (sym (names_one n d h))

pub returns-in-0 : goal.returns-in-0
returns-in-0 c = is c.args.number (Some Seconds) (sym c.in-0.is)

pub returns-in-1 : goal.returns-in-1
returns-in-1 c = is c.args.number (Some Minutes) (sym c.in-1.is)

pub returns-in-2 : goal.returns-in-2
returns-in-2 c = is c.args.number (Some Hours) (sym c.in-2.is)

pub returns-in-3 : goal.returns-in-3
returns-in-3 c = is c.args.number (Some Weekday) (sym c.in-3.is)

pub returns-in-4 : goal.returns-in-4
returns-in-4 c = is c.args.number (Some Date) (sym c.in-4.is)

pub returns-in-5 : goal.returns-in-5
returns-in-5 c = is c.args.number (Some Month) (sym c.in-5.is)

pub returns-in-6 : goal.returns-in-6
returns-in-6 c = is c.args.number (Some Year) (sym c.in-6.is)

pub returns-in-7 : goal.returns-in-7
returns-in-7 c = is c.args.number (Some Alarm1Seconds) (sym c.in-7.is)

pub returns-in-8 : goal.returns-in-8
returns-in-8 c = is c.args.number (Some Alarm1Minutes) (sym c.in-8.is)

pub returns-in-9 : goal.returns-in-9
returns-in-9 c = is c.args.number (Some Alarm1Hours) (sym c.in-9.is)

pub returns-in-10 : goal.returns-in-10
returns-in-10 c = is c.args.number (Some Alarm1Day) (sym c.in-10.is)

pub returns-in-11 : goal.returns-in-11
returns-in-11 c = is c.args.number (Some Alarm2Minutes) (sym c.in-11.is)

pub returns-in-12 : goal.returns-in-12
returns-in-12 c = is c.args.number (Some Alarm2Hours) (sym c.in-12.is)

pub returns-in-13 : goal.returns-in-13
returns-in-13 c = is c.args.number (Some Alarm2Day) (sym c.in-13.is)

pub returns-in-14 : goal.returns-in-14
returns-in-14 c = is c.args.number (Some Control) (sym c.in-14.is)

pub returns-in-15 : goal.returns-in-15
returns-in-15 c = is c.args.number (Some Status) (sym c.in-15.is)

pub returns-in-16 : goal.returns-in-16
returns-in-16 c = is c.args.number (Some Aging) (sym c.in-16.is)

pub returns-in-17 : goal.returns-in-17
returns-in-17 c = is c.args.number (Some TemperatureMsb) (sym c.in-17.is)

pub returns-in-18 : goal.returns-in-18
returns-in-18 c = is c.args.number (Some TemperatureLsb) (sym c.in-18.is)

pub returns-in_default : goal.returns-in_default
returns-in_default c = is c.args.number None (past 19 _ c.in_default.in_default-own.rest)
