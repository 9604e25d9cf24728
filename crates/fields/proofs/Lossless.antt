-- The meaning of what `decode` answers loses nothing: the answer can be read back from it.
-- Assumes nothing.
use Prim.Native.Nat.{ℕ}
use mathlib.Core.Bool.{Bool}
use mathlib.Core.Path.{◌≡◌, refl}
use lib.Dec.{eqb}
use Rattle.std.specs.Prelude.{if◌then◌else◌, Option, Some, None}
use Rattle.computed.proofs.Lossless.{lossless}
use Rattle.fields.specs.Table.{Meaning, undefined, sets}
use Rattle.fields.specs.Answers.{decoded_meaning}
use Rattle.fields.specs.declared.Field.{Field}
use Rattle.fields.specs.declared.Field.TheVariants.{Second, Minute, Hour, Weekday, Day, Month, Year}

abbrev field_of : ℕ → ℕ → Bool → Field
field_of r n flag =
    if eqb r 0 then Second n
    else if eqb r 1 then Minute n
    else if eqb r 2 then Hour n flag
    else if eqb r 3 then Weekday n
    else if eqb r 4 then Day n
    else if eqb r 5 then Month n flag
    else Year n

abbrev decoded_of : Meaning → Option Field
decoded_of undefined = None
decoded_of (sets r n flag) = Some (field_of r n flag)

decoded_back : (d : Option Field) → decoded_of (decoded_meaning d) ≡ d
decoded_back None = refl
decoded_back (Some (Second s)) = refl
decoded_back (Some (Minute m)) = refl
decoded_back (Some (Hour h twelve)) = refl
decoded_back (Some (Weekday w)) = refl
decoded_back (Some (Day d)) = refl
decoded_back (Some (Month m century)) = refl
decoded_back (Some (Year y)) = refl

pub decoded_lossless : (p q : Option Field) → decoded_meaning p ≡ decoded_meaning q → p ≡ q
decoded_lossless = lossless decoded_meaning decoded_of decoded_back
