-- The numbered answers lose nothing: each error can be read back from its number and values, so equal numbered answers are equal answers.
-- Assumes nothing.
use Prim.Native.Nat.{ℕ}
use mathlib.Core.List.{List}
use mathlib.Core.Path.{◌≡◌, refl}
use lib.Dec.{eqb}
use lib.IntN.{ℤ, pos, negsuc}
use lib.ListN.{get_or}
use Rattle.std.specs.Prelude.{if◌then◌else◌, Result}
use Rattle.computed.proofs.Lossless.{lossless}
use Rattle.refusals.specs.Numbered.{Row, answered}
use Rattle.refusals.proofs.Lossless.{answered_lossless}
use Rattle.calendar.specs.Answers.{date_row}
use Rattle.calendar.specs.declared.DateTimeError.{DateTimeError}
use Rattle.calendar.specs.declared.DateTimeError.TheVariants.{Year, Month, Day, Hour, Minute, Second}

abbrev pub natural : ℤ → ℕ
natural (pos n) = n
natural (negsuc n) = 0

abbrev pub value : List ℤ → ℕ → ℕ
value vs k = natural (get_or vs k (pos 0))

abbrev pub error_of : Row → DateTimeError
error_of r =
    if eqb r.number 1 then Year (value r.values 0)
    else if eqb r.number 2 then Month (value r.values 0)
    else if eqb r.number 3 then Day (value r.values 0) (value r.values 1) (value r.values 2)
    else if eqb r.number 4 then Hour (value r.values 0)
    else if eqb r.number 5 then Minute (value r.values 0)
    else Second (value r.values 0)

pub error_back : (e : DateTimeError) → error_of (date_row e) ≡ e
error_back (Year y) = refl
error_back (Month m) = refl
error_back (Day y m d) = refl
error_back (Hour h) = refl
error_back (Minute m) = refl
error_back (Second s) = refl

-- of two errors: the same number and values, the same error
pub error_lossless : (e f : DateTimeError) → date_row e ≡ date_row f → e ≡ f
error_lossless = lossless date_row error_of error_back

-- of two answers of `validate`, `new`, `seconds_since_2000` or `weekday`
pub date_lossless : {A : Type 0} (p q : Result A DateTimeError) → answered date_row p ≡ answered date_row q → p ≡ q
date_lossless = answered_lossless date_row error_lossless
