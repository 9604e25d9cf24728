-- A number's digits: they are those that the library prints, and how many there are at most.
-- Assumes nothing.
use Rattle.std.proofs.Common.{◌≡◌, ℕ, zero, suc, ◌/◌, ◌^◌, ◌<◌, ◌≤◌, length, arith, rules, decimal, length-append}
use Rattle.std.proofs.lemmas.Fmt.{decimal_from_appends, length-decimal-le}
use Rattle.std.proofs.lemmas.Bool.Decides.{nat_tests}
use Rattle.listing.specs.Text.{digits_in, decimal_of}

pub decimal_is : (n : ℕ) → n < 2 ^ 64 → decimal_of n ≡ decimal n
unfolding decimal_of
decimal_is n h = decimal_from_appends digits_in (search rules) 20 n h (length-decimal-le 20 n (omega arith) (omega arith) h)

-- there are at most as many as there are places
one_more : (places n : ℕ) → length (digits_in places (n / 10)) ≤ places → length (digits_in (suc places) n) ≤ suc places
one_more places n h = grind (arith, nat_tests, length-append)

few : (places n : ℕ) → length (digits_in places n) ≤ places
few zero n = omega arith
few (suc places) n = one_more places n (few places (n / 10))

pub decimal_length : (n : ℕ) → length (decimal_of n) ≤ 20
unfolding decimal_of
decimal_length n = few 20 n

-- a byte has three
pub byte_length : (n : ℕ) → n < 256 → length (decimal_of n) ≤ 3
byte_length n h = rw (decimal_is n (omega arith)) (length-decimal-le 3 n (omega arith) (omega arith) (omega arith))
