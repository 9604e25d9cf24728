-- What `from_bcd` and `from_bcd_within` answer: the number of two digits, or none; and the meaning of a byte by that answer.
-- Assumes nothing.
use mathlib.Core.Bool.{Bool, true, false, ◌&&◌}
use mathlib.Core.Path.{◌≡◌, refl}
use Prim.Native.Nat.{ℕ, zero, suc, ◌/◌, ◌%◌, ◌≤◌, ◌<◌}
use native.Mathlib.Omega.{arith}
use lib.Dec.{T, leb}
use borrow.Author.Tests.{le-leb, lt-leb}
use Rattle.std.specs.Prelude.{if◌then◌else◌, Option, Some, None}
use Rattle.computed.proofs.Choice.{both_false}
use Rattle.computed.proofs.Claim.{eq, below, each}
use Rattle.computed.proofs.Lossless.{lossless}
use Rattle.fields.specs.Table.{Meaning, undefined, sets, from_digits, decimal, in_field, plain_meaning}
use Rattle.fields.specs.Answers.{of_digits, of_digits_within}

-- the answer by the two digits
module _ (b : ℕ) where
  pub two_digits : b / 16 ≤ 9 → b % 16 ≤ 9 → Some (from_digits b) ≡ of_digits b
  unfolding decimal
  two_digits p q = rw (le-leb (b / 16) 9 p, le-leb (b % 16) 9 q)

  pub no_tens : 9 < b / 16 → None ≡ of_digits b
  unfolding decimal
  no_tens p = rw (lt-leb (b / 16) 9 p)

  pub no_ones : 9 < b % 16 → None ≡ of_digits b
  unfolding decimal
  no_ones p = rw (both_false (leb (b / 16) 9) (leb (b % 16) 9) (lt-leb (b % 16) 9 p))

-- the answer within a range: a number that is in it, one that is below or above it, and none
within : (t : Bool) (x n low high : ℕ) → Some n ≡ (if t then Some x else None) → low ≤ n → n ≤ high →
    Some n ≡ (if t && (leb low x && leb x high) then Some x else None)
within true x n low high e p q =
    let i : n ≡ x = cc in
    rw (le-leb low x (omega arith), le-leb x high (omega arith)) e
within false x n low high e p q = e

under : (t : Bool) (x n low high : ℕ) → Some n ≡ (if t then Some x else None) → n < low →
    None ≡ (if t && (leb low x && leb x high) then Some x else None)
under true x n low high e p = let i : n ≡ x = cc in rw (lt-leb low x (omega arith))
under false x n low high e p = refl

over : (t : Bool) (x n low high : ℕ) → Some n ≡ (if t then Some x else None) → high < n →
    None ≡ (if t && (leb low x && leb x high) then Some x else None)
over true x n low high e p = let i : n ≡ x = cc in rw (both_false (leb low x) (leb x high) (lt-leb x high (omega arith)))
over false x n low high e p = refl

none : (t u : Bool) (x : ℕ) → None ≡ (if t then Some x else None) → None ≡ (if t && u then Some x else None)
none true u x e = let z : ◌≡◌ {A = ℕ} 0 1 = cc in absurd (omega arith)
none false u x e = refl

module _ (low high b : ℕ) where
  pub on_within : (n : ℕ) → Some n ≡ of_digits b → low ≤ n → n ≤ high → Some n ≡ of_digits_within low high b
  on_within n = within (decimal b) (from_digits b) n low high

  pub on_below : (n : ℕ) → Some n ≡ of_digits b → n < low → None ≡ of_digits_within low high b
  on_below n = under (decimal b) (from_digits b) n low high

  pub on_above : (n : ℕ) → Some n ≡ of_digits b → high < n → None ≡ of_digits_within low high b
  on_above n = over (decimal b) (from_digits b) n low high

  pub on_none : None ≡ of_digits b → None ≡ of_digits_within low high b
  on_none = none (decimal b) _ (from_digits b)

-- two answers that are computed to be the same at each byte
abbrev number : Option ℕ → ℕ
number (Some n) = suc n
number None = zero

abbrev answer : ℕ → Option ℕ
answer zero = None
answer (suc n) = Some n

answer_back : (a : Option ℕ) → answer (number a) ≡ a
answer_back (Some n) = refl
answer_back None = refl

pub each_answer : (f g : ℕ → Option ℕ) → T (below (λ k. eq (number (f k)) (number (g k))) 256) → (b : ℕ) → b < 256 → f b ≡ g b
each_answer f g t b h =
    lossless number answer answer_back _ _ (each (λ k. eq (number (f k)) (number (g k))) 0 256 t b (omega arith) h)

-- what goes by the answer goes by its test
pub by_some : (t : Bool) (x n : ℕ) (f : ℕ → Meaning) → Some n ≡ (if t then Some x else None) → f n ≡ (if t then f x else undefined)
by_some true x n f e = cc
by_some false x n f e = cc

pub by_none : (t : Bool) (x : ℕ) (m : Meaning) → None ≡ (if t then Some x else None) → undefined ≡ (if t then m else undefined)
by_none true x m e = cc
by_none false x m e = refl

-- a byte that is two digits and no more, at a register whose field is from low to high
module _ (r low high : ℕ) (range : (n : ℕ) → (leb low n && leb n high) ≡ in_field r n) (b : ℕ) where
  pub plain_some : (n : ℕ) → Some n ≡ of_digits_within low high b → sets r n false ≡ plain_meaning r b
  unfolding plain_meaning
  plain_some n e = by_some (decimal b && in_field r (from_digits b)) (from_digits b) n (λ k. sets r k false) (rw (range (from_digits b)) at e)

  pub plain_none : None ≡ of_digits_within low high b → undefined ≡ plain_meaning r b
  unfolding plain_meaning
  plain_none e = by_none (decimal b && in_field r (from_digits b)) (from_digits b) _ (rw (range (from_digits b)) at e)
