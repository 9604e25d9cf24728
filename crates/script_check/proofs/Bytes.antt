-- Bytes 8 to 15 of a record by its kind, its value and the number of the others; the numbers and the records that the library
-- reads.
-- Assumes nothing.
use Rattle.std.proofs.Common.{◌≡◌, ℕ, zero, suc, ◌+◌, ◌*◌, ◌≤◌, ◌<◌, ◌/◌, List, [], length, get_or, take, drop, refl, ap, ◌∙◌, mul-zero, mul-suc, arith}
use Rattle.std.proofs.lemmas.List.{get_or-take, get_or-drop, drop-drop}
use Rattle.std.specs.Int.{w64, from_le_bytes}
use Rattle.std.specs.Simd.{first_chunks}
use Rattle.script_check.specs.Records.{little_endian, kind_of, value_of, padding_of}

-- the number that the library makes of eight bytes
pub from_le_bytes_is : (s : List ℕ) → from_le_bytes w64 s ≡ little_endian s 0 8
unfolding little_endian
from_le_bytes_is s = omega arith

-- a number of n bytes of s from byte a on
pub part_number : (s : List ℕ) (a n from k : ℕ) → from + k ≤ n → little_endian (take n (drop a s)) from k ≡ little_endian s (a + from) k
unfolding little_endian
part_number s a n from zero h = refl
part_number s a n from (suc k) h =
    grind (arith, get_or-take n (drop a s) from 0 (omega arith), get_or-drop a s from 0, part_number s a n (from + 1) k (omega arith))

-- chunk i of n elements
pub chunk : {X : Type 0} (n k : ℕ) (xs : List X) (i : ℕ) (d : List X) → i < k → get_or (first_chunks n k xs) i d ≡ take n (drop (n * i) xs)
chunk n zero xs i d h = absurd (omega arith)
chunk n (suc k) xs zero d h = rw mul-zero
chunk n (suc k) xs (suc i) d h = chunk n k (drop n xs) i d (omega arith) ∙ ap (take n) (drop-drop (n * i) n xs ∙ ap (λ (j : ℕ). drop j xs) (omega (arith, mul-suc n i)))

-- the number of half h of a record's bytes
pub half_number : (b : List ℕ) (h : ℕ) → h < length b / 8 → from_le_bytes w64 (get_or (first_chunks 8 (length b / 8) b) h []) ≡ little_endian b (8 * h) 8
half_number b h m =
    let half : List ℕ = get_or (first_chunks 8 (length b / 8) b) h [] in
    from_le_bytes_is half ∙ grind (arith, chunk 8 (length b / 8) b h [] m, part_number b (8 * h) 8 0 8 (omega arith))

next : (s : List ℕ) (from k : ℕ) → little_endian s from (suc k) ≡ get_or s from 0 + 256 * little_endian s (from + 1) k
unfolding little_endian
next s from k = refl

-- bytes 8 to 15 of a record
pub second_half_is : (b : List ℕ) → little_endian b 8 8 ≡ kind_of b 0 + 256 * (value_of b 0 + 256 * padding_of b 0)
second_half_is b = omega (arith, next b 8 7, next b 9 6)
