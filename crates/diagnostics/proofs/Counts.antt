-- Each report waits or is dropped while fewer than 2^64 were made; at most 256 wait; the store keeps its length.
-- Assumes nothing.
use Prim.Native.Nat.{ℕ, ◌+◌, ◌^◌, ◌≤◌, ◌<◌, min}
use mathlib.Core.Bool.{Bool, true, false}
use mathlib.Core.List.{List, [], ◌∷◌}
use mathlib.Core.Path.{◌≡◌, refl, ◌∙◌}
use native.Mathlib.Omega.{arith}
use borrow.Author.Tests.{ltb-true}
use lib.Dec.{ltb}
use lib.ListN.{length, set, length-set}
use Rattle.std.specs.Prelude.{if◌then◌else◌}
use Rattle.diagnostics.specs.Reports.{counted, stored, counted_all, stored_all}
use Rattle.diagnostics.specs.declared.Diagnostics.{Diagnostics}
use Rattle.diagnostics.specs.declared.I2cDiagnostic.{I2cDiagnostic}

-- k reports more are waiting or dropped
pub record Adds (n after : Diagnostics) (k : ℕ) : Type 0 where
  pub sum : after.waiting + after.dropped ≡ n.waiting + n.dropped + k
  pub up : after.dropped ≤ n.dropped + k

adds_one : (n : Diagnostics) → n.dropped + 1 < 2 ^ 64 → Adds n (counted n) 1
adds_one n h = by (ltb n.waiting 256)
  where
    by : (e : Bool) → Adds n (record { waiting = if e then n.waiting + 1 else n.waiting; dropped = if e then n.dropped else min (n.dropped + 1) 0xFFFF_FFFF_FFFF_FFFF }) 1
    by true = record { sum = omega arith; up = omega arith }
    by false = record { sum = omega arith; up = omega arith }

pub adds_all : (ds : List I2cDiagnostic) (n : Diagnostics) → n.dropped + length ds < 2 ^ 64 → Adds n (counted_all ds n) (length ds)
adds_all [] n h = record { sum = omega arith; up = omega arith }
adds_all (d ∷ ds) n h =
    let a = adds_one n (omega arith) in
    let b = adds_all ds (counted n) (omega (arith, a.up)) in
    record { sum = omega (arith, a.sum, b.sum); up = omega (arith, a.up, b.up) }

-- at most 256 wait
counted_in : (n : Diagnostics) → n.waiting ≤ 256 → (counted n).waiting ≤ 256
counted_in n h = by (ltb n.waiting 256) refl
  where
    by : (e : Bool) → ltb n.waiting 256 ≡ e → (if e then n.waiting + 1 else n.waiting) ≤ 256
    by true e = omega (arith, ltb-true n.waiting 256 e)
    by false e = h

pub counted_all_in : (ds : List I2cDiagnostic) (n : Diagnostics) → n.waiting ≤ 256 → (counted_all ds n).waiting ≤ 256
counted_all_in [] n h = h
counted_all_in (d ∷ ds) n h = counted_all_in ds (counted n) (counted_in n h)

-- a store keeps its length
stored_length : (n : Diagnostics) (d : I2cDiagnostic) (s : List I2cDiagnostic) → length (stored n d s) ≡ length s
stored_length n d s = by (ltb n.waiting 256)
  where
    by : (e : Bool) → length (if e then set s n.waiting d else s) ≡ length s
    by true = length-set s n.waiting d
    by false = refl

pub stored_all_length : (ds : List I2cDiagnostic) (n : Diagnostics) (s : List I2cDiagnostic) → length (stored_all ds n s) ≡ length s
stored_all_length [] n s = refl
stored_all_length (d ∷ ds) n s = stored_all_length ds _ (stored n d s) ∙ stored_length n d s
