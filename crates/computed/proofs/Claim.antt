-- A claim on numbers that a computed test decides, and what it means. `each` has antt compute a claim at n numbers in a row, and gives what it means at each of them.
-- Assumes nothing.
use mathlib.Core.Bool.{Bool, true, false, ◌&&◌}
use mathlib.Core.Logic.{⊎_elim}
use mathlib.Core.Path.{◌≡◌, subst, sym}
use Prim.Native.Nat.{ℕ, zero, suc, ◌+◌, ◌-◌, ◌≤◌, ◌<◌}
use native.Mathlib.Nat.{le_of_suc-le-suc, not-suc-le-zero, eq-or-lt_of_le}
use native.Mathlib.Omega.{arith}
use lib.Dec.{T, eqb, leb, eqb→eq, leb→le}

pub data Claim : Type 0 where
  eq : ℕ → ℕ → Claim
  le : ℕ → ℕ → Claim
  and : Claim → Claim → Claim

-- the test of a claim
abbrev pub holds : Claim → Bool
holds (eq a b) = eqb a b
holds (le a b) = leb a b
holds (and p q) = holds p && holds q

-- what a claim says
abbrev pub Means : Claim → Type 0
Means (eq a b) = a ≡ b
Means (le a b) = a ≤ b
Means (and p q) = Means p × Means q

pub first : (a b : Bool) → T (a && b) → T a
first true b t = tt
first false b t = t

pub rest : (a b : Bool) → T (a && b) → T b
rest true b t = t
rest false b t = absurd t

pub means : (p : Claim) → T (holds p) → Means p
means (eq a b) t = eqb→eq a b t
means (le a b) t = leb→le a b t
means (and p q) t = (means p (first (holds p) (holds q) t), means q (rest (holds p) (holds q) t))

-- the claim holds at each number below n
abbrev pub below : (ℕ → Claim) → ℕ → Bool
below f zero = true
below f (suc n) = holds (f n) && below f n

every : (f : ℕ → Claim) (n : ℕ) → T (below f n) → (k : ℕ) → k < n → Means (f k)
every f zero t k h = absurd (not-suc-le-zero h)
every f (suc n) t k h =
    ⊎_elim (λ e. subst (λ (j : ℕ). Means (f j)) (sym e) (means (f n) (first (holds (f n)) (below f n) t)))
    (λ l. every f n (rest (holds (f n)) (below f n) t) k l)
    (eq-or-lt_of_le (le_of_suc-le-suc h))

-- a claim that holds at each of the n numbers from a on, at one of them
pub each : (f : ℕ → Claim) (a n : ℕ) → T (below (λ k. f (a + k)) n) → (m : ℕ) → a ≤ m → m < a + n → Means (f m)
each f a n t m p q =
    let e : a + (m - a) ≡ m = omega arith in
    subst (λ (j : ℕ). Means (f j)) e (every (λ k. f (a + k)) n t (m - a) (omega arith))
