-- What holds in both cases of a test holds of what the test chooses; conjunctions of tests; and either of two orders holds.
-- Assumes nothing.
use mathlib.Core.Bool.{Bool, true, false, ◌&&◌}
use mathlib.Core.Logic.{◌⊎◌, inl, inr}
use mathlib.Core.Path.{◌≡◌, refl}
use Prim.Native.Nat.{ℕ, ◌≤◌, ◌<◌}
use lib.Dec.{ltb, leb}
use borrow.Author.Tests.{ltb-true, ltb-false, leb-true, leb-false}
use Rattle.std.specs.Prelude.{if◌then◌else◌}

module _ {A : Type 0} (P : A → Type 0) where
  pub chosen : (b : Bool) {x y : A} → (b ≡ true → P x) → (b ≡ false → P y) → P (if b then x else y)
  chosen true f g = f refl
  chosen false f g = g refl

  pub by_lt : (m n : ℕ) {x y : A} → (m < n → P x) → (n ≤ m → P y) → P (if ltb m n then x else y)
  by_lt m n f g = chosen (ltb m n) (λ e. f (ltb-true m n e)) (λ e. g (ltb-false m n e))

pub le_or_lt : (m n : ℕ) → (m ≤ n) ⊎ (n < m)
le_or_lt m n = by (leb m n) refl
  where
    by : (b : Bool) → leb m n ≡ b → (m ≤ n) ⊎ (n < m)
    by true e = inl (leb-true m n e)
    by false e = inr (leb-false m n e)

pub both : (a b : Bool) → (a && b) ≡ true → (a ≡ true) × (b ≡ true)
both true b e = (refl, e)
both false b e = (e, cc)

pub both_true : (a b : Bool) → a ≡ true → b ≡ true → (a && b) ≡ true
both_true a b p q = cc

pub both_false : (a b : Bool) → b ≡ false → (a && b) ≡ false
both_false true b e = e
both_false false b e = refl
