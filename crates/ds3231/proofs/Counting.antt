-- A count of seconds and nanoseconds taken modulo a range: its whole second and its part second.
-- Assumes nothing.
use Prim.Native.Nat.{ℕ, ◌+◌, ◌*◌, ◌/◌, ◌%◌, ◌<◌}
use mathlib.Core.Path.{◌≡◌, ap, ap₂, ◌∙◌}
use native.Mathlib.Nat.{add_comm, mod-lt, add-mul-div_right, mul-add-mod_self_right}
use lib.Arith.{mod-mul, digits_div, digits_mod}

-- over any number N of nanoseconds in a second and R of seconds in the range
module _ (R N : ℕ) (hR : 0 < R) (hN : 0 < N) where
  pub split_count : (b e : ℕ) → (b * N + e) % (R * N) ≡ (b + e / N) % R * N + e % N
  split_count b e =
      mod-mul (b * N + e) {m = R} {c = N} hR hN
      ∙ ap₂ (λ (q r : ℕ). q % R * N + r)
      (ap (λ (x : ℕ). x / N) (add_comm (b * N) e) ∙ add-mul-div_right e b hN ∙ add_comm (e / N) b)
      (mul-add-mod_self_right b N e)

  pub whole_count : (b e : ℕ) → (b * N + e) % (R * N) / N ≡ (b + e / N) % R
  whole_count b e = ap (λ (x : ℕ). x / N) (split_count b e) ∙ digits_div ((b + e / N) % R) (mod-lt e hN)

  pub part_count : (b e : ℕ) → (b * N + e) % (R * N) % N ≡ e % N
  part_count b e = ap (λ (x : ℕ). x % N) (split_count b e) ∙ digits_mod ((b + e / N) % R) (mod-lt e hN)
