-- `calendar::DateTime::nearest` meets its contract, field by field.
use mathlib.Core.Path.{◌≡◌, ◌∙◌}
use Prim.Native.Nat.{ℕ, ◌≤◌}
use native.Mathlib.Omega.{arith}
use Rattle.std.specs.Prelude.{min, max}
use Rattle.computed.proofs.Choice.{by_lt}
use Rattle.gregorian.specs.Nearest.{nearest_in, nearest_time}
use Rattle.gregorian.proofs.Months.{month_bounds}
use Rattle.calendar.specs.Dates.{equations}
use Rattle.calendar.proofs.DateTime.nearest.Goals as goal

-- the nearest number of a range, as the library has it
clamped : (a b n : ℕ) → a ≤ b → max a (min n b) ≡ nearest_in a b n
unfolding nearest_in
clamped a b n h = by_lt (λ (k : ℕ). max a (min n b) ≡ k) n a (λ p. omega arith) (λ p. by_lt (λ (k : ℕ). max a (min n b) ≡ k) b n (λ q. omega arith) (λ q. omega arith))

pub clamp-requires : goal.clamp-requires
clamp-requires c = omega (arith, c.days_in_month.ensures, month_bounds c.clamp-year.result c.clamp-month.result)

at_most : (b n : ℕ) → min n b ≡ nearest_in 0 b n
unfolding nearest_in
at_most b n = by_lt (λ (k : ℕ). min n b ≡ k) n 0 (λ p. omega arith) (λ p. by_lt (λ (k : ℕ). min n b ≡ k) b n (λ q. omega arith) (λ q. omega arith))

pub returns : goal.returns
unfolding nearest_time
returns c =
    let y = c.clamp-year.ensures ∙ clamped 2000 2199 _ (omega arith) in
    let m = c.clamp-month.ensures ∙ clamped 1 12 _ (omega arith) in
    let d = c.clamp.ensures ∙ clamped 1 _ _ (omega (arith, c.days_in_month.ensures, month_bounds c.clamp-year.result c.clamp-month.result)) in
    rw (equations.nearest_is, d, c.days_in_month.ensures, y, m, c.min.ensures ∙ at_most 23 _, c.min-2.ensures ∙ at_most 59 _, c.min-3.ensures ∙ at_most 59 _)
