-- `checked_time` accepts the valid times and no others, and else refuses the first field out of its range.
-- Assumes nothing.
use mathlib.Core.Bool.{true, false, not}
use mathlib.Core.List.{List, [], ◌∷◌}
use mathlib.Core.Path.{◌≡◌}
use Prim.Native.Nat.{ℕ, ◌≤◌, ◌<◌}
use native.Mathlib.Omega.{arith}
use lib.Dec.{leb}
use lib.IntN.{ℤ, pos}
use borrow.Author.Tests.{le-leb, lt-leb, leb-true, not-false}
use Rattle.refusals.specs.Numbered.{Numbered, accepted, refused}
use Rattle.std.specs.Prelude.{if◌then◌else◌}
use Rattle.computed.proofs.Choice.{chosen, both, both_false}
use Rattle.gregorian.specs.Calendar.{month_length}
use Rattle.gregorian.specs.Times.{Time, within, checked_time}
use Rattle.gregorian.specs.Ranges.{Valid}

-- a number from a to b, and one below a or above b
abbrev pub In : ℕ → ℕ → ℕ → Type 0
In a b n = (a ≤ n) × (n ≤ b)

pub data Out (a b n : ℕ) : Type 0 where
  below : n < a → Out a b n
  above : b < n → Out a b n

inside : (a b n : ℕ) → In a b n → within a b n ≡ true
unfolding within
inside a b n h = simp (le-leb a n h.0, le-leb n b h.1)

outside : (a b n : ℕ) → Out a b n → within a b n ≡ false
unfolding within
outside a b n (below p) = simp (lt-leb a n p)
outside a b n (above p) = both_false (leb a n) (leb n b) (lt-leb n b p)

module _ (t : Time) where
  abbrev last : ℕ
  last = month_length t.year t.month

  pub bad_year : Out 2000 2199 t.year → refused 1 (pos t.year ∷ []) ≡ checked_time t
  unfolding checked_time
  bad_year e = rw (outside _ _ t.year e)

  module _ (y : In 2000 2199 t.year) where
    pub bad_month : Out 1 12 t.month → refused 2 (pos t.month ∷ []) ≡ checked_time t
    unfolding checked_time
    bad_month e = rw (inside _ _ t.year y, outside _ _ t.month e)

    module _ (m : In 1 12 t.month) where
      pub bad_day : Out 1 last t.day → refused 3 (pos t.year ∷ pos t.month ∷ pos t.day ∷ []) ≡ checked_time t
      unfolding checked_time
      bad_day e = rw (inside _ _ t.year y, inside _ _ t.month m, outside _ _ t.day e)

      module _ (d : In 1 last t.day) where
        pub bad_hour : Out 0 23 t.hour → refused 4 (pos t.hour ∷ []) ≡ checked_time t
        unfolding checked_time
        bad_hour e = rw (inside _ _ t.year y, inside _ _ t.month m, inside _ _ t.day d, outside _ _ t.hour e)

        module _ (h : In 0 23 t.hour) where
          pub bad_minute : Out 0 59 t.minute → refused 5 (pos t.minute ∷ []) ≡ checked_time t
          unfolding checked_time
          bad_minute e = rw (inside _ _ t.year y, inside _ _ t.month m, inside _ _ t.day d, inside _ _ t.hour h, outside _ _ t.minute e)

          pub bad_second : In 0 59 t.minute → Out 0 59 t.second → refused 6 (pos t.second ∷ []) ≡ checked_time t
          unfolding checked_time
          bad_second i e = rw (inside _ _ t.year y, inside _ _ t.month m, inside _ _ t.day d, inside _ _ t.hour h, inside _ _ t.minute i, outside _ _ t.second e)

  pub valid_accepted : Valid t → checked_time t ≡ accepted tt
  unfolding checked_time
  valid_accepted v =
      rw (
        inside 2000 2199 t.year (omega arith),
        inside 1 12 t.month (omega arith),
        inside 1 last t.day (omega arith),
        inside 0 23 t.hour (omega arith),
        inside 0 59 t.minute (omega arith),
        inside 0 59 t.second (omega arith),
      )

-- what holds of both answers of a test on a range holds of what it chooses
by_range : {A : Type 0} (P : A → Type 0) (a b n : ℕ) {x y : A} → P y → (a ≤ n → n ≤ b → P x) → P (if not (within a b n) then y else x)
unfolding within
by_range P a b n g f =
    chosen P (not (within a b n)) (λ e. g)
    (λ e. let w = both (leb a n) (leb n b) (not-false (within a b n) e) in f (leb-true a n w.0) (leb-true n b w.1))

-- a refusal accepts nothing
clash : {A : Type 0} (n : ℕ) (vs : List ℤ) → ◌≡◌ {A = Numbered (Unit {0})} (refused n vs) (accepted tt) → A
clash n vs e = absurd (let z : ◌≡◌ {A = ℕ} 0 1 = cc in omega arith)

pub accepted_valid : (t : Time) → checked_time t ≡ accepted tt → Valid t
unfolding checked_time
accepted_valid t =
    let P : Numbered (Unit {0}) → Type 0 = λ v. v ≡ accepted tt → Valid t in
    by_range P 2000 2199 t.year (clash _ _)
    (λ y₁ y₂. by_range P 1 12 t.month (clash _ _)
    (λ m₁ m₂. by_range P 1 (month_length t.year t.month) t.day (clash _ _)
    (λ d₁ d₂. by_range P 0 23 t.hour (clash _ _)
    (λ h₁ h₂. by_range P 0 59 t.minute (clash _ _)
    (λ i₁ i₂. by_range P 0 59 t.second (clash _ _)
    (λ s₁ s₂ e.
    record {
      date = record { year_from = y₁; year_to = y₂; month_from = m₁; month_to = m₂; day_from = d₁; day_to = d₂ };
      hour_to = h₂;
      minute_to = i₂;
      second_to = s₂;
    }))))))
