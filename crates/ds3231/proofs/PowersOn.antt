-- Power-on by its three checks: what it answers, and that the chip that it gives is sound.
-- Assumes nothing.
use Prim.Native.Nat.{ℕ}
use mathlib.Core.Bool.{Bool, true, false}
use mathlib.Core.Path.{◌≡◌, refl, sym, subst, ◌∙◌}
use native.Mathlib.Omega.{arith}
use Rattle.refusals.specs.Numbered.{Numbered, accepted, refused}
use Rattle.refusals.proofs.Checks.{never}
use Rattle.calendar.specs.Stated.{date_time, checked}
use Rattle.calendar.proofs.Laws.{in_range_accepted, accepted_in_range, month_bounds}
use Rattle.ds3231.specs.Calls.{in_quarters, in_conversion_times, sound, chip_on, default_config, checked_quarters, checked_conversion_time, power_on}
use Rattle.ds3231.specs.ConversionTime.{legal, PowersOn}
use Rattle.ds3231.specs.declared.Ds3231.{Ds3231}
use Rattle.ds3231.specs.declared.Ds3231Config.{Ds3231Config}
use Rattle.ds3231.proofs.Facts.{ConfigIn, sound_test}
use Rattle.ds3231.proofs.Sounds.{on_sound}

pub times_legal : (n : ℕ) → in_conversion_times n ≡ legal n
unfolding in_conversion_times
times_legal n = refl

pub powers : (f : Ds3231Config) → PowersOn f
unfolding checked_quarters checked_conversion_time
powers f =
    let l = times_legal f.conversion_nanos in
    record {
      start_first = λ number values e. rw e refl;
      then_quarters = λ e q. rw (e, q) refl;
      then_time = λ e q n. rw (e, q, l, n) refl;
      gives_chip = λ e q n. rw (e, q, l, n) refl;
    }

-- the power-on of a script is not refused
pub default_on : power_on default_config ≡ accepted (chip_on default_config)
unfolding in_quarters
default_on = (powers default_config).gives_chip (in_range_accepted (date_time 2026 1 1 0 0 0) (omega (arith, month_bounds 2026 1))) refl refl

-- ---- a power-on that is not refused

record On (f : Ds3231Config) (c₀ : Ds3231) : Type 0 where
  pub within : ConfigIn f
  pub is : accepted (chip_on f) ≡ accepted c₀

on_by : (f : Ds3231Config) (c₀ : Ds3231) → power_on f ≡ accepted c₀ → On f c₀
on_by f c₀ e = by (checked f.start) (in_quarters f.temperature_quarters) (legal f.conversion_nanos) refl refl refl
  where
    by : (v : Numbered (Unit {0})) (a b : Bool) → checked f.start ≡ v → in_quarters f.temperature_quarters ≡ a → legal f.conversion_nanos ≡ b → On f c₀
    by (refused k vs) a b p q n = never (sym ((powers f).start_first k vs p) ∙ e)
    by (accepted u) false b p q n = never (sym ((powers f).then_quarters p q) ∙ e)
    by (accepted u) true false p q n = never (sym ((powers f).then_time p q n) ∙ e)
    by (accepted u) true true p q n = record {
      within = record { start = accepted_in_range f.start p; quarters = q; conversion = times_legal f.conversion_nanos ∙ n };
      is = sym ((powers f).gives_chip p q n) ∙ e;
    }

-- what holds of the chip of every configuration that is not refused holds of the chip that the power-on gave
pub on_chip : (P : Ds3231 → Type 0) (f : Ds3231Config) (c₀ : Ds3231) → power_on f ≡ accepted c₀ → (ConfigIn f → P (chip_on f)) → P c₀
on_chip P f c₀ e h =
    let o = on_by f c₀ e in
    let is : chip_on f ≡ c₀ = let z = o.is in cc in
    subst P is (h o.within)

pub power_on_sound : (f : Ds3231Config) (c₀ : Ds3231) → power_on f ≡ accepted c₀ → sound c₀ ≡ true
power_on_sound f c₀ e = on_chip (λ (c : Ds3231). sound c ≡ true) f c₀ e (λ i. sound_test (chip_on f) (on_sound f i))
