-- A run by its verdict: one that goes through, one that is refused, and the run from `clockrun`'s power-on, which neither its chip nor its store refuses.
-- Assumes nothing.
use Prim.Native.Nat.{ℕ, ◌≤◌, ◌<◌}
use mathlib.Core.Bool.{Bool, true, not}
use mathlib.Core.List.{List, []}
use mathlib.Core.Path.{◌≡◌, refl, sym, ap, ◌∙◌}
use native.Mathlib.Omega.{arith}
use lib.ListN.{length}
use Rattle.refusals.specs.Numbered.{accepted, refused, and_then, answered, refused_by}
use Rattle.refusals.proofs.Checks.{refused_leaves}
use Rattle.std.proofs.lemmas.Bool.Decides.{nat_tests}
use Rattle.std.specs.Prelude.{if◌then◌else◌, Result, Ok, Err}
use Rattle.ds3231.specs.Calls.{sound, chip_on, default_config, power_on}
use Rattle.ds3231.specs.declared.Ds3231.{Ds3231}
use Rattle.ds3231.specs.declared.Ds3231Config.{Ds3231Config}
use Rattle.ds3231.proofs.PowersOn.{default_on, power_on_sound}
use Rattle.ds3231_chip.specs.Answers.{config_row, lent_verdict}
use Rattle.ds3231_chip.specs.declared.power.Ds3231ConfigError.{Ds3231ConfigError}
use Rattle.script_check.specs.Records.{kind_of, records_in, checked_length, checked_script}
use Rattle.script_check.proofs.Laws.{accepted_legal}
use Rattle.script.specs.Runs.{Held, run_row, checked_run, run_verdict, clockrun_held, Ran}
use Rattle.script.specs.declared.errors.RunError.{RunError}

-- ---- a verdict that accepts

-- the store has 256 records, a byte for each record of the script is lent, and the chip is sound
pub accepted_held : (h : Held) (s : List ℕ) (room : ℕ) → run_verdict h s room ≡ accepted tt → (length h.store ≡ 256) × (room ≡ records_in s) × (sound h.chip ≡ true)
unfolding run_verdict checked_run checked_length
accepted_held h s room e = (grind (arith, nat_tests), grind (arith, nat_tests), grind (arith, nat_tests))

-- each record has a kind
pub accepted_kind : (h : Held) (s : List ℕ) (room : ℕ) → run_verdict h s room ≡ accepted tt → (i : ℕ) → i < records_in s → kind_of s i ≤ 3
unfolding run_verdict checked_run
accepted_kind h s room e i l =
    let legal : checked_script s ≡ accepted tt = grind (arith, nat_tests) in
    ((accepted_legal s legal).records i l).kind

-- ---- the tests

-- the tests in their order
pub verdict_by : (h : Held) (s : List ℕ) (room : ℕ) → and_then (lent_verdict h.chip (length h.store)) (checked_run s room) ≡ run_verdict h s room
unfolding run_verdict
verdict_by h s room = grind (arith, nat_tests)

module _ (h : Held) (s a : List ℕ) (len : ℕ) (l : length h.store ≡ len) where
  tests_in_order : and_then (lent_verdict h.chip len) (checked_run s (length a)) ≡ run_verdict h s (length a)
  tests_in_order = ap (λ (n : ℕ). and_then (lent_verdict h.chip n) (checked_run s (length a))) (sym l) ∙ verdict_by h s (length a)

  pub goes_on : accepted tt ≡ and_then (lent_verdict h.chip len) (checked_run s (length a)) → run_verdict h s (length a) ≡ accepted tt
  goes_on p = sym (p ∙ tests_in_order)

  pub is_refused : (e : RunError) → refused_by (run_row e) ≡ and_then (lent_verdict h.chip len) (checked_run s (length a)) → Ran h s a (Err e) h.chip h.store a
  is_refused e p =
      let v = sym (p ∙ tests_in_order) in
      record { answers = sym v; chip = refused_leaves _ _ _ _ _ v; store = refused_leaves _ _ _ _ _ v; bytes = refused_leaves _ _ _ _ _ v }

-- ---- the run from `clockrun`'s power-on

-- it begins with the chip of the default power-on
pub begins_on : clockrun_held.chip ≡ chip_on default_config
begins_on = refl

pub power_on_is_sound : sound clockrun_held.chip ≡ true
power_on_is_sound = ap sound begins_on ∙ power_on_sound default_config (chip_on default_config) default_on

-- it is not refused, and gives that chip
pub powers_on : (f : Ds3231Config) (r : Result Ds3231 Ds3231ConfigError) → f ≡ default_config → answered config_row r ≡ power_on f → r ≡ Ok (chip_on default_config)
powers_on f (Ok c) e p = cc (ap power_on e, default_on)
powers_on f (Err d) e p = cc (ap power_on e, default_on)

-- neither its chip nor its store is refused
pub power_on_verdict : (s : List ℕ) (room : ℕ) → run_verdict clockrun_held s room ≡ checked_run s room
unfolding run_verdict
power_on_verdict s room = ap (λ (b : Bool). if not b then refused 10 [] else checked_run s room) power_on_is_sound
