-- Laws of the run's definitions: there is an answer for each record, and it is that record's; no event of a run is refused; a run keeps a sound chip sound; and the numbered answer of a run loses nothing.
-- Assumes nothing.
use Prim.Native.Nat.{ℕ, zero, suc, ◌+◌, ◌<◌}
use mathlib.Core.Bool.{true}
use mathlib.Core.List.{List, [], ◌∷◌}
use mathlib.Core.Logic.{⊎_elim}
use mathlib.Core.Path.{◌≡◌, refl, sym, ap, ◌∙◌}
use native.Mathlib.Nat.{not-suc-le-zero, le_of_suc-le-suc, eq-or-lt_of_le}
use native.Mathlib.Omega.{arith}
use lib.Dec.{eqb}
use lib.ListN.{length, get_or, length-append, get_or-append}
use lib.Seq.{get_or-append-add}
use Rattle.refusals.specs.Numbered.{Numbered, accepted, refused, unless, Row, answered}
use Rattle.refusals.proofs.Lossless.{answered_lossless}
use Rattle.std.specs.Prelude.{if◌then◌else◌, Result}
use Rattle.computed.proofs.Lossless.{lossless}
use Rattle.diagnostics.specs.declared.I2cDiagnostic.{I2cDiagnostic}
use Rattle.diagnostics.specs.declared.LentError.TheVariants.{NotSound, StoreLength}
use Rattle.diagnostics.proofs.Counts.{stored_all_length}
use Rattle.ds3231.specs.Calls.{sound, step, bus, verdict, store_by, store_after}
use Rattle.ds3231.specs.declared.Ds3231.{Ds3231}
use Rattle.ds3231.specs.declared.Event.{Event}
use Rattle.ds3231.proofs.Sounds.{sound_kept}
use Rattle.script_check.specs.Records.{records_in}
use Rattle.script.specs.Runs.{event_of, Held, held_at, answers_to, answer_at, run_row, run_verdict, Ran, clockrun_held}
use Rattle.script_check.specs.declared.faults.ScriptFault.TheVariants.{TooLong, NotWhole, Record}
use Rattle.script_check.specs.declared.faults.RecordFault.TheVariants.{Kind, Value, Padding, Falling}
use Rattle.script_check.proofs.Lossless.{fault_back}
use Rattle.script.specs.declared.errors.RunError.{RunError}
use Rattle.script.specs.declared.errors.RunError.TheVariants.{Lent, AnswersLength, Script}
use Rattle.script.proofs.RunVerdicts.{power_on_is_sound}

module _ (s : List ℕ) (h : Held) where
  pub answers_length : (n : ℕ) → length (answers_to s h n) ≡ n
  unfolding answers_to
  answers_length zero = refl
  answers_length (suc n) = length-append (answers_to s h n) (answer_at s h n ∷ []) ∙ omega (arith, answers_length n)

  -- the last of them
  last : (n i : ℕ) → i ≡ n → get_or (answers_to s h (suc n)) i 0 ≡ answer_at s h i
  unfolding answers_to
  last n i e =
      let k : i ≡ length (answers_to s h n) + 0 = omega (arith, answers_length n) in
      ap (λ (j : ℕ). get_or (answers_to s h (suc n)) j 0) k ∙ get_or-append-add (answers_to s h n) (answer_at s h n ∷ []) 0 0 ∙ ap (answer_at s h) (sym e)

  pub answers_at : (n i : ℕ) → i < n → get_or (answers_to s h n) i 0 ≡ answer_at s h i
  unfolding answers_to
  answers_at zero i l = absurd (not-suc-le-zero l)
  answers_at (suc n) i l =
      ⊎_elim (last n i)
      (λ k. get_or-append (answers_to s h n) (answer_at s h n ∷ []) 0 i (omega (arith, answers_length n)) ∙ answers_at n i k)
      (eq-or-lt_of_le (le_of_suc-le-suc l))

-- a bus call keeps the store's length
store_kept : (e : Event) (c : Ds3231) (st : List I2cDiagnostic) → length (store_after (bus st e) c) ≡ length st
store_kept e c st = by (verdict (bus st e) c)
  where
    by : (v : Numbered (Unit {0})) → length (unless v (store_by (bus st e) c) st) ≡ length st
    by (accepted u) = stored_all_length (step e c).reports c.diagnostics st
    by (refused n vs) = refl

-- a sound chip is sound after every record
pub stays_sound : (s : List ℕ) (h : Held) → sound h.chip ≡ true → (i : ℕ) → sound (held_at s h i).chip ≡ true
unfolding held_at
stays_sound s h ok zero = ok
stays_sound s h ok (suc i) = sound_kept (bus (held_at s h i).store (event_of s i)) (held_at s h i).chip (stays_sound s h ok i)

stays_whole : (s : List ℕ) (h : Held) → length h.store ≡ 256 → (i : ℕ) → length (held_at s h i).store ≡ 256
unfolding held_at
stays_whole s h whole zero = whole
stays_whole s h whole (suc i) = store_kept (event_of s i) (held_at s h i).chip (held_at s h i).store ∙ stays_whole s h whole i

-- on a sound chip with a store of 256 records no event is refused
pub none_refused : (s : List ℕ) (h : Held) → sound h.chip ≡ true → length h.store ≡ 256 → (i : ℕ) → verdict (bus (held_at s h i).store (event_of s i)) (held_at s h i).chip ≡ accepted tt
none_refused s h ok whole i = rw (stays_sound s h ok i, stays_whole s h whole i)

-- every run keeps a sound chip sound, refused or not: `Ran` is what `run` and `run_values` promise
pub run_keeps_sound : {h : Held} {s a : List ℕ} {r : Result (Unit {0}) RunError} {c' : Ds3231} {st' : List I2cDiagnostic} {a' : List ℕ} → Ran h s a r c' st' a' → sound h.chip ≡ true → sound c' ≡ true
run_keeps_sound {h} {s} {a} ran ok = rw ran.chip (by (run_verdict h s (length a)))
  where
    by : (v : Numbered (Unit {0})) → sound (unless v (held_at s h (records_in s)).chip h.chip) ≡ true
    by (accepted u) = stays_sound s h ok (records_in s)
    by (refused n vs) = ok

-- and what `run_from_power_on` promises: it leaves a sound chip
pub run_from_power_on_sound : {s a : List ℕ} {r : Result (Unit {0}) RunError} {c' : Ds3231} {st' : List I2cDiagnostic} {a' : List ℕ} → Ran clockrun_held s a r c' st' a' → sound c' ≡ true
run_from_power_on_sound ran = run_keeps_sound ran power_on_is_sound

-- the error that a row is of
abbrev run_of : Row → RunError
run_of r =
    if eqb r.number 10 then Lent NotSound
    else if eqb r.number 11 then Lent StoreLength
    else if eqb r.number 15 then AnswersLength
    else Script (fault_back r)

run_back : (e : RunError) → run_of (run_row e) ≡ e
run_back (Lent NotSound) = refl
run_back (Lent StoreLength) = refl
run_back AnswersLength = refl
run_back (Script TooLong) = refl
run_back (Script NotWhole) = refl
run_back (Script (Record i Kind)) = refl
run_back (Script (Record i Value)) = refl
run_back (Script (Record i Padding)) = refl
run_back (Script (Record i Falling)) = refl

pub run_lossless : {A : Type 0} (a b : Result A RunError) → answered run_row a ≡ answered run_row b → a ≡ b
run_lossless = answered_lossless run_row (lossless run_row run_of run_back)
