-- The run of a script with the answers that are lent goes by the check of the script, and what it leaves where it goes through.
-- Assumes nothing.
use Prim.Native.Nat.{ℕ, ◌≤◌, min}
use mathlib.Core.List.{List, [], ◌∷◌}
use mathlib.Core.Path.{◌≡◌, refl, sym, ap, ap₂, ◌∙◌, subst}
use native.Mathlib.Omega.{arith}
use lib.Dec.{eqb}
use lib.IntN.{ℤ}
use lib.ListN.{length}
use borrow.Author.Tests.{eq-eqb}
use Rattle.std.specs.Prelude.{if◌then◌else◌, option_to_list, Result}
use Rattle.diagnostics.specs.declared.I2cDiagnostic.{I2cDiagnostic}
use Rattle.refusals.specs.Numbered.{Numbered, accepted, refused, and_then, Row, refused_by, answered}
use Rattle.refusals.proofs.Checks.{accepted_leaves}
use Rattle.ds3231.specs.declared.Ds3231.{Ds3231}
use Rattle.listing.specs.Appended.{Appended}
use Rattle.listing.specs.Text.{refused_line}
use Rattle.script_check.specs.Records.{records_in, checked_length, checked_from, checked_script, record_named}
use Rattle.script.specs.Runs.{held_at, answers_to, clockrun_held, run_row, checked_run, run_verdict, Ran}
use Rattle.script.specs.declared.errors.RunError.{RunError}
use Rattle.script_check.proofs.Laws.{accepted_length, accepted_legal}
use Rattle.script.proofs.RunVerdicts.{power_on_verdict}
use Rattle.script_listing.specs.Listing.{listing_by, listing_of}

-- a legal script has at most 2,048 records
pub at_most : (s : List ℕ) → checked_script s ≡ accepted tt → records_in s ≤ 2048
at_most s e = omega (arith, (accepted_legal s e).short)

-- a run is not refused for the answers that are lent
pub verdict_is : (s : List ℕ) (room : ℕ) → room ≡ min (records_in s) 2048 → run_verdict clockrun_held s room ≡ checked_script s
unfolding checked_run
verdict_is s room l = power_on_verdict s room ∙ by (checked_length (length s)) refl
  where
    by : (v : Numbered (Unit {0})) → checked_length (length s) ≡ v → and_then v (if eqb room (records_in s) then checked_from s 0 (records_in s) else refused 15 []) ≡ and_then v (checked_from s 0 (records_in s))
    by (accepted u) e = rw (eq-eqb room (records_in s) (omega (arith, (accepted_length (length s) e).short)))
    by (refused n vs) e = refl

-- what the run answers, and what it leaves where it goes through
module _ {s a : List ℕ} {r : Result (Unit {0}) RunError} {c : Ds3231} {st : List I2cDiagnostic} {a' : List ℕ} (l : length a ≡ min (records_in s) 2048) (t : Ran clockrun_held s a r c st a') where
  pub answers_check : answered run_row r ≡ checked_script s
  answers_check = t.answers ∙ verdict_is s (length a) l

  module _ (g : checked_script s ≡ accepted tt) where
    goes : run_verdict clockrun_held s (length a) ≡ accepted tt
    goes = verdict_is s (length a) l ∙ g

    pub leaves_held : record { chip = c; store = st } ≡ held_at s clockrun_held (records_in s)
    leaves_held = ap₂ (λ (x : Ds3231) (y : List I2cDiagnostic). record { chip = x; store = y }) (t.chip ∙ sym (accepted_leaves _ tt _ _ goes)) (t.store ∙ sym (accepted_leaves _ tt _ _ goes))

    pub leaves_bytes : a' ≡ answers_to s clockrun_held (records_in s)
    leaves_bytes = t.bytes ∙ sym (accepted_leaves _ tt _ _ goes)

-- the listing of a script that is refused is the refusal's line
pub refused_as : (s : List ℕ) {out out' : List ℕ} {next : ℕ} (r : Row) → refused_by r ≡ checked_script s
    → Appended (refused_line r.number (option_to_list (record_named r.values))) out 0 out' next → Appended (listing_of s) out 0 out' next
refused_as s {out} {out'} {next} r q a =
    subst (λ (t : List ℕ). Appended t out 0 out' next) (by r.values ∙ ap (λ (w : Numbered (Unit {0})). listing_by w s) q) a
  where
    by : (vs : List ℤ) → refused_line r.number (option_to_list (record_named vs)) ≡ listing_by (refused r.number vs) s
    by [] = refl
    by (i ∷ is) = refl
