-- The lines of the events: how long they are, and one line more.
-- Assumes nothing.
use Prim.Native.Nat.{ℕ, zero, suc, ◌+◌, ◌*◌, ◌≤◌, ◌<◌}
use mathlib.Core.List.{List, ◌++◌}
use mathlib.Core.Path.{◌≡◌, refl, ap, ◌∙◌, subst}
use native.Mathlib.Numerals.{add-one}
use native.Mathlib.Omega.{arith}
use lib.ListN.{length, get_or, length-append}
use Rattle.listing.specs.Appended.{Appended, AppendedIn}
use Rattle.listing.specs.Text.{event_line}
use Rattle.listing.proofs.Appending.{nothing, also, within, fitting}
use Rattle.listing.proofs.Lines.{event_length}
use Rattle.script_check.specs.Records.{instant_of, kind_of, value_of, records_in}
use Rattle.script_check.specs.Judging.{bytes_of}
use Rattle.script.specs.ByValue.{fields_of}
use Rattle.script.specs.Runs.{answers_to, answer_at, clockrun_held}
use Rattle.script.specs.declared.records.Record.{Record}
use Rattle.script.proofs.Own.{fields_own}
use Rattle.script.proofs.RunLaws.{answers_at, answers_length}
use Rattle.script_listing.specs.Listing.{event_lines}

-- no line has more than 48 bytes
pub events_length : (s : List ℕ) (n : ℕ) → length (event_lines s n) ≤ 48 * n
unfolding event_lines
events_length s zero = omega arith
events_length s (suc n) =
    let line : List ℕ = event_line (instant_of s n) (kind_of s n) (value_of s n) (answer_at s clockrun_held n) in
    omega (arith, length-append (event_lines s n) line, events_length s n, event_length (instant_of s n) (kind_of s n) (value_of s n) (answer_at s clockrun_held n))

one_more : (s : List ℕ) (n : ℕ) → event_lines s (suc n) ≡ event_lines s n ++ event_line (instant_of s n) (kind_of s n) (value_of s n) (answer_at s clockrun_held n)
unfolding event_lines
one_more s n = refl

-- a record's line, by what was read of it
same_line : (s : List ℕ) (i : ℕ) (e : Record) → e ≡ fields_of (bytes_of s i) → (b : ℕ) → b ≡ answer_at s clockrun_held i
    → event_line e.at e.kind e.value b ≡ event_line (instant_of s i) (kind_of s i) (value_of s i) (answer_at s clockrun_held i)
same_line s i e p b q = rw (p ∙ fields_own s i, q)

-- the lines of the first i records are appended
pub record Listed (s a out₀ : List ℕ) (at : ℕ) (out : List ℕ) (i next : ℕ) : Type 0 where
  pub up : i ≤ records_in s
  pub count : length a ≡ records_in s
  pub kept : length out ≡ length out₀
  pub written : Appended (event_lines s i) out₀ at out next

pub begins : (s a out : List ℕ) (at : ℕ) → a ≡ answers_to s clockrun_held (records_in s) → Listed s a out at out 0 at
unfolding event_lines
begins s a out at e = record { up = omega arith; count = ap length e ∙ answers_length s clockrun_held (records_in s); kept = refl; written = nothing out at }

-- there is room for one more
pub has_room : {s a out₀ : List ℕ} {at : ℕ} {out : List ℕ} {i next : ℕ} → at + 48 * records_in s ≤ length out₀ → i < length a → Listed s a out₀ at out i next → next + 48 ≤ length out
has_room {s} {a} {out₀} {at} {out} {i} {next} h l t = omega (arith, events_length s i, t.written.next, t.kept, t.count)

-- a turn: one more line is appended
pub turn : {s a out₀ : List ℕ} {at : ℕ} {out : List ℕ} {i next : ℕ} {out' : List ℕ} {next' : ℕ}
    → a ≡ answers_to s clockrun_held (records_in s) → at + 48 * records_in s ≤ length out₀ → i < length a → Listed s a out₀ at out i next → length out' ≡ length out
    → (e : Record) → e ≡ fields_of (bytes_of s i) → AppendedIn 48 (event_line e.at e.kind e.value (get_or a i 0)) out next out' next' → Listed s a out₀ at out' (i + 1) next'
turn {s} {a} {out₀} {at} {out} {i} {next} {out'} {next'} f h l t same e g line =
    let k : i < records_in s = omega (arith, t.count) in
    let b : get_or a i 0 ≡ answer_at s clockrun_held i = ap (λ (x : List ℕ). get_or x i 0) f ∙ answers_at s clockrun_held (records_in s) i k in
    record {
      up = omega arith;
      count = t.count;
      kept = same ∙ t.kept;
      written =
          rw (add-one i, one_more s i)
          (also (within (48 * records_in s) h) t.written (subst (λ (x : List ℕ). Appended x out next out' next') (same_line s i e g (get_or a i 0) b) (fitting (has_room h l t) line)));
    }
