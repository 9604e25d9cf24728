-- The whole text of a script that ran, from its parts, where there is room for every line.
-- Assumes nothing.
use Prim.Native.Nat.{ℕ, ◌+◌, ◌*◌, ◌≤◌, min}
use mathlib.Core.List.{List, ◌++◌}
use mathlib.Core.Path.{◌≡◌, ap, ◌∙◌}
use native.Mathlib.Nat.{zero-add, min-le_right}
use native.Mathlib.Omega.{arith}
use lib.ListN.{length, take, drop}
use borrow.Author.Tests.{le-leb}
use Rattle.listing.specs.Appended.{appended, Appended, AppendedIn}
use Rattle.listing.specs.Text.{header, diagnostic_lines, dropped_line}
use Rattle.listing.proofs.Appending.{also, fitting}
use Rattle.listing.proofs.Lines.{header_length, first_lines_length}
use Rattle.script_check.specs.Records.{records_in}
use Rattle.script.specs.Runs.{held_at, clockrun_held}
use Rattle.script.specs.declared.runs.RunOutcome.{RunOutcome}
use Rattle.script_listing.specs.Listing.{event_lines, ran_listing, Printed}
use Rattle.script_listing.proofs.Events.{events_length}

module _ (s : List ℕ) (e : RunOutcome) {out out₁ out₂ out₃ out₄ : List ℕ} {r₁ r₂ r₃ r₄ : ℕ} where
  pub whole : records_in s ≤ 2048 → record { chip = e.chip; store = e.records } ≡ held_at s clockrun_held (records_in s) → length e.records ≡ 256 → 110688 ≤ length out
      → length out₁ ≡ length out → length out₂ ≡ length out → length out₃ ≡ length out
      → AppendedIn 48 header out 0 out₁ r₁
      → Appended (event_lines s (records_in s)) out₁ r₁ out₂ r₂
      → AppendedIn (48 * min e.chip.diagnostics.waiting 256) (diagnostic_lines (take e.chip.diagnostics.waiting e.records)) out₂ r₂ out₃ r₃
      → AppendedIn 48 (dropped_line e.chip.diagnostics.dropped) out₃ r₃ out₄ r₄
      → Appended (ran_listing s) out 0 out₄ r₄
  whole n held l h k₁ k₂ k₃ first events waiting last =
      let f = fitting {room = 48} {at = 0} {text = header} (omega arith) first in
      let b₁ : r₁ ≤ 48 = omega (arith, f.next, header_length) in
      let b₂ : r₂ ≤ 48 + 98304 = omega (arith, events.next, events_length s (records_in s)) in
      let m = min-le_right e.chip.diagnostics.waiting 256 in
      let w = fitting {text = diagnostic_lines (take e.chip.diagnostics.waiting e.records)} (omega arith) waiting in
      let b₃ : r₃ ≤ r₂ + 12288 = omega (arith, w.next, first_lines_length e.chip.diagnostics.waiting e.records l) in
      let d = fitting {text = dropped_line e.chip.diagnostics.dropped} (omega arith) last in
      rw (← held) (also (omega arith) (also (omega arith) f events) (also (omega arith) w d))

-- ---- the listing, by the room

pub roomy : {text out out' : List ℕ} {r : ℕ} → 110688 ≤ length out → Appended text out 0 out' r → Printed text out out' r
unfolding appended
roomy {text} {out} h a = let e = le-leb 110688 (length out) h in (rw e (a.next ∙ zero-add _), rw e (a.bytes ∙ ap (λ (n : ℕ). text ++ drop n out) (zero-add (length text))))
