-- The claim of `Total`, proved: each report waits or is dropped, and a taking takes what waits.
-- Assumes nothing.
use Prim.Native.Nat.{◌+◌, ◌^◌, ◌≤◌, ◌<◌}
use mathlib.Core.List.{List, [], ◌∷◌}
use mathlib.Core.Path.{◌≡◌, refl}
use native.Mathlib.Omega.{arith}
use Rattle.refusals.specs.Numbered.{Numbered, accepted, refused, and_then, unless}
use Rattle.diagnostics.proofs.Counts.{adds_all}
use Rattle.ds3231.specs.Calls.{step, Call, bus, taking, chip_by, verdict, chip_after, answered_by}
use Rattle.ds3231.specs.Total.{chip_after_all, reports_by, reported, taken_of, taken, ReportTotal}
use Rattle.ds3231.specs.declared.Ds3231.{Ds3231}
use Rattle.ds3231.proofs.PowersOn.{on_chip}

-- one call
call_adds : (v : Numbered (Unit {0})) (k : Call) (c : Ds3231) → c.diagnostics.dropped + reports_by v k c < 2 ^ 64
    → (taken_of (and_then v (accepted (answered_by k c))) + ((unless v (chip_by k c) c).diagnostics.waiting + (unless v (chip_by k c) c).diagnostics.dropped)
    ≡ c.diagnostics.waiting + c.diagnostics.dropped + reports_by v k c)
    × ((unless v (chip_by k c) c).diagnostics.dropped ≤ c.diagnostics.dropped + reports_by v k c)
call_adds (refused n vs) k c h = (omega arith, omega arith)
call_adds (accepted u) (bus s e) c h =
    let a = adds_all (step e c).reports c.diagnostics h in
    (omega (arith, a.sum), a.up)
call_adds (accepted u) (taking s o) c h = (omega arith, omega arith)

run_adds : (ks : List Call) (c : Ds3231) → c.diagnostics.dropped + reported c ks < 2 ^ 64
    → taken c ks + ((chip_after_all c ks).diagnostics.waiting + (chip_after_all c ks).diagnostics.dropped)
    ≡ c.diagnostics.waiting + c.diagnostics.dropped + reported c ks
run_adds [] c h = omega arith
run_adds (k ∷ ks) c h =
    let a = call_adds (verdict k c) k c (omega arith) in
    let b = run_adds ks (chip_after k c) (omega (arith, a.1)) in
    omega (arith, a.0, b)

pub report_total : ReportTotal
report_total f c₀ e calls h =
    let w = on_chip (λ (c : Ds3231). c.diagnostics.waiting ≡ 0) f c₀ e (λ i. refl) in
    let d = on_chip (λ (c : Ds3231). c.diagnostics.dropped ≡ 0) f c₀ e (λ i. refl) in
    omega (arith, run_adds calls c₀ (omega arith))
