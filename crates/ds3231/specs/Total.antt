-- The report total of document 01. Assumes nothing.
use Rattle.computed.specs.Prelude.{ℕ, List, [], length}
use Rattle.std.specs.Prelude.{◌+◌, ◌^◌, ◌<◌, ◌∷◌, ◌≡◌}
use Rattle.refusals.specs.Numbered.{Numbered, accepted, refused}
use Rattle.ds3231.specs.Calls.{step, Answered, replied, copied, Call, bus, taking, power_on, verdict, chip_after, answer}
use Rattle.ds3231.specs.Types.{Ds3231, Ds3231Config}

-- the chip after calls, each getting the chip that the last one left
abbrev pub chip_after_all : Ds3231 → List Call → Ds3231
chip_after_all c [] = c
chip_after_all c (k ∷ ks) = chip_after_all (chip_after k c) ks

-- the reports of a call: those of its event, if it is not refused
abbrev pub reports_by : Numbered (Unit {0}) → Call → Ds3231 → ℕ
reports_by (refused n vs) k c = 0
reports_by (accepted u) (bus s e) c = length (step e c).reports
reports_by (accepted u) (taking s o) c = 0

abbrev pub reported : Ds3231 → List Call → ℕ
reported c [] = 0
reported c (k ∷ ks) = reports_by (verdict k c) k c + reported (chip_after k c) ks

-- the records taken: what takings that are not refused answer
abbrev pub taken_of : Numbered Answered → ℕ
taken_of (refused n vs) = 0
taken_of (accepted (replied y)) = 0
taken_of (accepted (copied n)) = n

abbrev pub taken : Ds3231 → List Call → ℕ
taken c [] = 0
taken c (k ∷ ks) = taken_of (answer k c) + taken (chip_after k c) ks

-- 'Diagnostics': reports since power-on, counted over the events, equal taken plus waiting plus dropped while fewer than 2^64 were made
abbrev pub ReportTotal : Type 0
ReportTotal = (f : Ds3231Config) (c₀ : Ds3231) → power_on f ≡ accepted c₀ → (calls : List Call) → reported c₀ calls < 2 ^ 64
    → reported c₀ calls ≡ taken c₀ calls + (chip_after_all c₀ calls).diagnostics.waiting + (chip_after_all c₀ calls).diagnostics.dropped
