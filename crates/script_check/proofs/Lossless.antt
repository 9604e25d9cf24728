-- The numbered answers of the check and of the judge lose nothing: equal answers are of equal results.
-- Assumes nothing.
use Rattle.std.proofs.Common.{◌≡◌, ℕ, List, [], ◌∷◌, ℤ, nat_abs, eqb, refl, Result}
use Rattle.std.specs.Prelude.{if◌then◌else◌}
use Rattle.computed.proofs.Lossless.{lossless}
use Rattle.refusals.specs.Numbered.{Row, answered}
use Rattle.refusals.proofs.Lossless.{answered_lossless}
use Rattle.script_check.specs.Records.{fault_row, judgement_numbered}
use Rattle.script_check.specs.declared.faults.RecordFault.{RecordFault}
use Rattle.script_check.specs.declared.faults.RecordFault.TheVariants.{Kind, Value, Padding, Falling}
use Rattle.script_check.specs.declared.faults.ScriptFault.{ScriptFault}
use Rattle.script_check.specs.declared.faults.ScriptFault.TheVariants.{TooLong, NotWhole, Record}

-- the fault that a row is of
abbrev of_row : Row → RecordFault
of_row r = if eqb r.number 16 then Kind else if eqb r.number 17 then Value else if eqb r.number 18 then Padding else Falling

abbrev record_of : List ℤ → ℕ
record_of [] = 0
record_of (i ∷ is) = nat_abs i

abbrev pub fault_back : Row → ScriptFault
fault_back r = if eqb r.number 14 then TooLong else if eqb r.number 13 then NotWhole else Record (record_of r.values) (of_row r)

of_row_lem : (i : ℕ) (f : RecordFault) → of_row (fault_row (Record i f)) ≡ f
of_row_lem i Kind = refl
of_row_lem i Value = refl
of_row_lem i Padding = refl
of_row_lem i Falling = refl

fault_back_lem : (f : ScriptFault) → fault_back (fault_row f) ≡ f
fault_back_lem TooLong = refl
fault_back_lem NotWhole = refl
fault_back_lem (Record i Kind) = refl
fault_back_lem (Record i Value) = refl
fault_back_lem (Record i Padding) = refl
fault_back_lem (Record i Falling) = refl

pub check_lossless : (a b : Result (Unit {0}) ScriptFault) → answered fault_row a ≡ answered fault_row b → a ≡ b
check_lossless = answered_lossless fault_row (lossless fault_row fault_back fault_back_lem)

pub judgement_lossless : (i : ℕ) (a b : Result ℕ RecordFault) → judgement_numbered i a ≡ judgement_numbered i b → a ≡ b
judgement_lossless i = answered_lossless (λ f. fault_row (Record i f)) (lossless (λ f. fault_row (Record i f)) of_row (of_row_lem i))
