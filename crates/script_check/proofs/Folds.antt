-- Document 02, Order 3: the check as a fold of the judge, with the last instant as a running number, has the answers of the definition.
-- Assumes nothing.
use Rattle.std.proofs.Common.{◌≡◌, ℕ, zero, suc, ◌+◌, ◌-◌, ◌*◌, ◌≤◌, ◌<◌, List, [], length, get_or, drop, ℤ, refl, sym, ap, ◌∙◌, add-one, arith, length-drop, Result, Ok, Err, MatchResult, IsErrAnd}
use Rattle.refusals.proofs.Checks.{error_is}
use Rattle.std.proofs.lemmas.List.{length-take-le, get_or-take, get_or-drop}
use Rattle.std.specs.Simd.{first_chunks}
use Rattle.refusals.specs.Numbered.{Numbered, accepted, refused, and_then, answered, refused_by}
use Rattle.script_check.specs.Records.{little_endian, instant_of, kind_of, value_of, padding_of, records_in, last_of, judged_after, record_fault, judgement_numbered, verdict_of, checked_length, checked_from, checked_script, fault_row}
use Rattle.script_check.specs.Judging.{bytes_of, judged, moved_on, running, folded_script}
use Rattle.script_check.specs.declared.faults.RecordFault.{RecordFault}
use Rattle.script_check.specs.declared.faults.ScriptFault.{ScriptFault}
use Rattle.script_check.specs.declared.faults.ScriptFault.TheVariants.{Record}
use Rattle.script_check.proofs.Bytes.{part_number, chunk}
use Rattle.script_check.proofs.LegalRecords.{passing}

-- ---- a record by its own bytes

-- they are sixteen
pub own_sixteen : (s : List ℕ) (i : ℕ) → i < records_in s → length (bytes_of s i) ≡ 16
own_sixteen s i h = length-take-le 16 (drop (16 * i) s) (omega (arith, length-drop (16 * i) s))

module _ (s : List ℕ) (i : ℕ) where
  own_byte : (k : ℕ) → k < 16 → get_or (bytes_of s i) k 0 ≡ get_or s (16 * i + k) 0
  own_byte k h = get_or-take 16 (drop (16 * i) s) k 0 h ∙ get_or-drop (16 * i) s k 0

  pub own_instant : instant_of (bytes_of s i) 0 ≡ instant_of s i
  own_instant = part_number s (16 * i) 16 0 8 (omega arith) ∙ ap (λ (x : ℕ). little_endian s x 8) (omega arith)

  pub own_kind : kind_of (bytes_of s i) 0 ≡ kind_of s i
  own_kind = own_byte 8 (omega arith)

  pub own_value : value_of (bytes_of s i) 0 ≡ value_of s i
  own_value = own_byte 9 (omega arith)

  own_padding : padding_of (bytes_of s i) 0 ≡ padding_of s i
  own_padding = part_number s (16 * i) 16 10 6 (omega arith)

  -- the judge sees all that the definition asks of a record
  pub own_judged : (last : ℕ) → judged (bytes_of s i) last ≡ judged_after s i last
  unfolding judged_after
  own_judged last = rw (own_kind, own_value, own_padding, own_instant)

  -- a record that nothing is wrong with is judged by its instant
  pub judged_instant : (last at : ℕ) → judged_after s i last ≡ Ok at → at ≡ instant_of s i
  judged_instant last at e = (passing s i last at e).own

-- ---- the fold

-- two checks, then a third
then_then : (v w x : Numbered (Unit {0})) → and_then v (and_then w x) ≡ and_then (and_then v w) x
then_then (accepted u) w x = refl
then_then (refused number values) w x = refl

then_nothing : (v : Numbered (Unit {0})) → and_then v (accepted tt) ≡ v
then_nothing (accepted u) = refl
then_nothing (refused number values) = refl

verdict_then : (v : Numbered (Unit {0})) (at : ℕ) → verdict_of (and_then v (accepted at)) ≡ v
verdict_then (accepted u) at = refl
verdict_then (refused number values) at = refl

module _ (s : List ℕ) where
  abbrev pub verdict_on : ℕ → Numbered (Unit {0})
  verdict_on i = verdict_of (judgement_numbered i (record_fault s i))

  -- one record more at the end
  one_more : (i n : ℕ) → checked_from s i (suc n) ≡ and_then (checked_from s i n) (verdict_on (i + n))
  unfolding checked_from
  one_more i zero = then_nothing (verdict_on i) ∙ ap verdict_on (omega arith)
  one_more i (suc n) =
      ap (and_then (verdict_on i)) (one_more (i + 1) n ∙ ap (λ (k : ℕ). and_then (checked_from s (i + 1) n) (verdict_on k)) (omega arith))
      ∙ then_then (verdict_on i) (checked_from s (i + 1) n) (verdict_on (i + suc n))

  -- what the judge answers of record i is its verdict, with the number that the next record is judged by
  moves_on : (i : ℕ) (v : Numbered (Unit {0})) → moved_on i (bytes_of s i) (and_then v (accepted (last_of s i))) ≡ and_then (and_then v (verdict_on i)) (accepted (instant_of s i))
  moves_on i (refused number values) = refl
  moves_on i (accepted u) = ap (judgement_numbered i) (own_judged s i (last_of s i)) ∙ by (record_fault s i) refl
    where
      by : (j : Result ℕ RecordFault) → record_fault s i ≡ j → judgement_numbered i j ≡ and_then (verdict_of (judgement_numbered i j)) (accepted (instant_of s i))
      by (Ok at) e = ap (λ (x : ℕ). accepted x) (judged_instant s i (last_of s i) at e)
      by (Err f) e = refl

  -- up to record i without a fault the running number is the instant of record i - 1, or 0; after a fault it is the refusal of the first record that has one
  pub running_is : (i : ℕ) → running s i ≡ and_then (checked_from s 0 i) (accepted (last_of s i))
  unfolding running checked_from
  running_is zero = refl
  running_is (suc i) =
      ap (moved_on i (bytes_of s i)) (running_is i) ∙ moves_on i (checked_from s 0 i)
      ∙ ap (λ (v : Numbered (Unit {0})). and_then v (accepted (instant_of s i))) (sym (one_more 0 i ∙ ap (λ (k : ℕ). and_then (checked_from s 0 i) (verdict_on k)) (omega arith)))

  pub verdict_same : (i : ℕ) → verdict_of (running s i) ≡ checked_from s 0 i
  verdict_same i = ap verdict_of (running_is i) ∙ verdict_then (checked_from s 0 i) (last_of s i)

-- for every script the fold's answer is the definition's
pub folded_same : (s : List ℕ) → folded_script s ≡ checked_script s
folded_same s = ap (and_then (checked_length (length s))) (verdict_same s (records_in s))

-- ---- the loop

-- a judgement of record i with its faults as the script's
pub numbered : (i : ℕ) (r : Result ℕ RecordFault) (m : Result ℕ ScriptFault) → MatchResult r (λ at. m ≡ Ok at) (λ f. IsErrAnd m (λ d. d ≡ Record i f)) → answered fault_row m ≡ judgement_numbered i r
numbered i (Ok at) m e = ap (answered fault_row) e
numbered i (Err f) m e = ap (answered fault_row) (error_is m (Record i f) e)

module _ (s : List ℕ) where
  -- after a refusal nothing is judged
  stays_refused : (number : ℕ) (values : List ℤ) (i k : ℕ) → running s i ≡ refused number values → running s (k + i) ≡ refused number values
  unfolding running
  stays_refused number values i zero e = let z : 0 + i ≡ i = omega arith in ap (running s) z ∙ e
  stays_refused number values i (suc k) e = let z : suc k + i ≡ suc (k + i) = omega arith in ap (running s) z ∙ ap (moved_on (k + i) (bytes_of s (k + i))) (stays_refused number values i k e)

  -- records 0 to i - 1 have no fault, and the running number is last
  pub record Passed (i last : ℕ) : Type 0 where
    pub within : i ≤ records_in s
    pub number : running s i ≡ accepted last

  pub none_passed : Passed 0 0
  unfolding running
  none_passed = record { within = omega arith; number = refl }

  module _ (i last : ℕ) (p : Passed i last) where
    pub ends : records_in s ≤ i → accepted (tt {0}) ≡ checked_from s 0 (records_in s)
    ends h = let e : i ≡ records_in s = omega (arith, p.within) in sym (ap verdict_of p.number) ∙ ap (λ (k : ℕ). verdict_of (running s k)) e ∙ verdict_same s (records_in s)

    module _ (h : i < records_in s) (records : List (List ℕ)) (own : records ≡ first_chunks 16 (records_in s) s) (r : Result ℕ RecordFault) (e : r ≡ judged (get_or records i []) last)
        (m : Result ℕ ScriptFault) (q : answered fault_row m ≡ judgement_numbered i r) where
      -- the number, or the refusal, after record i
      after : running s (suc i) ≡ answered fault_row m
      unfolding running
      after = rw p.number (cc (chunk 16 (records_in s) s i [] h))

      pub passes : (at : ℕ) → m ≡ Ok at → Passed (i + 1) at
      passes at k = record { within = omega arith; number = ap (running s) (add-one i) ∙ after ∙ ap (answered fault_row) k }

      pub stops : (f : ScriptFault) → m ≡ Err f → refused_by (fault_row f) ≡ checked_from s 0 (records_in s)
      stops f k =
          let z : records_in s - suc i + suc i ≡ records_in s = omega arith in
          sym (ap verdict_of (sym (ap (running s) z) ∙ stays_refused (fault_row f).number (fault_row f).values (suc i) (records_in s - suc i) (after ∙ ap (answered fault_row) k))) ∙ verdict_same s (records_in s)
