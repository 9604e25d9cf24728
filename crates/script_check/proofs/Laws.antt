-- The check accepts exactly the legal scripts, and a refused record is the first with a fault.
-- Assumes nothing.
use Rattle.std.proofs.Common.{◌≡◌, ℕ, zero, suc, ◌+◌, ◌≤◌, ◌<◌, ◌%◌, List, [], ◌∷◌, length, pos, refl, sym, ◌∙◌, ap, ap₂, add-one, arith, Result, Ok, Err}
use Rattle.std.proofs.lemmas.Bool.Decides.{nat_tests}
use Rattle.refusals.specs.Numbered.{Numbered, accepted, refused, and_then}
use Rattle.script_check.specs.Records.{Legal, FirstFault, instant_of, last_of, record_fault, records_in, fault_number, judgement_numbered, verdict_of, checked_length, checked_from, checked_script}
use Rattle.script_check.specs.declared.faults.RecordFault.{RecordFault}
use Rattle.script_check.proofs.LegalRecords.{clean_legal, legal_clean}
use Rattle.script_check.proofs.Folds.{judged_instant, verdict_on}

both_accepted : (v w : Numbered (Unit {0})) → and_then v w ≡ accepted (tt {0}) → (v ≡ accepted (tt {0})) × (w ≡ accepted (tt {0}))
both_accepted (accepted u) w e = (refl, e)
both_accepted (refused n values) w e = cc

-- ---- the length

pub record ShortWhole (n : ℕ) : Type 0 where
  pub short : n ≤ 32768
  whole : n % 16 ≡ 0

pub accepted_length : (n : ℕ) → checked_length n ≡ accepted (tt {0}) → ShortWhole n
unfolding checked_length
accepted_length n e = record { short = grind (arith, nat_tests); whole = grind (arith, nat_tests) }

length_accepted : (n : ℕ) → n ≤ 32768 → n % 16 ≡ 0 → checked_length n ≡ accepted (tt {0})
unfolding checked_length
length_accepted n p q = grind (arith, nat_tests)

-- ---- the records from record i on

module _ (s : List ℕ) where
  no_fault : (i : ℕ) → verdict_on s i ≡ accepted (tt {0}) → record_fault s i ≡ Ok (instant_of s i)
  no_fault i = by (record_fault s i) refl
    where
      by : (j : Result ℕ RecordFault) → record_fault s i ≡ j → verdict_of (judgement_numbered i j) ≡ accepted (tt {0}) → record_fault s i ≡ Ok (instant_of s i)
      by (Ok at) e q = e ∙ ap Ok (judged_instant s i (last_of s i) at e)
      by (Err f) e q = cc

  accepted_from : (i n : ℕ) → checked_from s i n ≡ accepted (tt {0}) → (j : ℕ) → i ≤ j → j < i + n → record_fault s j ≡ Ok (instant_of s j)
  unfolding checked_from
  accepted_from i zero e j p q = absurd (omega arith)
  accepted_from i (suc n) e j p q =
      let t : (verdict_on s i ≡ accepted (tt {0})) × (checked_from s (i + 1) n ≡ accepted (tt {0})) = both_accepted (verdict_on s i) (checked_from s (i + 1) n) e in
      grind (arith, no_fault i t.0, accepted_from (i + 1) n t.1 j)

  from_accepted : (i n : ℕ) → ((j : ℕ) → i ≤ j → j < i + n → record_fault s j ≡ Ok (instant_of s j)) → checked_from s i n ≡ accepted (tt {0})
  unfolding checked_from
  from_accepted i zero f = refl
  from_accepted i (suc n) f = rw (f i (omega arith) (omega arith)) (from_accepted (i + 1) n (λ j p q. f j (omega arith) (omega arith)))

  -- a fault is that of the first record that has one
  record FirstFrom (a n number i : ℕ) : Type 0 where
    from : a ≤ i
    within : i < a + n
    fault : judgement_numbered i (record_fault s i) ≡ refused number (pos i ∷ [])
    before : (j : ℕ) → a ≤ j → j < i → record_fault s j ≡ Ok (instant_of s j)

  module _ (a n number i : ℕ) where
    after_first : record_fault s a ≡ Ok (instant_of s a) → FirstFrom (a + 1) n number i → FirstFrom a (suc n) number i
    after_first e r = record {
      from = omega arith;
      within = omega arith;
      fault = r.fault;
      before = λ j p q. grind (arith, r.before j);
    }

    at_first : judgement_numbered a (record_fault s a) ≡ refused number (pos i ∷ []) → a ≡ i → FirstFrom a (suc n) number i
    at_first e k = record { from = omega arith; within = omega arith; fault = rw (← k) (e ∙ ap (λ (x : ℕ). refused number (pos x ∷ [])) (sym k)); before = λ j p q. absurd (omega arith) }

  first_by : (a n number i : ℕ) → (checked_from s (a + 1) n ≡ refused number (pos i ∷ []) → FirstFrom (a + 1) n number i)
      → (j : Result ℕ RecordFault) → record_fault s a ≡ j → and_then (verdict_of (judgement_numbered a j)) (checked_from s (a + 1) n) ≡ refused number (pos i ∷ []) → FirstFrom a (suc n) number i
  first_by a n number i later (Ok at) e q = after_first a n number i (e ∙ ap Ok (judged_instant s a (last_of s a) at e)) (later q)
  first_by a n number i later (Err f) e q =
      let refusal : ℕ → ℕ → Numbered ℕ = λ m k. refused m (pos k ∷ []) in
      let k : a ≡ i = cc in
      let m : fault_number f ≡ number = cc in
      at_first a n number i (ap (judgement_numbered a) e ∙ ap₂ refusal m k) k

  first_from : (a n number i : ℕ) → checked_from s a n ≡ refused number (pos i ∷ []) → FirstFrom a n number i
  unfolding checked_from
  first_from a zero number i e = cc
  first_from a (suc n) number i e = first_by a n number i (first_from (a + 1) n number i) (record_fault s a) refl e

-- ---- the script

pub accepted_legal : (s : List ℕ) → checked_script s ≡ accepted tt → Legal s
accepted_legal s e =
    let t : (checked_length (length s) ≡ accepted (tt {0})) × (checked_from s 0 (records_in s) ≡ accepted (tt {0})) = both_accepted (checked_length (length s)) (checked_from s 0 (records_in s)) e in
    let l : ShortWhole (length s) = accepted_length (length s) t.0 in
    let clean : (i : ℕ) → i < records_in s → record_fault s i ≡ Ok (instant_of s i) = λ i h. accepted_from s 0 (records_in s) t.1 i (omega arith) (omega arith) in
    record {
      short = l.short;
      whole = l.whole;
      records = λ i h. (clean_legal s i (last_of s i) _ (clean i h)).0;
      rising = λ i h. rw (add-one i) (clean_legal s (suc i) (instant_of s i) _ (clean (suc i) (omega arith))).1;
    }

-- the instant before a record of a legal script is not above its own
not_below : (s : List ℕ) → Legal s → (i : ℕ) → i < records_in s → last_of s i ≤ instant_of s i
not_below s l zero h = omega arith
not_below s l (suc i) h = rw (add-one i) at (l.rising i (omega arith))

pub legal_accepted : (s : List ℕ) → Legal s → checked_script s ≡ accepted tt
legal_accepted s l =
    ap (λ (v : Numbered (Unit {0})). and_then v (checked_from s 0 (records_in s))) (length_accepted (length s) l.short l.whole)
    ∙ from_accepted s 0 (records_in s) (λ j p q. legal_clean s j (last_of s j) (l.records j (omega arith)) (not_below s l j (omega arith)))

-- a refusal of the length names no record: one that names a record is that of the records
records_refused : (n m i : ℕ) (v : Numbered (Unit {0})) → and_then (checked_length n) v ≡ refused m (pos i ∷ []) → v ≡ refused m (pos i ∷ [])
unfolding checked_length
records_refused n m i v e = grind (arith, nat_tests)

pub first_fault : (s : List ℕ) (n i : ℕ) → checked_script s ≡ refused n (pos i ∷ []) → FirstFault s n i
first_fault s n i e =
    let r : FirstFrom s 0 (records_in s) n i = first_from s 0 (records_in s) n i (records_refused (length s) n i _ e) in
    record { within = omega (arith, r.within); fault = r.fault; before = λ j h. r.before j (omega arith) h }
