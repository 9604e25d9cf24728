-- Nothing is wrong with a record by its tests exactly where it is legal by document 01's words.
-- Assumes nothing.
use Rattle.std.proofs.Common.{◌≡◌, ℕ, zero, suc, ◌+◌, ◌-◌, ◌*◌, ◌≤◌, ◌<◌, List, get_or, false, refl, arith, Ok}
use Rattle.std.proofs.lemmas.Bool.Decides.{nat_tests}
use Rattle.script_check.specs.Records.{little_endian, instant_of, kind_of, value_of, padding_of, bad_value, judged_after, LegalRecord}

-- ---- the value

module _ (k v : ℕ) where
  value_says : bad_value k v ≡ false → (k ≡ 2 → v ≤ 1) × (k ≡ 3 → v ≡ 0)
  unfolding bad_value
  value_says e = grind (arith, nat_tests)

  value_good : (k ≡ 2 → v ≤ 1) → (k ≡ 3 → v ≡ 0) → bad_value k v ≡ false
  unfolding bad_value
  value_good f g = grind (arith, nat_tests)

-- ---- a number of bytes is 0 exactly where each of them is

module _ (s : List ℕ) where
  each_zero : (from k : ℕ) → little_endian s from k ≡ 0 → (j : ℕ) → j < k → get_or s (from + j) 0 ≡ 0
  unfolding little_endian
  each_zero from zero e j h = absurd (omega arith)
  each_zero from (suc k) e zero h = grind arith
  each_zero from (suc k) e (suc j) h = grind (arith, each_zero (from + 1) k (omega arith) j (omega arith))

  all_zero : (from k : ℕ) → ((j : ℕ) → j < k → get_or s (from + j) 0 ≡ 0) → little_endian s from k ≡ 0
  unfolding little_endian
  all_zero from zero f = refl
  all_zero from (suc k) f = grind (arith, f 0 (omega arith), all_zero (from + 1) k (λ j h. grind (arith, f (j + 1) (omega arith))))

-- ---- the record

-- what the tests say of a record that nothing is wrong with
pub record Passing (s : List ℕ) (i last at : ℕ) : Type 0 where
  pub kind : kind_of s i ≤ 3
  pub value : bad_value (kind_of s i) (value_of s i) ≡ false
  pub padding : padding_of s i ≡ 0
  pub instant : last ≤ instant_of s i
  pub own : at ≡ instant_of s i

module _ (s : List ℕ) (i last : ℕ) where
  pub passing : (at : ℕ) → judged_after s i last ≡ Ok at → Passing s i last at
  unfolding judged_after
  passing at e = record { kind = grind (arith, nat_tests); value = grind arith; padding = grind (arith, nat_tests); instant = grind (arith, nat_tests); own = grind arith }

  pub clean_legal : (at : ℕ) → judged_after s i last ≡ Ok at → LegalRecord s i × (last ≤ instant_of s i)
  clean_legal at e =
      let p : Passing s i last at = passing at e in (
        record {
          kind = p.kind;
          read = (value_says _ _ p.value).0;
          stop = (value_says _ _ p.value).1;
          padding = λ k l h. grind (arith, each_zero s (16 * i + 10) 6 p.padding (k - 10) (omega arith));
        },
        p.instant,
      )

  pub legal_clean : LegalRecord s i → last ≤ instant_of s i → judged_after s i last ≡ Ok (instant_of s i)
  unfolding judged_after
  legal_clean l h =
      let v = value_good (kind_of s i) (value_of s i) l.read l.stop in
      let z = all_zero s (16 * i + 10) 6 (λ j m. grind (arith, l.padding (10 + j) (omega arith) (omega arith))) in
      grind (arith, nat_tests)
