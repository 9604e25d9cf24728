-- The bits that bytes 8 to 15 of a legal record never have: what a table of them must hold, so that a number has none of them exactly where its bytes are a kind, a value that the kind may have, and zeros.
-- Assumes nothing.
use Rattle.std.proofs.Common.{◌≡◌, ℕ, ◌+◌, ◌*◌, ◌^◌, ◌-◌, ◌<◌, ◌%◌, ◌/◌, List, slice_index_or, Bool, true, false, not, eqb, ltb, ◌&&◌, bit_and, refl, ap, ap₂, subst₂, ◌∙◌, arith}
use Rattle.std.proofs.lemmas.Nat.{and_block, and_mask}
use Rattle.std.proofs.lemmas.Bool.Decides.{nat_tests}
use Rattle.std.specs.Prelude.{if◌then◌else◌}
use lib.Dec.{T}
use Rattle.computed.proofs.Claim.{Claim, eq, le, Means, below, each}
use Rattle.script_check.specs.Records.{bad_value}

-- x is 0 exactly where b holds
abbrev pub zero_where : Bool → ℕ → Claim
zero_where b x = if b then eq x 0 else le 1 x

decides : (b : Bool) (x : ℕ) → Means (zero_where b x) → eqb x 0 ≡ b
decides true x h = grind (arith, nat_tests)
decides false x h = grind (arith, nat_tests)

-- a sum of three parts is 0 exactly where they are
none_of : (x y p : ℕ) → eqb (x + 256 * (y + 256 * p)) 0 ≡ (eqb x 0 && eqb y 0) && eqb p 0
none_of x y p = grind (arith, nat_tests)

-- the bits by the kind's lowest two bits: of the kind's byte, and of the value's
module _ (masks : List ℕ) where
  abbrev mask : ℕ → ℕ
  mask j = slice_index_or masks j 0

  abbrev low : ℕ → ℕ
  low j = mask j % 256

  abbrev high : ℕ → ℕ
  high j = mask j / 256 % 256

  -- a kind has none of them exactly where it is below 4
  abbrev pub kind_fits : ℕ → Claim
  kind_fits k = zero_where (ltb k 4) (bit_and k (low (k % 4)))

  -- a value, of kind n / 256, has none of them exactly where its kind may have it
  abbrev pub value_fits : ℕ → Claim
  value_fits n = zero_where (not (bad_value (n / 256) (n % 256))) (bit_and (n % 256) (high (n / 256)))

  -- they have all bits of bytes 10 to 15
  abbrev pub padding_fits : ℕ → Claim
  padding_fits j = eq (mask j / 65536) (2 ^ 48 - 1)

  module _ (kinds : T (below (λ k. kind_fits (0 + k)) 256)) (values : T (below (λ n. value_fits (0 + n)) 1024)) (paddings : T (below (λ j. padding_fits (0 + j)) 4)) where
    of_kind : (kind : ℕ) → kind < 256 → eqb (bit_and kind (low (kind % 4))) 0 ≡ ltb kind 4
    of_kind kind h = decides _ _ (each kind_fits 0 256 kinds kind (omega arith) h)

    of_value : (kind value : ℕ) → kind < 4 → value < 256 → eqb (bit_and value (high kind)) 0 ≡ not (bad_value kind value)
    of_value kind value h k =
        let at : (256 * kind + value) / 256 ≡ kind = omega arith in
        let rest : (256 * kind + value) % 256 ≡ value = omega arith in
        let c = each value_fits 0 1024 values (256 * kind + value) (omega arith) (omega arith) in
        decides _ _ (subst₂ (λ (i j : ℕ). Means (zero_where (not (bad_value i j)) (bit_and j (high i)))) at rest c)

    mask_is : (j : ℕ) → j < 4 → mask j ≡ low j + 256 * (high j + 256 * (2 ^ 48 - 1))
    mask_is j h = omega (arith, each padding_fits 0 4 paddings j (omega arith) h)

    module _ (half kind value padding : ℕ) (is : half ≡ kind + 256 * (value + 256 * padding)) (k : kind < 256) (v : value < 256) (p : padding < 2 ^ 48) where
      -- byte by byte
      masked : (a b : ℕ) → a < 256 → b < 256 → bit_and half (a + 256 * (b + 256 * (2 ^ 48 - 1))) ≡ bit_and kind a + 256 * (bit_and value b + 256 * padding)
      masked a b h i =
          ap₂ bit_and (omega arith) (omega arith)
          ∙ and_block 8 (value + 256 * padding) (b + 256 * (2 ^ 48 - 1)) kind a k h
          ∙ ap (λ (x : ℕ). x * 2 ^ 8 + bit_and kind a) (ap₂ bit_and (omega arith) (omega arith) ∙ and_block 8 padding (2 ^ 48 - 1) value b v i)
          ∙ omega (arith, and_mask padding 48)

      both : (b : Bool) → ltb kind 4 ≡ b → (b && eqb (bit_and value (high (kind % 4))) 0) ≡ b && not (bad_value kind value)
      both true e =
          let h : kind < 4 = grind (arith, nat_tests) in
          ap (λ (i : ℕ). eqb (bit_and value (high i)) 0) (omega arith) ∙ of_value kind value h v
      both false e = refl

      pub legal_half : eqb (bit_and half (mask (half % 4))) 0 ≡ (ltb kind 4 && not (bad_value kind value)) && eqb padding 0
      legal_half =
          ap (λ (i : ℕ). eqb (bit_and half (mask i)) 0) (omega arith)
          ∙ ap (λ (x : ℕ). eqb x 0) (ap (bit_and half) (mask_is (kind % 4) (omega arith)) ∙ masked (low (kind % 4)) (high (kind % 4)) (omega arith) (omega arith))
          ∙ none_of (bit_and kind (low (kind % 4))) (bit_and value (high (kind % 4))) padding
          ∙ ap (λ (x : Bool). (x && eqb (bit_and value (high (kind % 4))) 0) && eqb padding 0) (of_kind kind k)
          ∙ ap (λ (x : Bool). x && eqb padding 0) (both (ltb kind 4) refl)
