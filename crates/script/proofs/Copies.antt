-- A list that is copied into another, record by record; and a store of 256 records copied so into an array, and back. No code goes by these laws: `run` copies by the library's `copy_from_slice`, which promises the whole copy.
-- Assumes nothing.
use Rattle.std.proofs.Common.{◌≡◌, ℕ, suc, ◌+◌, ◌≤◌, ◌<◌, Bool, true, false, eqb, List, ◌++◌, length, get_or, take, drop, set, refl, sym, ap, ◌∙◌, add-one, arith}
use Rattle.std.proofs.lemmas.Bool.Decides.{nat_tests}
use Rattle.std.proofs.Math.ListN.{drop_of_length-le}
use Rattle.std.proofs.Math.Seq.{length-take-le, length_front, take-suc, take_all, drop-cons, append_snoc, set_at}
use Rattle.std.specs.Prelude.{if◌then◌else◌, cond}
use mathlib.Core.List.{append-nil}

-- how many records of a store of n are copied: all of 256, else none
abbrev pub whole_of : ℕ → ℕ
whole_of n = cond (eqb n 256) 256 0

module _ {X : Type 0} (xs zs : List X) where
  -- the first i records are xs', the rest are zs'
  abbrev pub Copied : ℕ → List X
  Copied i = take i xs ++ drop i zs

  -- it is as long as zs
  pub copied_len : (i : ℕ) → i ≤ length xs → i ≤ length zs → length (Copied i) ≡ length zs
  copied_len i hx hz = length_front zs (take i xs) i (length-take-le i xs hx ∙ sym (length-take-le i zs hz))

  -- the next record makes the next list
  pub copied_next : (i : ℕ) (d : X) → i < length xs → i < length zs → set (Copied i) i (get_or xs i d) ≡ Copied (i + 1)
  copied_next i d hx hz =
      ap (λ (l : List X). set (take i xs ++ l) i (get_or xs i d)) (drop-cons zs i d hz) ∙ set_at (take i xs) (get_or zs i d) (drop (suc i) zs) (get_or xs i d) i (length-take-le i xs (omega arith))
      ∙ sym (append_snoc (take i xs) (get_or xs i d) (drop (suc i) zs)) ∙ ap (λ (l : List X). l ++ drop (suc i) zs) (sym (take-suc xs i d hx)) ∙ ap (λ (k : ℕ). take k xs ++ drop k zs) (sym (add-one i))

  -- with all copied it is xs
  pub copied_all : (n : ℕ) → length xs ≡ n → length zs ≡ n → Copied n ≡ xs
  copied_all n p q = ap (λ (l : List X). take n xs ++ l) (drop_of_length-le zs {i = n} (omega (arith, q))) ∙ append-nil (take n xs) ∙ take_all n xs (omega (arith, p))

module _ {X : Type 0} (st : List X) where
  -- the array holds the store's records where there are 256
  pub copied_in : (init rs : List X) (n : ℕ) → n ≡ whole_of (length st) → length init ≡ 256 → rs ≡ Copied st init n → length st ≡ 256 → st ≡ rs
  copied_in init rs n w l e f =
      let k : n ≡ 256 = grind (arith, nat_tests) in
      sym (e ∙ ap (Copied st init) k ∙ copied_all st init 256 f l)

  -- the store holds the array's records where it has 256, and else its own
  pub copied_back : (rs st' : List X) (n : ℕ) → n ≡ whole_of (length st) → length rs ≡ 256 → st' ≡ Copied rs st n → st' ≡ (if eqb (length st) 256 then rs else st)
  copied_back rs st' n w l e = by (eqb (length st) 256) refl w
    where
      by : (b : Bool) → eqb (length st) 256 ≡ b → n ≡ cond b 256 0 → st' ≡ (if b then rs else st)
      by true f k = e ∙ ap (Copied rs st) k ∙ copied_all rs st 256 l (grind (arith, nat_tests))
      by false f k = e ∙ ap (Copied rs st) k
