-- An input's listing is that of its first 32,769 bytes: a longer input is refused by its length.
-- Assumes nothing.
use Prim.Native.Nat.{ℕ, ◌<◌}
use mathlib.Core.Bool.{Bool, true, false}
use mathlib.Core.List.{List, []}
use mathlib.Core.Path.{◌≡◌, refl, sym, ap, ◌∙◌, subst}
use native.Mathlib.Omega.{arith}
use lib.Dec.{leb}
use lib.ListN.{length, take}
use lib.Seq.{take_all, length-take-le}
use borrow.Author.Tests.{lt-ltb, leb-true, leb-false}
use Rattle.refusals.specs.Numbered.{Numbered, refused}
use Rattle.script_check.specs.Records.{checked_length, checked_script}
use Rattle.script_listing.specs.Listing.{listing_by, listing_of, Printed, ListedInput}

too_long : (s : List ℕ) → 32768 < length s → checked_script s ≡ refused 14 []
unfolding checked_length
too_long s h = rw (lt-ltb 32768 (length s) h)

pub first_bytes : (s : List ℕ) → listing_of (take 32769 s) ≡ listing_of s
first_bytes s = by (leb (length s) 32769) refl
  where
    line : (t : List ℕ) → 32768 < length t → listing_of t ≡ listing_by (refused 14 []) []
    line t h = ap (λ (v : Numbered (Unit {0})). listing_by v t) (too_long t h)

    by : (b : Bool) → leb (length s) 32769 ≡ b → listing_of (take 32769 s) ≡ listing_of s
    by true e = ap listing_of (take_all 32769 s (leb-true (length s) 32769 e))
    by false e =
        let h : 32769 < length s = leb-false (length s) 32769 e in
        line (take 32769 s) (omega (arith, length-take-le 32769 s (omega arith))) ∙ sym (line s (omega arith))

pub input_listed : (bytes : List ℕ) (n : ℕ) (out : List ℕ) {t out' : List ℕ} {r : ℕ} → length bytes ≡ 32769 → t ≡ take n bytes → Printed (listing_of t) out out' r → ListedInput bytes n out out' r
input_listed bytes n out {t} {out'} {r} l m p s e = subst (λ (x : List ℕ). Printed x out out' r) (ap listing_of (m ∙ e ∙ ap (λ (i : ℕ). take i s) l) ∙ first_bytes s) p
