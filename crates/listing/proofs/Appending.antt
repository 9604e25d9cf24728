-- Text appended to a slice: written there, one text after another, and a text where there is room for it.
-- Assumes nothing.
use Rattle.std.proofs.Common.{◌≡◌, ℕ, ◌+◌, ◌≤◌, List, [], ◌++◌, length, refl, sym, ap, ◌∙◌, arith, length-append}
use Rattle.std.proofs.Math.Seq.{paste, paste-zero, take-length}
use Rattle.std.proofs.lemmas.Slice.{put_mid-paste}
use Rattle.std.proofs.lemmas.List.Edits.{paste-paste}
use Rattle.std.proofs.lemmas.Bool.Decides.{nat_tests}
use borrow.Author.Tests.{le-leb}
use borrow.Rule.Slice.PartMut.{put_mid}
use Rattle.listing.specs.Appended.{appended, Appended, AppendedIn}

-- no text
pub nothing : (out : List ℕ) (at : ℕ) → Appended [] out at out at
unfolding appended
nothing out at = record { bytes = paste-zero out at []; next = omega arith }

-- the slice with a text written over it
as_paste : (text out : List ℕ) (at : ℕ) → appended out at text ≡ paste out at text (length text)
unfolding appended
as_paste text out at = rw (take-length text)

-- a text copied to the k bytes from `at` on
pub written : (text part out : List ℕ) (at k : ℕ) → part ≡ text → k ≡ length text → Appended text out at (put_mid at k out part) (at + length text)
written text part out at k e n = record {
  bytes = put_mid-paste at k out part text (length text) e (sym n) refl ∙ sym (as_paste text out at);
  next = refl;
}

-- two texts, one after the other, are appended as one
joined : (s t out : List ℕ) (at : ℕ) → at ≤ length out → appended (appended out at s) (at + length s) t ≡ appended out at (s ++ t)
joined s t out at h =
    rw (as_paste s out at, as_paste t (paste out at s (length s)) (at + length s), as_paste (s ++ t) out at, length-append s t)
    (paste-paste out at s t (length s) (length t) refl refl h)

pub also : {s t out out₁ out₂ : List ℕ} {at r₁ r₂ : ℕ} → at ≤ length out → Appended s out at out₁ r₁ → Appended t out₁ r₁ out₂ r₂ → Appended (s ++ t) out at out₂ r₂
also {s} {t} {out} {out₁} {out₂} {at} {r₁} {r₂} h a b = record {
  bytes =
      b.bytes
      ∙ ap (λ (l : List ℕ). appended l r₁ t) a.bytes
      ∙ ap (λ (k : ℕ). appended (appended out at s) k t) a.next
      ∙ joined s t out at h;
  next = omega (arith, a.next, b.next, length-append s t);
}

-- a position with room after it is within the slice
pub within : (room : ℕ) {at n : ℕ} → at + room ≤ n → at ≤ n
within room h = omega arith

-- for a caller that has room
pub fitting : {room at next : ℕ} {text out out' : List ℕ} → at + room ≤ length out → AppendedIn room text out at out' next → Appended text out at out' next
fitting {room} {at} {next} {text} {out} h a = let e = le-leb (at + room) (length out) h in record { bytes = rw e at a.bytes; next = rw e at a.next }

-- a text that is no longer than its room ends within the slice
pub ends_within : {room at next : ℕ} {text out out' : List ℕ} → length text ≤ room → at ≤ length out → AppendedIn room text out at out' next → (at ≤ next) × (next ≤ length out)
ends_within h w a = let n = a.next in (grind (arith, nat_tests), grind (arith, nat_tests))
