-- What two calls move, one after the other.
use Rattle.std.proofs.Common.{◌≡◌, ℕ, ◌+◌, ◌-◌, ◌≤◌, List, ◌++◌, length, take, drop, Option, sym, ap, ◌∙◌, subst, le_refl, drop_at, length-take-le}
use Rattle.std.proofs.Math.Seq.{take-add, take-append-le}
use Rattle.std.proofs.KnownBytes.{Appends-trans, Consumes-trans}
use Rattle.std.proofs.lemmas.List.{take_rest}
use Rattle.std.proofs.lemmas.Slice.{take-put_mid_below}
use Rattle.std.specs.Io.KnownBytes.{Appends, Consumes}
use borrow.Rule.Slice.PartMut.{put_mid, post_of}

-- the bytes of a slice and those of a part behind them, at its start
take-put_mid_part : (a k n : ℕ) (xs ys : List ℕ) → a ≤ length xs → n ≤ length ys → take (a + n) (put_mid a k xs ys) ≡ take a xs ++ take n ys
take-put_mid_part a k n xs ys within fits =
    let after = ys ++ post_of a k xs in
    take-add a n (put_mid a k xs ys)
    ∙ ap (λ l. l ++ take n (drop a (put_mid a k xs ys))) (take-put_mid_below a k xs ys a (le_refl a) within)
    ∙ ap (λ l. take a xs ++ take n l) (drop_at (take a xs) after a (length-take-le a xs within))
    ∙ ap (λ l. take a xs ++ l) (take-append-le n ys (post_of a k xs) fits)

-- a read behind the first `count` bytes of a slice xs, which left ys there
pub consumes_on : (a b d : Option (List ℕ)) (count room more : ℕ) (xs ys : List ℕ) → count ≤ length xs → more ≤ length ys → Consumes a b (take count xs)
    → Consumes b d (take more ys) → Consumes a d (take (count + more) (put_mid count room xs ys))
consumes_on a b d count room more xs ys within fits first second =
    subst (Consumes a d) (sym (take-put_mid_part count room more xs ys within fits)) (Consumes-trans a b d _ _ first second)

-- a write of what stands behind the first `count` bytes of a slice xs
pub appends_on : (a b d : Option (List ℕ)) (count more : ℕ) (xs : List ℕ) → Appends a b (take count xs) → Appends b d (take more (take (length xs - count) (drop count xs)))
    → Appends a d (take (count + more) xs)
appends_on a b d count more xs first second =
    let joined = ap (λ l. take count xs ++ take more l) (take_rest xs count) ∙ sym (take-add count more xs) in
    subst (Appends a d) joined (Appends-trans a b d _ _ first second)
