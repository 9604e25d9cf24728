-- The answer that a `Result` or an `Option` is loses nothing: equal answers are of equal results.
-- Assumes nothing.
use mathlib.Core.Path.{◌≡◌, refl, sym, ap}
use Rattle.std.specs.Prelude.{ℕ, [], Option, Some, None, Result, Ok, Err}
use Rattle.refusals.specs.Numbered.{Numbered, accepted, refused, Row, answered, some_or}
use Rattle.refusals.proofs.Checks.{accepted_or, never}

-- the row of a refusal
abbrev row_in : {A : Type 0} → Numbered A → Row
row_in (accepted a) = record { number = 0; values = [] }
row_in (refused number values) = record { number = number; values = values }

-- two errors with one row are one error: then two results with one answer are one result
pub answered_lossless : {A E : Type 0} (row : E → Row) → ((d e : E) → row d ≡ row e → d ≡ e) → (p q : Result A E) → answered row p ≡ answered row q → p ≡ q
answered_lossless row same (Ok a) (Ok b) e = ap Ok (ap (accepted_or a) e)
answered_lossless row same (Ok a) (Err d) e = never (sym e)
answered_lossless row same (Err d) (Ok a) e = never e
answered_lossless row same (Err c) (Err d) e = ap Err (same c d (ap row_in e))

pub some_or_lossless : {A : Type 0} (number : ℕ) (p q : Option A) → some_or number p ≡ some_or number q → p ≡ q
some_or_lossless number (Some a) (Some b) e = ap Some (ap (accepted_or a) e)
some_or_lossless number (Some a) None e = never (sym e)
some_or_lossless number None (Some a) e = never e
some_or_lossless number None None e = refl
