-- A report posted at the waiting count is a report stored, one or several in turn: past its last place, the store is left as it was.
-- Assumes nothing.
use Prim.Native.Nat.{ℕ, ◌≤◌}
use mathlib.Core.Bool.{Bool, true, false, not}
use mathlib.Core.List.{List, [], ◌∷◌}
use mathlib.Core.Path.{◌≡◌, refl, sym, ◌∙◌, ap, subst}
use lib.Dec.{T, ltb, nltb→le}
use lib.ListN.{length, set, length-set}
use lib.Seq.{set_out}
use Rattle.std.specs.Prelude.{if◌then◌else◌, Option, Some}
use Rattle.diagnostics.specs.Reports.{counted, stored, stored_all}
use Rattle.diagnostics.specs.ByValue.{posting_of, posted}
use Rattle.diagnostics.specs.declared.Diagnostics.{Diagnostics}
use Rattle.diagnostics.specs.declared.I2cDiagnostic.{I2cDiagnostic}
use Rattle.diagnostics.specs.declared.Posting.{Posting}

-- a record at the waiting count of n
abbrev pub post_of : Diagnostics → I2cDiagnostic → Option Posting
post_of n d = Some (posting_of n d)

pub post_stores : (n : Diagnostics) (d : I2cDiagnostic) (s : List I2cDiagnostic) → length s ≡ 256 → posted (post_of n d) s ≡ stored n d s
post_stores n d s l = by (ltb n.waiting 256) refl
  where
    by : (w : Bool) → ltb n.waiting 256 ≡ w → set s n.waiting d ≡ (if w then set s n.waiting d else s)
    by true q = refl
    by false q = set_out s n.waiting d (subst (λ (m : ℕ). m ≤ n.waiting) (sym l) (nltb→le n.waiting 256 (subst (λ (z : Bool). T (not z)) (sym q) tt)))

-- a list of two reports, posted in turn: the second at the count that the first leaves
pub posts_in_turn : (n : Diagnostics) (d e : I2cDiagnostic) (s : List I2cDiagnostic) → length s ≡ 256 → posted (post_of (counted n) e) (posted (post_of n d) s) ≡ stored_all (d ∷ e ∷ []) n s
posts_in_turn n d e s l = post_stores (counted n) e (set s n.waiting d) (length-set s n.waiting d ∙ l) ∙ ap (stored (counted n) e) (post_stores n d s l)
