-- The lookup of an entry finds it where the list has it, and a list has at most one entry at a place.
-- Assumes nothing.
use Prim.Native.Nat.{ℕ, zero, suc, ◌<◌}
use mathlib.Core.List.{List, [], ◌∷◌}
use mathlib.Core.Path.{◌≡◌, refl, sym, ◌∙◌}
use native.Mathlib.Nat.{le_of_suc-le-suc, not-suc-le-zero}
use lib.ListN.{length}
use Rattle.computed.specs.Entries.{At, entry}

pub entry_at : (l : List ℕ) (i : ℕ) → i < length l → At l i (entry l i)
entry_at [] i h = absurd (not-suc-le-zero h)
entry_at (x ∷ l) zero h = refl
entry_at (x ∷ l) (suc i) h = entry_at l i (le_of_suc-le-suc h)

pub entry_is : (l : List ℕ) (i x : ℕ) → At l i x → entry l i ≡ x
entry_is [] i x h = absurd h
entry_is (y ∷ l) zero x h = h
entry_is (y ∷ l) (suc i) x h = entry_is l i x h
