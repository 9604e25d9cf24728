-- The entries of a list. Assumes nothing.
use Rattle.std.specs.Prelude.{ℕ, zero, suc, List, [], ◌∷◌, ◌≡◌, get_or}

-- entry i of the list is x; nothing is an entry past the list's end
abbrev pub At : {A : Type 0} → List A → ℕ → A → Type 0
At [] i x = ⊥
At (y ∷ l) zero x = y ≡ x
At (y ∷ l) (suc i) x = At l i x

-- entry i of a list of numbers, and 0 past its end. `entry_at` of proofs/Entries.antt says `At l i (entry l i)` where i is below the length, and a definition that looks up names the lemma by which it is
abbrev pub entry : List ℕ → ℕ → ℕ
entry l i = get_or l i 0
