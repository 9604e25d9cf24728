-- The register map: every register stands in it at its number, none is above 0x12, and a number names one register or none.
-- Assumes nothing.
use Prim.Native.Nat.{ℕ, zero, suc, ◌+◌, ◌≤◌, ◌<◌}
use mathlib.Core.Bool.{Bool, true, false, ◌&&◌}
use mathlib.Core.Logic.{⊎_elim}
use mathlib.Core.List.{List, [], ◌∷◌}
use mathlib.Core.Path.{◌≡◌, refl, sym, ap, subst, ◌∙◌}
use native.Mathlib.Omega.{arith}
use borrow.Author.Tests.{eqb-true, leb-true, leb-false, lt-ltb, le-ltb}
use lib.Dec.{T, leb, ltb, eqb}
use Rattle.std.specs.Prelude.{if◌then◌else◌, Option, Some, None, slice_get, ◌%◌}
use Rattle.std.proofs.lemmas.Option.{slice_get_within}
use lib.ListN.{get_or}
use Rattle.computed.specs.Entries.{At}
use Rattle.computed.proofs.Choice.{le_or_lt}
use Rattle.computed.proofs.Claim.{Claim, eq, le, holds, Means, first, rest, means, each}
use Rattle.ds3231.specs.Types.{Register, Seconds, Minutes, Hours, Weekday, Date, Month, Year, Alarm1Seconds, Alarm1Minutes, Alarm1Hours, Alarm1Day, Alarm2Minutes, Alarm2Hours, Alarm2Day, Control, Status, Aging, TemperatureMsb, TemperatureLsb}
use Rattle.ds3231.specs.Map.{number_of, Names, register_map, named_in, named}
use Rattle.ds3231.specs.Changed.{next_pointer}
use Rattle.ds3231.specs.Model.{moved_pointer}

pub in_map : (r : Register) → At register_map (number_of r) r
in_map Seconds = refl
in_map Minutes = refl
in_map Hours = refl
in_map Weekday = refl
in_map Date = refl
in_map Month = refl
in_map Year = refl
in_map Alarm1Seconds = refl
in_map Alarm1Minutes = refl
in_map Alarm1Hours = refl
in_map Alarm1Day = refl
in_map Alarm2Minutes = refl
in_map Alarm2Hours = refl
in_map Alarm2Day = refl
in_map Control = refl
in_map Status = refl
in_map Aging = refl
in_map TemperatureMsb = refl
in_map TemperatureLsb = refl

-- a claim at every register, by one computed test over the map
abbrev pub all_of : (Register → Claim) → List Register → Bool
all_of f [] = true
all_of f (r ∷ l) = holds (f r) && all_of f l

all_at : (f : Register → Claim) (l : List Register) (i : ℕ) (r : Register) → T (all_of f l) → At l i r → Means (f r)
all_at f [] i r t a = absurd a
all_at f (s ∷ l) zero r t a = subst (λ (x : Register). Means (f x)) a (means (f s) (first (holds (f s)) (all_of f l) t))
all_at f (s ∷ l) (suc i) r t a = all_at f l i r (rest (holds (f s)) (all_of f l) t) a

pub each_register : (f : Register → Claim) → T (all_of f register_map) → (r : Register) → Means (f r)
each_register f t r = all_at f register_map (number_of r) r t (in_map r)

-- document 01, 'The table of refusals': pointer at most 0x12
pub number_below : (r : Register) → number_of r ≤ 0x12
number_below = each_register (λ r. le (number_of r) 0x12) tt

-- two registers have two numbers
at_one : (l : List Register) (i : ℕ) (r s : Register) → At l i r → At l i s → r ≡ s
at_one [] i r s a b = absurd a
at_one (x ∷ l) zero r s a b = sym a ∙ b
at_one (x ∷ l) (suc i) r s a b = at_one l i r s a b

pub number_one : (r s : Register) → number_of r ≡ number_of s → r ≡ s
number_one r s e = at_one register_map (number_of s) r s (subst (λ (n : ℕ). At register_map n r) e (in_map r)) (in_map s)

-- ---- what a number names

found : (l : List Register) (n : ℕ) (r : Register) → named_in l n ≡ Some r → number_of r ≡ n
found [] n r e = cc
found (s ∷ l) n r e = by (eqb n (number_of s)) refl (found l n r) e
  where
    by : (b : Bool) → eqb n (number_of s) ≡ b → (named_in l n ≡ Some r → number_of r ≡ n) → (if b then Some s else named_in l n) ≡ Some r → number_of r ≡ n
    by true q f h = let z : s ≡ r = cc in ap number_of (sym z) ∙ sym (eqb-true n (number_of s) q)
    by false q f h = f h

-- the number of what a number names, and past the map 19
abbrev number_in : Option Register → ℕ
number_in (Some r) = number_of r
number_in None = 19

in_order : (n : ℕ) → n < 19 → number_in (named n) ≡ n
unfolding named
in_order n h = each (λ k. eq (number_in (named k)) k) 0 19 tt n (omega arith) (omega arith)

pub named_names : (n : ℕ) → Names n (named n)
unfolding named
named_names n = by (named n) refl
  where
    by : (d : Option Register) → named n ≡ d → Names n d
    by (Some r) e = found register_map n r e
    by None e = ⊎_elim (λ h. let z = sym (ap number_in e) ∙ in_order n (omega arith) in absurd (omega arith)) (λ h. h) (le_or_lt n 0x12)

pub names_one : (n : ℕ) (d : Option Register) → Names n d → named n ≡ d
names_one n d h = by (named n) d (named_names n) h
  where
    by : (x y : Option Register) → Names n x → Names n y → x ≡ y
    by (Some r) (Some s) p q = ap Some (number_one r s (p ∙ sym q))
    by (Some r) None p q = let z = number_below r in absurd (omega arith)
    by None (Some s) p q = let z = number_below s in absurd (omega arith)
    by None None p q = refl

-- it names the register at its place in the map
pub named_at : (n : ℕ) → named n ≡ slice_get register_map n
named_at n = names_one n (slice_get register_map n) (by (slice_get register_map n) refl)
  where
    placed : n < 19 → number_in (slice_get register_map n) ≡ n
    placed h = each (λ k. eq (number_in (slice_get register_map k)) k) 0 19 tt n (omega arith) h

    by : (d : Option Register) → slice_get register_map n ≡ d → Names n d
    by (Some r) e = let h = slice_get_within register_map n r e in ap number_in (sym e) ∙ placed h
    by None e = ⊎_elim (λ h. let z = sym (ap number_in e) ∙ placed (omega arith) in absurd (omega arith)) (λ h. h) (le_or_lt n 0x12)

-- ---- the pointer after a register

pub next_moved : (r : Register) → moved_pointer (number_of r) ≡ number_of (next_pointer r)
next_moved = each_register (λ r. eq (moved_pointer (number_of r)) (number_of (next_pointer r))) tt

-- from 0x12 it is 0x00, and from another the next number
pub wrapping : (P : Bool → Type 0) (r : Register) → (number_of (next_pointer r) ≡ 0 → P true) → (number_of (next_pointer r) ≡ number_of r + 1 → P false) → P (leb 0x12 (number_of r))
wrapping P r f g = by (leb 0x12 (number_of r)) refl
  where
    moved : (b : Bool) → ltb (number_of r) 0x12 ≡ b → number_of (next_pointer r) ≡ (if b then number_of r + 1 else 0)
    moved b e = sym (next_moved r) ∙ ap (λ (x : Bool). if x then number_of r + 1 else 0) e

    by : (b : Bool) → leb 0x12 (number_of r) ≡ b → P b
    by true e = f (moved false (le-ltb (number_of r) 0x12 (leb-true 0x12 (number_of r) e)))
    by false e = g (moved true (lt-ltb (number_of r) 0x12 (leb-false 0x12 (number_of r) e)))

-- it stands in the map at the next place, and after the last at the first
pub next_in : (r : Register) → get_or register_map ((number_of r + 1) % 19) Seconds ≡ next_pointer r
next_in r = number_one _ (next_pointer r) (each_register (λ (s : Register). eq (number_of (get_or register_map ((number_of s + 1) % 19) Seconds)) (number_of (next_pointer s))) tt r)

-- it is what the next number names, or the first register where that names none
abbrev pub or_first : Option Register → Register
or_first (Some r) = r
or_first None = Seconds

pub next_named : (r : Register) → or_first (named (number_of r + 1)) ≡ next_pointer r
next_named r = by (named (number_of r + 1)) (named_names (number_of r + 1))
  where
    at : (b : Bool) → ltb (number_of r) 0x12 ≡ b → (if b then number_of r + 1 else 0) ≡ number_of (next_pointer r)
    at b e = ap (λ (x : Bool). if x then number_of r + 1 else 0) (sym e) ∙ next_moved r

    by : (d : Option Register) → Names (number_of r + 1) d → or_first d ≡ next_pointer r
    by (Some s) e = let z = number_below s in number_one s (next_pointer r) (e ∙ at true (lt-ltb (number_of r) 0x12 (omega arith)))
    by None h = number_one Seconds (next_pointer r) (at false (le-ltb (number_of r) 0x12 (omega arith)))
