-- `calendar::days_in_month` meets its contract. What the last arm says of every other month is computed at each `u8`.
use mathlib.Core.Bool.{Bool, true, false, ◌||◌}
use mathlib.Core.Logic.{⊎_elim, inl, inr}
use Rattle.std.proofs.Common.{◌≢◌}
use mathlib.Core.Path.{◌≡◌, refl, sym, ap, ◌∙◌}
use Prim.Native.Nat.{ℕ, ◌-◌, ◌<◌}
use native.Mathlib.Omega.{arith}
use lib.Dec.{eqb}
use lib.ListN.{get_or}
use borrow.Author.Rules.{rules}
use borrow.Author.Tests.{ne_eqb}
use Rattle.gregorian.specs.Calendar.{leap, months, month_length}
use Rattle.std.specs.Prelude.{if◌then◌else◌}
use Rattle.computed.proofs.Claim.{Claim, eq, each}
use Rattle.calendar.proofs.days_in_month.Goals as goal

february : (y m : ℕ) (b : Bool) → m ≡ 2 → leap y ≡ b → month_length y m ≡ (if b then 29 else 28)
unfolding month_length months
february y m b e f = ap (λ (k : ℕ). get_or (months (leap y)) (k - 1) 31) e ∙ ap (λ (l : Bool). if l then 29 else 28) f

short : (y m k : ℕ) → m ≡ k → ((l : Bool) → get_or (months l) (k - 1) 31 ≡ 30) → month_length y m ≡ 30
unfolding month_length months
short y m k e f = ap (λ (j : ℕ). get_or (months (leap y)) (j - 1) 31) e ∙ f (leap y)

-- the months that the code names
abbrev key : ℕ → Bool
key m = eqb m 2 || (eqb m 4 || (eqb m 6 || (eqb m 9 || eqb m 11)))

abbrev usual : Bool → ℕ → Claim
usual l m = eq ((if key m then 31 else get_or (months l) (m - 1) 31)) 31

usual-is : (l : Bool) (m : ℕ) → m < 256 → (if key m then 31 else get_or (months l) (m - 1) 31) ≡ 31
unfolding months
usual-is true m h = each (usual true) 0 256 tt m (omega arith) h
usual-is false m h = each (usual false) 0 256 tt m (omega arith) h

long : (y m : ℕ) → m < 256 → key m ≡ false → month_length y m ≡ 31
unfolding month_length months
long y m h e = sym (ap (λ (b : Bool). if b then 31 else get_or (months (leap y)) (m - 1) 31) e) ∙ usual-is (leap y) m h

pub returns-in-2 : goal.returns-in-2
returns-in-2 c = sym (february _ _ true c.in-2.is (sym c.is_leap.ensures ∙ c.if-is_leap.true))

pub returns-in-2-2 : goal.returns-in-2-2
returns-in-2-2 c = sym (february _ _ false c.in-2.is (sym c.is_leap.ensures ∙ c.if-is_leap.false))

pub returns-in-4 : goal.returns-in-4
unfolding months
returns-in-4 c =
    let f = short c.args.year c.args.month in
    sym
    (⊎_elim (λ e. f 4 e (λ l. refl))
    (⊎_elim (λ e. f 6 e (λ l. refl)) (⊎_elim (λ e. f 9 e (λ l. refl)) (λ e. f 11 e (λ l. refl)))) c.in-4.is)

none_named : (m : ℕ) → (m ≢ 2) → (m ≢ 4) → (m ≢ 6) → (m ≢ 9) → (m ≢ 11) → key m ≡ false
none_named m a b d e f = simp (ne_eqb _ _ a, ne_eqb _ _ b, ne_eqb _ _ d, ne_eqb _ _ e, ne_eqb _ _ f)

pub returns-in_default : goal.returns-in_default
returns-in_default c =
    let r = c.in_default.in_default-own.rest in
    sym
    (long c.args.year c.args.month (search rules)
    (none_named c.args.month r.0.1 (λ e. r.1 (inl e)) (λ e. r.1 (inr (inl e))) (λ e. r.1 (inr (inr (inl e)))) (λ e. r.1 (inr (inr (inr e))))))
