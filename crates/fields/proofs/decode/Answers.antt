-- `fields::decode` meets its contract, register by register.
use mathlib.Core.Bool.{false, ◌&&◌}
use mathlib.Core.Path.{◌≡◌, refl, sym, ap, ◌∙◌}
use Prim.Native.Nat.{ℕ, ◌≤◌, ◌<◌}
use native.Mathlib.Omega.{arith}
use lib.Dec.{leb, leb-zero}
use Rattle.fields.specs.Table.{sets, in_field, plain_meaning, meaning}
use Rattle.std.specs.Prelude.{Option, Some, None, option_map}
use Rattle.std.proofs.Common.{rules}
use Rattle.fields.specs.Answers.{field_meaning, decoded_meaning, of_digits_within}
use Rattle.fields.specs.declared.Field.{Field}
use Rattle.fields.specs.declared.Field.TheVariants.{Second, Minute, Weekday, Day, Year}
use Rattle.fields.proofs.Laws.{undefined_past}
use Rattle.fields.proofs.Digits.{plain_some, plain_none}
use Rattle.fields.proofs.decode.Goals as goal

-- at register k a byte that is two digits, from low to high, and no more: what it means, by the field of its number
module _ (k low high : ℕ) (f : ℕ → Field) (named : (n : ℕ) → field_meaning (f n) ≡ sets k n false) where
  plain_at : ((n : ℕ) → (leb low n && leb n high) ≡ in_field k n) → (b : ℕ) (a : Option ℕ) → a ≡ of_digits_within low high b → decoded_meaning (option_map f a) ≡ plain_meaning k b
  plain_at range b (Some n) e = named n ∙ plain_some k low high range b n e
  plain_at range b None e = plain_none k low high range b e

  abbrev Plain : Type 0
  Plain = (r b : ℕ) (a : Option ℕ) (m : Option Field) → r ≡ k → a ≡ of_digits_within low high b → m ≡ option_map f a → decoded_meaning m ≡ meaning r b

  plain : ((b : ℕ) → plain_meaning k b ≡ meaning k b) → ((n : ℕ) → (leb low n && leb n high) ≡ in_field k n) → Plain
  plain p range r b a m e g h = ap decoded_meaning h ∙ plain_at range b a g ∙ p b ∙ ap (λ (i : ℕ). meaning i b) (sym e)

seconds : Plain 0 0 59 Second (λ n. refl)
unfolding meaning in_field
seconds = plain 0 0 59 Second (λ n. refl) (λ b. refl) (λ n. rw (leb-zero n))

minutes : Plain 1 0 59 Minute (λ n. refl)
unfolding meaning in_field
minutes = plain 1 0 59 Minute (λ n. refl) (λ b. refl) (λ n. rw (leb-zero n))

weekdays : Plain 3 1 7 Weekday (λ n. refl)
unfolding meaning in_field
weekdays = plain 3 1 7 Weekday (λ n. refl) (λ b. refl) (λ n. refl)

days : Plain 4 1 31 Day (λ n. refl)
unfolding meaning in_field
days = plain 4 1 31 Day (λ n. refl) (λ b. refl) (λ n. refl)

years : Plain 6 0 99 Year (λ n. refl)
unfolding meaning in_field
years = plain 6 0 99 Year (λ n. refl) (λ b. refl) (λ n. rw (leb-zero n))

next : {r : ℕ} (k : ℕ) → k ≤ r → (r ≡ k → ⊥) → k < r
next k h n = omega arith

pub returns-in-0 : goal.returns-in-0
returns-in-0 c =
    let m : c.map.result ≡ option_map Second c.from_bcd_within.result = search rules in
    seconds _ _ _ _ c.in-0.is c.from_bcd_within.ensures m

pub returns-in-1 : goal.returns-in-1
returns-in-1 c =
    let m : c.map-in-1.result ≡ option_map Minute c.from_bcd_within-in-1.result = search rules in
    minutes _ _ _ _ c.in-1.is c.from_bcd_within-in-1.ensures m

pub returns-in-3 : goal.returns-in-3
returns-in-3 c =
    let m : c.map-in-3.result ≡ option_map Weekday c.from_bcd_within-in-3.result = search rules in
    weekdays _ _ _ _ c.in-3.is c.from_bcd_within-in-3.ensures m

pub returns-in-4 : goal.returns-in-4
returns-in-4 c =
    let m : c.map-in-4.result ≡ option_map Day c.from_bcd_within-in-4.result = search rules in
    days _ _ _ _ c.in-4.is c.from_bcd_within-in-4.ensures m

pub returns-in-6 : goal.returns-in-6
returns-in-6 c =
    let m : c.map-in-6.result ≡ option_map Year c.from_bcd_within-in-6.result = search rules in
    years _ _ _ _ c.in-6.is c.from_bcd_within-in-6.ensures m

pub returns-in_default : goal.returns-in_default
returns-in_default c =
    sym
    (undefined_past _ _
    (next 6 (next 5 (next 4 (next 3 (next 2 (next 1 (next 0 (omega arith) c.in_default.in_default-own.rest.0.0.0.0.0.0.1) c.in_default.in_default-own.rest.0.0.0.0.0.1) c.in_default.in_default-own.rest.0.0.0.0.1) c.in_default.in_default-own.rest.0.0.0.1) c.in_default.in_default-own.rest.0.0.1) c.in_default.in_default-own.rest.0.1) c.in_default.in_default-own.rest.1))
