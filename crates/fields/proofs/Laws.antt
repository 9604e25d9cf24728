-- The laws of the table of the time registers: a defined byte sets its own register's field to a number in range; bytes and fields go both ways; and the seven bytes of a time say its fields.
-- Assumes nothing.
use mathlib.Core.Bool.{Bool, true, false, not, ◌&&◌, ◌||◌}
use mathlib.Core.List.{[], ◌∷◌}
use mathlib.Core.Logic.{◌⊎◌, inl, inr, ⊎_elim}
use mathlib.Core.Path.{◌≡◌, refl, sym, ap, subst, subst₂, ◌∙◌}
use Prim.Native.Nat.{ℕ, zero, suc, ◌+◌, ◌*◌, ◌/◌, ◌%◌, ◌≤◌, ◌<◌}
use native.Mathlib.Nat.{le_of_suc-le-suc, not-suc-le-zero}
use native.Mathlib.Omega.{arith}
use lib.Dec.{T, eqb, leb}
use lib.ListN.{length, get_or}
use borrow.Author.Tests.{eqb-true, ne_eqb, le-leb, leb-true}
use Rattle.std.specs.Prelude.{if◌then◌else◌}
use Rattle.computed.proofs.Claim.{Claim, eq, le, and, Means, below, each}
use Rattle.computed.proofs.Choice.{chosen, both, le_or_lt}
use Rattle.calendar.specs.declared.DateTime.{DateTime}
use Rattle.calendar.specs.Stated.{InRange}
use Rattle.calendar.proofs.Laws.{month_bounds}
use Rattle.computed.proofs.Lossless.{lossless}
use Rattle.fields.specs.Bytes.{to_digits, hour_byte, field_byte}
use Rattle.fields.specs.Table.{Meaning, undefined, sets, bit, from_digits, decimal, in_field, plain_meaning, dial_meaning, month_meaning, meaning, time_bytes}

-- the range of each register's field, as numbers
pub record Bounds (r n : ℕ) : Type 0 where
  pub register : r ≤ 6
  pub second : r ≡ 0 → n ≤ 59
  pub minute : r ≡ 1 → n ≤ 59
  pub hour : r ≡ 2 → n ≤ 23
  pub weekday : r ≡ 3 → (1 ≤ n) × (n ≤ 7)
  pub day : r ≡ 4 → (1 ≤ n) × (n ≤ 31)
  pub month : r ≡ 5 → (1 ≤ n) × (n ≤ 12)
  pub year : r ≡ 6 → n ≤ 99

-- a meaning is undefined, or it sets the register's field to a number in its range
abbrev InField : ℕ → Meaning → Type 0
InField r undefined = Unit {0}
InField r (sets q n flag) = (q ≡ r) × (in_field r n ≡ true)

defined_in : (r : ℕ) (t : Bool) (n : ℕ) (flag : Bool) → (t ≡ true → in_field r n ≡ true) → InField r (if t then sets r n flag else undefined)
defined_in r true n flag h = (refl, h refl)
defined_in r false n flag h = tt

plain_in : (r b : ℕ) → InField r (plain_meaning r b)
unfolding plain_meaning
plain_in r b = defined_in r (decimal b && in_field r (from_digits b)) (from_digits b) false (λ e. (both (decimal b) (in_field r (from_digits b)) e).1)

below_24 : (n : ℕ) (pm : Bool) → leb (n % 12 + (if pm then 12 else 0)) 23 ≡ true
below_24 n true = le-leb (n % 12 + 12) 23 (omega arith)
below_24 n false = le-leb (n % 12 + 0) 23 (omega arith)

dial_in : (b : ℕ) → InField 2 (dial_meaning b)
unfolding dial_meaning in_field
dial_in b =
    let d = from_digits (b % 32) in
    defined_in 2 (not (bit 7 b) && decimal (b % 32) && leb 1 d && leb d 12) (d % 12 + (if bit 5 b then 12 else 0)) true (λ e. below_24 d (bit 5 b))

month_in : (b : ℕ) → InField 5 (month_meaning b)
unfolding month_meaning
month_in b =
    let fits = not (bit 6 b) && not (bit 5 b) && decimal (b % 32) in
    let m = from_digits (b % 32) in
    defined_in 5 (fits && in_field 5 m) m (bit 7 b) (λ e. (both fits (in_field 5 m) e).1)

meaning_in : (r b : ℕ) → InField r (meaning r b)
unfolding meaning
meaning_in r b =
    chosen (InField r) (eqb r 2)
    (λ e. subst (λ (k : ℕ). InField k (if bit 6 b then dial_meaning b else plain_meaning 2 b)) (sym (eqb-true r 2 e)) (chosen (InField 2) (bit 6 b) (λ f. dial_in b) (λ f. plain_in 2 b)))
    (λ e. chosen (InField r) (eqb r 5) (λ f. subst (λ (k : ℕ). InField k (month_meaning b)) (sym (eqb-true r 5 f)) (month_in b)) (λ f. plain_in r b))

-- every byte that is defined sets the register's own field, to a number in its range
pub in_field_lem : (r b q n : ℕ) (flag : Bool) → meaning r b ≡ sets q n flag → (q ≡ r) × (in_field r n ≡ true)
in_field_lem r b q n flag e = subst (InField r) e (meaning_in r b)

no_field : (r n : ℕ) → 6 < r → in_field r n ≡ false
unfolding in_field
no_field r n h =
    simp (
      ne_eqb r 0 (omega arith),
      ne_eqb r 1 (omega arith),
      ne_eqb r 2 (omega arith),
      ne_eqb r 3 (omega arith),
      ne_eqb r 4 (omega arith),
      ne_eqb r 5 (omega arith),
      ne_eqb r 6 (omega arith),
    )

time_register : (r n : ℕ) → in_field r n ≡ true → r ≤ 6
time_register r n h = ⊎_elim (λ p. p) (λ p. let e = no_field r n p in let z : ◌≡◌ {A = ℕ} 0 1 = cc in omega arith) (le_or_lt r 6)

between : (a b n : ℕ) → (leb a n && leb n b) ≡ true → (a ≤ n) × (n ≤ b)
between a b n e =
    let p = both (leb a n) (leb n b) e in
    (leb-true a n p.0, leb-true n b p.1)

from_to : (a b n : ℕ) → a ≤ n → n ≤ b → (leb a n && leb n b) ≡ true
from_to a b n p q = rw (le-leb a n p, le-leb n b q)

pub field_bounds : (r n : ℕ) → in_field r n ≡ true → Bounds r n
unfolding in_field
field_bounds r n h =
    let at : (k : ℕ) → r ≡ k → in_field k n ≡ true = λ k e. subst (λ (i : ℕ). in_field i n ≡ true) e h in
    record {
      register = time_register r n h;
      second = λ e. leb-true n 59 (at 0 e);
      minute = λ e. leb-true n 59 (at 1 e);
      hour = λ e. leb-true n 23 (at 2 e);
      weekday = λ e. between 1 7 n (at 3 e);
      day = λ e. between 1 31 n (at 4 e);
      month = λ e. between 1 12 n (at 5 e);
      year = λ e. leb-true n 99 (at 6 e);
    }

-- at a register above 0x06 no byte is defined
no_meaning : (r b : ℕ) (m : Meaning) → meaning r b ≡ m → 6 < r → meaning r b ≡ undefined
no_meaning r b undefined e h = e
no_meaning r b (sets q n flag) e h = let p = time_register r n (in_field_lem r b q n flag e).1 in absurd (omega arith)

pub undefined_past : (r b : ℕ) → 6 < r → meaning r b ≡ undefined
undefined_past r b h = no_meaning r b (meaning r b) refl h

-- what holds at each number below n
abbrev Each : (ℕ → Type 0) → ℕ → Type 0
Each P zero = Unit {0}
Each P (suc n) = P zero × Each (λ k. P (suc k)) n

each_at : (P : ℕ → Type 0) (n : ℕ) → Each P n → (r : ℕ) → r < n → P r
each_at P zero h r l = absurd (not-suc-le-zero l)
each_at P (suc n) h zero l = h.0
each_at P (suc n) h (suc r) l = each_at (λ k. P (suc k)) n h.1 r (le_of_suc-le-suc l)

-- a meaning as a claim: it sets this register's field to this number, with this flag
abbrev number : Bool → ℕ
number true = 1
number false = 0

number_back : (b : Bool) → eqb (number b) 1 ≡ b
number_back true = refl
number_back false = refl

abbrev says : ℕ → ℕ → Bool → Meaning → Claim
says r n flag undefined = eq 0 1
says r n flag (sets q m f) = and (eq q r) (and (eq m n) (eq (number f) (number flag)))

said : (r n : ℕ) (flag : Bool) (m : Meaning) → Means (says r n flag m) → m ≡ sets r n flag
said r n flag undefined h = cc
said r n flag (sets q k f) h =
    let e = lossless number (λ k. eqb k 1) number_back f flag h.1.1 in
    cc

-- a claim that is computed at each register and each number below 256, at one of them
each_register : (f : ℕ → ℕ → Claim) → T (below (λ k. f (k / 256) (k % 256)) 1792) → (r n : ℕ) → r ≤ 6 → n < 256 → Means (f r n)
each_register f t r n p q =
    subst₂ (λ (i k : ℕ). Means (f i k)) (omega arith) (omega arith)
    (each (λ k. f (k / 256) (k % 256)) 0 1792 t (256 * r + n) (omega arith) (omega arith))

-- the registers whose field has a flag
abbrev may_flag : ℕ → Bool → Bool
may_flag r flag = not flag || eqb r 2 || eqb r 5

-- the byte of a field in range is a byte, and says the field
abbrev field_claim : Bool → ℕ → ℕ → Claim
field_claim flag r n =
    if in_field r n && may_flag r flag
    then and (le (field_byte r n flag) 255) (says r n flag (meaning r (field_byte r n flag)))
    else eq 0 0

each_field : (flag : Bool) (r n : ℕ) → r ≤ 6 → n < 256 → Means (field_claim flag r n)
unfolding in_field field_byte hour_byte to_digits meaning plain_meaning dial_meaning month_meaning bit decimal from_digits
each_field true = each_register (field_claim true) tt
each_field false = each_register (field_claim false) tt

-- a defined byte is the byte of the field that it sets
abbrev is_byte : ℕ → Meaning → Claim
is_byte b undefined = eq 0 0
is_byte b (sets q n flag) = eq (field_byte q n flag) b

each_byte : (r b : ℕ) → r ≤ 6 → b < 256 → Means (is_byte b (meaning r b))
unfolding in_field field_byte hour_byte to_digits meaning plain_meaning dial_meaning month_meaning bit decimal from_digits
each_byte = each_register (λ r b. is_byte b (meaning r b)) tt

at_most_99 : (r n : ℕ) → in_field r n ≡ true → n ≤ 99
at_most_99 r n h =
    let b = field_bounds r n h in
    each_at (λ (k : ℕ). r ≡ k → n ≤ 99) 7
    (λ e. omega (arith, b.second e), (λ e. omega (arith, b.minute e), (λ e. omega (arith, b.hour e), (λ e. omega (arith, b.weekday e), (λ e. omega (arith, b.day e), (λ e. omega (arith, b.month e), (b.year, tt)))))))
    r (omega arith) refl

flagged : (r : ℕ) (flag : Bool) → (flag ≡ true → (r ≡ 2) ⊎ (r ≡ 5)) → may_flag r flag ≡ true
flagged r false h = refl
flagged r true h = ⊎_elim (λ e. ap (λ (k : ℕ). eqb k 2 || eqb k 5) e) (λ e. ap (λ (k : ℕ). eqb k 2 || eqb k 5) e) (h refl)

-- the byte of a field in range is below 256 and sets that field
module _ (r n : ℕ) (flag : Bool) (h : in_field r n ≡ true) (f : flag ≡ true → (r ≡ 2) ⊎ (r ≡ 5)) where
  of_field : (field_byte r n flag ≤ 255) × Means (says r n flag (meaning r (field_byte r n flag)))
  of_field =
      let t : (in_field r n && may_flag r flag) ≡ true = rw (h, flagged r flag f) in
      let b = field_bounds r n h in
      let m = at_most_99 r n h in
      rw t at (each_field flag r n (omega arith) (omega arith))

  pub byte_below : field_byte r n flag < 256
  byte_below = omega (arith, of_field.0)

  pub byte_of_field : meaning r (field_byte r n flag) ≡ sets r n flag
  byte_of_field = said r n flag _ of_field.1

-- a defined byte is the byte of the field that it sets
pub field_of_byte : (r b q n : ℕ) (flag : Bool) → b < 256 → meaning r b ≡ sets q n flag → field_byte r n flag ≡ b
field_of_byte r b q n flag h e =
    let i = in_field_lem r b q n flag e in
    let k = field_bounds r n i.1 in
    ap (λ (j : ℕ). field_byte j n flag) (sym i.0) ∙ subst (λ (m : Meaning). Means (is_byte b m)) e (each_byte r b (omega arith) h)

-- a number below 100 is that of its two digits, and two digits are those of their number
pub number_of_digits : (n : ℕ) → n ≤ 99 → (decimal (to_digits n) ≡ true) × (from_digits (to_digits n) ≡ n)
unfolding decimal from_digits to_digits
number_of_digits n h =
    let c = each (λ k. and (and (le (to_digits k / 16) 9) (le (to_digits k % 16) 9)) (eq (from_digits (to_digits k)) k)) 0 100 tt n (omega arith) (omega arith) in
    (rw (le-leb (to_digits n / 16) 9 c.0.0, le-leb (to_digits n % 16) 9 c.0.1), c.1)

pub digits_of_number : (b : ℕ) → decimal b ≡ true → to_digits (from_digits b) ≡ b
unfolding decimal from_digits to_digits
digits_of_number b h =
    let d = both (leb (b / 16) 9) (leb (b % 16) 9) h in
    omega (arith, leb-true (b / 16) 9 d.0, leb-true (b % 16) 9 d.1)

-- the seven bytes
pub seven_bytes : (t : DateTime) (weekday : ℕ) (twelve : Bool) → length (time_bytes t weekday twelve) ≡ 7
unfolding time_bytes
seven_bytes t weekday twelve = refl

-- the field and the flag of a time at a register
abbrev pub field_at : DateTime → ℕ → ℕ → ℕ
field_at t weekday r = get_or (t.second ∷ t.minute ∷ t.hour ∷ weekday ∷ t.day ∷ t.month ∷ t.year % 100 ∷ []) r 0

abbrev pub flag_at : DateTime → Bool → ℕ → Bool
flag_at t twelve r =
    if eqb r 2 then twelve
    else if eqb r 5 then leb 2100 t.year
    else false

flag_at_lem : (t : DateTime) (twelve : Bool) (r : ℕ) → flag_at t twelve r ≡ true → (r ≡ 2) ⊎ (r ≡ 5)
flag_at_lem t twelve r =
    chosen (λ (b : Bool). b ≡ true → (r ≡ 2) ⊎ (r ≡ 5)) (eqb r 2) (λ e f. inl (eqb-true r 2 e))
    (λ e. chosen (λ (b : Bool). b ≡ true → (r ≡ 2) ⊎ (r ≡ 5)) (eqb r 5) (λ f g. inr (eqb-true r 5 f)) (λ f g. let z : ◌≡◌ {A = ℕ} 0 1 = cc in absurd (omega arith)))

-- the bytes of a time in range and a weekday 1 to 7
module _ (t : DateTime) (weekday : ℕ) (twelve : Bool) (v : InRange t) (low : 1 ≤ weekday) (high : weekday ≤ 7) where
  field_at_lem : (r : ℕ) → r ≤ 6 → in_field r (field_at t weekday r) ≡ true
  unfolding in_field
  field_at_lem r h =
      let d = month_bounds t.year t.month in
      each_at (λ (k : ℕ). in_field k (field_at t weekday k) ≡ true) 7
      (le-leb _ _ v.second_to, (le-leb _ _ v.minute_to, (le-leb _ _ v.hour_to, (from_to 1 7 weekday low high, (from_to 1 31 t.day v.date.day_from (omega arith), (from_to 1 12 t.month v.date.month_from v.date.month_to, (le-leb (t.year % 100) 99 (omega arith), tt)))))))
      r (omega arith)

  byte_at : (r : ℕ) → r ≤ 6 → get_or (time_bytes t weekday twelve) r 0 ≡ field_byte r (field_at t weekday r) (flag_at t twelve r)
  unfolding time_bytes
  byte_at r h =
      each_at (λ (k : ℕ). get_or (time_bytes t weekday twelve) k 0 ≡ field_byte k (field_at t weekday k) (flag_at t twelve k)) 7
      (refl, (refl, (refl, (refl, (refl, (refl, (refl, tt)))))))
      r (omega arith)

  -- each says its register's field
  pub time_byte_means : (r : ℕ) → r ≤ 6 → meaning r (get_or (time_bytes t weekday twelve) r 0) ≡ sets r (field_at t weekday r) (flag_at t twelve r)
  time_byte_means r h = ap (meaning r) (byte_at r h) ∙ byte_of_field r _ _ (field_at_lem r h) (flag_at_lem t twelve r)

  -- and is below 256
  pub time_byte_below : (r : ℕ) → r ≤ 6 → get_or (time_bytes t weekday twelve) r 0 < 256
  time_byte_below r h = rw (byte_at r h) (byte_below r _ _ (field_at_lem r h) (flag_at_lem t twelve r))
