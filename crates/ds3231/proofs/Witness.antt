-- The claims of the exact time and of the conversion time are not empty. Of the first: the case *hour and bad weekday* of document 01, then a burst that sets the time, one that reads 0x00 to 0x06, a taking, a refused call, and a READ that wraps the pointer. Each READ of the time meets the claim's condition, and its byte is given. Of the second: a READ of status on the chips of two lots, below and at the ends of their conversions.
-- Assumes nothing.
use Prim.Native.Nat.{ℕ, zero, suc, ◌+◌, ◌*◌, ◌/◌, ◌%◌, ◌≤◌, ◌<◌}
use mathlib.Core.Bool.{Bool, true, false, not, ◌&&◌}
use mathlib.Core.List.{List, [], ◌∷◌, ◌++◌}
use mathlib.Core.Path.{◌≡◌, refl, sym, ap, ap₂, ◌∙◌, subst}
use native.Mathlib.Omega.{arith}
use borrow.Author.Tests.{le-leb, le-ltb}
use lib.Dec.{leb, lit<, T, eqb, leb→le}
use lib.ListN.{replicate, length}
use Rattle.refusals.specs.Numbered.{Numbered, accepted, refused}
use Rattle.std.specs.Prelude.{if◌then◌else◌, Some}
use Rattle.computed.specs.Entries.{entry}
use Rattle.computed.proofs.Entries.{entry_is}
use Rattle.calendar.specs.Stated.{InRange, date_time, with_day, seconds_of, time_of, month_length, day_number}
use Rattle.calendar.proofs.Laws.{in_range_accepted, time_of_seconds, seconds_below, seconds_formula, seconds_day, month_bounds}
use Rattle.calendar.proofs.Examples.{examples}
use Rattle.calendar.specs.declared.DateTime.{DateTime}
use Rattle.fields.specs.Bytes.{to_digits, hour_byte, field_byte}
use Rattle.fields.specs.Table.{sets, bit, from_digits, decimal, in_field, plain_meaning, dial_meaning, month_meaning, meaning, time_bytes}
use Rattle.diagnostics.specs.declared.ChipName.TheVariants.{Ds3231}
use Rattle.diagnostics.specs.declared.I2cDiagnostic.{I2cDiagnostic}
use Rattle.diagnostics.specs.declared.I2cDiagnosticKind.TheVariants.{ReadOnly}
use Rattle.ds3231.specs.Numbers.{nanos, range, day}
use Rattle.ds3231.specs.Calls.{in_quarters, chip_on, default_config, power_on, Answered, replied, Call, bus, taking, lent_store, too_short, verdict, answer}
use Rattle.ds3231.specs.Model.{reads, Model, exact, date_with, clamped, offset_with, wraps, model_on}
use Rattle.ds3231.proofs.Weekdays.{offset_gives}
use Rattle.ds3231.proofs.Follows.{offset_same}
use Rattle.ds3231.specs.Exact.{events, fully_lent, model_after, after, TimeRead, answer_to, NeverFall, instant}
use Rattle.ds3231.specs.declared.Ds3231Config.{Ds3231Config}
use Rattle.ds3231.specs.declared.Event.{Event}
use Rattle.ds3231.specs.declared.Event.TheVariants.{Start, Write, Read, Stop}
use Rattle.ds3231.specs.declared.Reply.TheVariants.{Byte}
use Rattle.ds3231.specs.Total.{chip_after_all}
use Rattle.ds3231.specs.ConversionTime.{status_byte, legal}
use Rattle.ds3231.proofs.ConversionTime.{conversion_time}
use Rattle.ds3231.proofs.Counting.{whole_count}
use Rattle.ds3231.proofs.Facts.{example_is}
use Rattle.ds3231.proofs.PowersOn.{default_on}
use Rattle.ds3231.proofs.ExactTime.{verdict_is, after_power_on, exact_time}
use Rattle.computed.proofs.Claim.{first, rest}

-- ---- the calls

pub config : Ds3231Config
config = default_config

-- a store of 256 records
unfoldable pub store : List I2cDiagnostic
store = replicate 256 (record { at = 0; chip = Ds3231; kind = ReadOnly 0 })

unfoldable pub on_store : List Event → List Call
on_store [] = []
on_store (e ∷ es) = bus store e ∷ on_store es

-- *hour and bad weekday*, up to its READ
pub case : List Event
case =
    Start 0x68 false 1_000_000_000 ∷ Write 0x02 1_000_100_000 ∷ Write 0x61 1_000_200_000 ∷ Write 0x08 1_000_300_000 ∷ Stop 1_000_400_000
    ∷ Start 0x68 true 1_500_000_000 ∷ []

-- the rest of it
pub case_end : List Event
case_end = Read false 1_500_100_000 ∷ Stop 1_500_200_000 ∷ []

-- then 12:34:56 PM, weekday 3, 2124-02-28 is written, and the pointer set to 0 for a read
pub setting : List Event
setting =
    Start 0x68 false 2_000_000_000 ∷ Write 0x00 2_000_100_000 ∷ Write 0x56 2_000_200_000 ∷ Write 0x34 2_000_300_000 ∷ Write 0x72 2_000_400_000
    ∷ Write 0x03 2_000_500_000 ∷ Write 0x28 2_000_600_000 ∷ Write 0x82 2_000_700_000 ∷ Write 0x24 2_000_800_000 ∷ Stop 2_000_900_000
    ∷ Start 0x68 false 2_100_000_000 ∷ Write 0x00 2_100_100_000 ∷ Start 0x68 true 2_100_200_000 ∷ []

-- ---- tests that compute

unfoldable pub rises : ℕ → List Event → Bool
rises t [] = true
rises t (e ∷ es) = leb t (instant e) && rises (instant e) es

pub rises_never : (t : ℕ) (es : List Event) → T (rises t es) → NeverFall t es
unfolding rises
rises_never t [] h = tt
rises_never t (e ∷ es) h = (leb→le t (instant e) (first (leb t (instant e)) (rises (instant e) es) h), rises_never (instant e) es (rest (leb t (instant e)) (rises (instant e) es) h))

lent : (es : List Event) → fully_lent (on_store es) ≡ es
unfolding on_store store
lent [] = refl
lent (e ∷ es) = ap (λ (l : List Event). e ∷ l) (lent es)

-- ---- the power-on

start_in : InRange (date_time 2026 1 1 0 0 0)
start_in = omega (arith, month_bounds 2026 1)

on : power_on config ≡ accepted (chip_on config)
unfolding config
on = default_on

-- its seconds, from document 01's example
seconds_on : seconds_of (date_time 2026 1 1 0 0 0) ≡ 820_540_800
seconds_on = (example_is _ _ examples.rows.1.1.0.seconds_are).1

-- ---- a READ of the witness

-- the model after events
abbrev fed_on : List Event → Model
fed_on es = model_after (model_on config) es

model_is : (ks : List Call) (es : List Event) → fully_lent ks ≡ es → (after config (chip_on config) ks).model ≡ fed_on es
model_is ks es e = (exact_time config (chip_on config) on ks).fed_alone ∙ ap (model_after (model_on config)) e

-- the verdict on a call after any others
judged : (ks : List Call) (k : Call) → verdict k (after config (chip_on config) ks).chip
    ≡ (if not (eqb (length (lent_store k)) 256) then refused 11 [] else if too_short k (after config (chip_on config) ks).chip then refused 12 [] else accepted tt)
judged ks k = verdict_is k (after config (chip_on config) ks).chip (after_power_on config (chip_on config) on ks)

allowed : (ks : List Call) (t : ℕ) → verdict (bus store (Read false t)) (after config (chip_on config) ks).chip ≡ accepted tt
unfolding store
allowed ks t = judged ks (bus store (Read false t))

lent_append : (ks ls : List Call) → fully_lent (ks ++ ls) ≡ fully_lent ks ++ fully_lent ls
lent_append [] ls = refl
lent_append (bus s e ∷ ks) ls = by (eqb (length s) 256) (lent_append ks ls)
  where
    by : (b : Bool) → fully_lent (ks ++ ls) ≡ fully_lent ks ++ fully_lent ls → (if b then e ∷ fully_lent (ks ++ ls) else fully_lent (ks ++ ls)) ≡ (if b then e ∷ fully_lent ks else fully_lent ks) ++ fully_lent ls
    by true q = ap (λ (l : List Event). e ∷ l) q
    by false q = q
lent_append (taking s o ∷ ks) ls = lent_append ks ls

-- the calls ks, then a READ at t
pub then_read : List Call → ℕ → List Call
then_read ks t = ks ++ (bus store (Read false t) ∷ [])

-- it meets the claim's condition at register r, and answers b
pub record Answers (ks : List Call) (t r b : ℕ) : Type 0 where
  pub condition : TimeRead config (chip_on config) (then_read ks t)
  pub at_the_end : condition.before ≡ ks
  pub register : (after config (chip_on config) ks).model.pointer ≡ r
  pub answers : answer_to config (chip_on config) (then_read ks t) condition ≡ accepted (replied (Byte b))

read_at : (ks : List Call) (es : List Event) (t r b : ℕ) → fully_lent ks ≡ es → (fed_on es).stage ≡ reads → (fed_on es).pointer ≡ r → r ≤ 6 → entry (fed_on es).latched r ≡ b
    → T (rises 0 (es ++ (Read false t ∷ []))) → Answers ks t r b
unfolding then_read store
read_at ks es t r b e p q h l u =
    let m = model_is ks es e in
    let c : TimeRead config (chip_on config) (then_read ks t) =
    record {
      before = ks;
      store = store;
      acknowledged = false;
      at = t;
      later = [];
      among = refl;
      not_refused = allowed ks t;
      reading = ap (λ (x : Model). x.stage) m ∙ p;
      at_time = subst (λ (x : ℕ). x ≤ 6) (sym (ap (λ (x : Model). x.pointer) m ∙ q)) h;
    } in
    let f : events (chip_on config) (then_read ks t) ≡ es ++ (Read false t ∷ []) =
    (exact_time config (chip_on config) on (then_read ks t)).feed ∙ lent_append ks (bus store (Read false t) ∷ []) ∙ ap (λ (x : List Event). x ++ (Read false t ∷ [])) e in
    record {
      condition = c;
      at_the_end = refl;
      register = ap (λ (x : Model). x.pointer) m ∙ q;
      answers =
          let d = (after config (chip_on config) ks).model in
          let a = (exact_time config (chip_on config) on (then_read ks t)).answers_model (subst (NeverFall 0) (sym f) (rises_never 0 _ u)) c in
          a.1
          ∙ ap (λ (x : ℕ). accepted (replied (Byte x))) (sym (entry_is d.latched d.pointer a.0 a.2) ∙ ap₂ entry (ap (λ (x : Model). x.latched) m) (ap (λ (x : Model). x.pointer) m ∙ q) ∙ l);
    }

-- ---- the times

-- a count less than a second past a time's seconds shows that time
shows : (d : DateTime) (p e : ℕ) → InRange d → p + e < nanos → (seconds_of d * nanos + p + e) % (range * nanos) / nanos ≡ seconds_of d
shows d p e v h =
    let q : seconds_of d * nanos + p + e ≡ seconds_of d * nanos + (p + e) = omega arith in
    ap (λ (x : ℕ). x % (range * nanos) / nanos) q ∙ whole_count range nanos (lit< tt) (lit< tt) (seconds_of d) (p + e)
    ∙ in_range (seconds_of d) (p + e) (seconds_below d v) h
  where
    in_range : (s x : ℕ) → s < range → x < nanos → (s + x / nanos) % range ≡ s
    in_range s x i j = omega arith

first_of : (h m s : ℕ) → h ≤ 23 → m ≤ 59 → s ≤ 59 → InRange (date_time 2026 1 1 h m s)
first_of h m s p q r = omega (arith, month_bounds 2026 1)

-- one second after power-on
one_second : time_of 820_540_801 ≡ date_time 2026 1 1 0 0 1
one_second =
    let e : 820_540_801 ≡ seconds_of (date_time 2026 1 1 0 0 1) = omega (arith, seconds_on, seconds_formula (date_time 2026 1 1 0 0 0), seconds_formula (date_time 2026 1 1 0 0 1)) in
    ap time_of e ∙ time_of_seconds (date_time 2026 1 1 0 0 1) (first_of 0 0 1 (omega arith) (omega arith) (omega arith))

-- a time in range keeps its day
unclamped : (d : DateTime) → InRange d → clamped d ≡ d
unclamped d v =
    ap (λ (b : Bool). if b then with_day (month_length d.year d.month) d else d)
    (le-ltb (month_length d.year d.month) d.day v.date.day_to)

-- ---- *hour and bad weekday*: the READ at 0x04 answers the date, 01

-- 13:00:01, which the hour byte makes of 00:00:01
afternoon : DateTime
afternoon = date_time 2026 1 1 13 0 1

case_day : entry (fed_on case).latched 4 ≡ 0x01
unfolding case config afternoon bit to_digits from_digits decimal in_field plain_meaning dial_meaning month_meaning meaning field_byte time_bytes
case_day =
    let v = first_of 13 0 1 (omega arith) (omega arith) (omega arith) in
    ap (λ (s : ℕ).
    to_digits (time_of ((seconds_of (clamped (date_with (sets 2 13 true) (time_of ((s * nanos + 1_000_200_000) % (range * nanos) / nanos)))) * nanos
    + (s * nanos + 1_000_200_000) % (range * nanos) % nanos + 499_800_000) % (range * nanos) / nanos)).day) seconds_on
    ∙ ap (λ (t : DateTime). to_digits (time_of ((seconds_of (clamped (date_with (sets 2 13 true) t)) * nanos + 200_000 + 499_800_000) % (range * nanos) / nanos)).day) one_second
    ∙ ap (λ (t : DateTime). to_digits (time_of ((seconds_of t * nanos + 200_000 + 499_800_000) % (range * nanos) / nanos)).day) (unclamped afternoon v)
    ∙ ap (λ (n : ℕ). to_digits (time_of n).day) (shows afternoon 200_000 499_800_000 v (omega arith))
    ∙ ap (λ (t : DateTime). to_digits t.day) (time_of_seconds afternoon v)

pub hour_and_bad_weekday : Answers (on_store case) 1_500_100_000 4 0x01
unfolding case config rises bit to_digits from_digits decimal in_field plain_meaning dial_meaning month_meaning meaning
hour_and_bad_weekday = read_at (on_store case) case 1_500_100_000 4 0x01 (lent case) refl refl (omega arith) case_day tt

-- ---- what was set is what is read

unfoldable pub set_time : DateTime
set_time = date_time 2124 2 28 12 34 56

pub set_in : InRange set_time
unfolding set_time
set_in = omega (arith, month_bounds 2124 2)

-- the bytes set every field, whatever the time was
date_set_lem : (t : DateTime) → ◌≡◌ {A = DateTime} (record { year = 2000 + (if leb 2100 (2000 + 100 + t.year % 100) then 100 else 0) + 24; month = 2; day = 28; hour = 12; minute = 34; second = 56 }) set_time
unfolding set_time
date_set_lem t = ap (λ (b : Bool). date_time (2000 + (if b then 100 else 0) + 24) 2 28 12 34 56) (le-leb 2100 (2000 + 100 + t.year % 100) (omega arith))

weekday_set : (days n : ℕ) → n ≡ days → (n + offset_with days 3) % 7 + 1 ≡ 3
weekday_set days n e = ap₂ (λ (x y : ℕ). (x + y) % 7 + 1) e (offset_same days 3 (omega arith)) ∙ offset_gives days 3 (omega arith)

whole : (d : DateTime) → (seconds_of d * nanos + 0 + 100_000_000) / nanos ≡ seconds_of d
whole d = omega arith

-- the bytes that are latched once they are set, from any model with no transaction under way
abbrev at_rest : Model → Model
at_rest m = record { count = m.count; since = m.since; pointer = m.pointer; stage = m.stage; twelve = m.twelve; offset = m.offset; accepted = []; latched = m.latched }

set_latched : (m : Model) → (model_after (at_rest m) setting).latched ≡ 0x56 ∷ 0x34 ∷ 0x72 ∷ 0x03 ∷ 0x28 ∷ 0x82 ∷ 0x24 ∷ []
unfolding setting set_time bit to_digits from_digits decimal in_field plain_meaning dial_meaning month_meaning meaning hour_byte field_byte time_bytes
set_latched m =
    ap (λ (d : DateTime).
    let n = seconds_of (clamped d) * nanos + 0 + 100_000_000 in
    time_bytes (time_of (n % (range * nanos) / nanos)) ((n / nanos / day + offset_with (day_number (clamped d).year (clamped d).month (clamped d).day) 3) % 7 + 1) true) (date_set_lem (time_of (exact (at_rest m) 2_000_200_000 / nanos)))
    ∙ ap (λ (d : DateTime).
    let n = seconds_of d * nanos + 0 + 100_000_000 in
    time_bytes (time_of (n % (range * nanos) / nanos)) ((n / nanos / day + offset_with (day_number d.year d.month d.day) 3) % 7 + 1) true) (unclamped set_time set_in)
    ∙ ap₂ (λ (n s : ℕ). time_bytes (time_of n) ((s / day + offset_with (day_number 2124 2 28) 3) % 7 + 1) true) (shows set_time 0 100_000_000 set_in (omega arith)) (whole set_time)
    ∙ ap₂ (λ (t : DateTime) (w : ℕ). time_bytes t w true) (time_of_seconds set_time set_in) (weekday_set (day_number 2124 2 28) (seconds_of set_time / day) (seconds_day set_time set_in))

-- the first k READs, and all that comes before them
pub readings : ℕ → List Event
readings zero = []
readings (suc k) = readings k ++ (Read false (2_100_300_000 + k * 100_000) ∷ [])

pub story : ℕ → List Event
story k = case ++ (case_end ++ (setting ++ readings k))

set_byte : (k : ℕ) → entry (model_after (at_rest (fed_on (case ++ case_end))) setting).latched k ≡ entry (0x56 ∷ 0x34 ∷ 0x72 ∷ 0x03 ∷ 0x28 ∷ 0x82 ∷ 0x24 ∷ []) k
set_byte k = ap (λ (l : List ℕ). entry l k) (set_latched (fed_on (case ++ case_end)))

-- the READs of 0x00 to 0x06 answer the seven bytes that were written
pub set-and-read :
    Answers (on_store (story 0)) 2_100_300_000 0 0x56
    × Answers (on_store (story 1)) 2_100_400_000 1 0x34
    × Answers (on_store (story 2)) 2_100_500_000 2 0x72
    × Answers (on_store (story 3)) 2_100_600_000 3 0x03
    × Answers (on_store (story 4)) 2_100_700_000 4 0x28
    × Answers (on_store (story 5)) 2_100_800_000 5 0x82
    × Answers (on_store (story 6)) 2_100_900_000 6 0x24
unfolding story readings case case_end setting config rises bit to_digits from_digits decimal in_field plain_meaning dial_meaning month_meaning meaning
set-and-read = (
  set_read 0 0x56 refl refl (omega arith) (set_byte 0) tt,
  set_read 1 0x34 refl refl (omega arith) (set_byte 1) tt,
  set_read 2 0x72 refl refl (omega arith) (set_byte 2) tt,
  set_read 3 0x03 refl refl (omega arith) (set_byte 3) tt,
  set_read 4 0x28 refl refl (omega arith) (set_byte 4) tt,
  set_read 5 0x82 refl refl (omega arith) (set_byte 5) tt,
  set_read 6 0x24 refl refl (omega arith) (set_byte 6) tt,
)
  where
    set_read : (k b : ℕ) → (fed_on (story k)).stage ≡ reads → (fed_on (story k)).pointer ≡ k → k ≤ 6 → entry (fed_on (story k)).latched k ≡ b
        → T (rises 0 (story k ++ (Read false (2_100_300_000 + k * 100_000) ∷ []))) → Answers (on_store (story k)) (2_100_300_000 + k * 100_000) k b
    set_read k b = read_at (on_store (story k)) (story k) (2_100_300_000 + k * 100_000) k b (lent (story k))

-- ---- a taking, a refused call, and a READ that wraps the pointer

-- 12:34:56 was set at 2.0002 s. The pointer is set to 0x12 for a read, with a taking and a call that is lent no store before it
pub to_the_last : List Event
to_the_last = Stop 2_101_000_000 ∷ Start 0x68 false 3_900_000_000 ∷ Write 0x12 3_900_100_000 ∷ Start 0x68 true 4_000_000_000 ∷ []

pub before_taking : List Call
before_taking = on_store (story 7)

pub before_refused : List Call
before_refused = before_taking ++ (taking store store ∷ [])

pub refused_call : Call
refused_call = bus [] (Start 0x68 false 2_100_950_000)

pub before_wrap : List Call
before_wrap = before_refused ++ (refused_call ∷ on_store to_the_last)

pub taking_allowed : verdict (taking store store) (after config (chip_on config) before_taking).chip ≡ accepted tt
unfolding store
taking_allowed =
    judged before_taking (taking store store)
    ∙ ap (λ (b : Bool). if b then refused 12 [] else accepted tt) (le-ltb 256 (after config (chip_on config) before_taking).chip.diagnostics.waiting (after_power_on config (chip_on config) on before_taking).waiting)

pub call_refused : verdict refused_call (after config (chip_on config) before_refused).chip ≡ refused 11 []
unfolding refused_call
call_refused = judged before_refused refused_call

lent_to_wrap : fully_lent before_wrap ≡ story 7 ++ to_the_last
unfolding before_wrap before_refused before_taking refused_call
lent_to_wrap =
    lent_append (on_store (story 7) ++ (taking store store ∷ [])) (refused_call ∷ on_store to_the_last)
    ∙ ap₂ (λ (x y : List Event). x ++ y) (lent_append (on_store (story 7)) (taking store store ∷ []) ∙ ap (λ (x : List Event). x ++ []) (lent (story 7)) ∙ same (story 7)) (lent to_the_last)
  where
    same : (es : List Event) → es ++ [] ≡ es
    same [] = refl
    same (e ∷ es) = ap (λ (l : List Event). e ∷ l) (same es)

-- the READ at 5.0003 s wraps
pub wraps_there : wraps (after config (chip_on config) before_wrap).model ≡ true
unfolding story readings case case_end setting to_the_last config bit to_digits from_digits decimal in_field plain_meaning dial_meaning month_meaning meaning
wraps_there = ap wraps (model_is before_wrap (story 7 ++ to_the_last) lent_to_wrap)

-- and latches 12:34:59
later : DateTime
later = date_time 2124 2 28 12 34 59

later_in : InRange later
unfolding later
later_in = omega (arith, month_bounds 2124 2)

wrap_second : (m : Model) → entry (model_after (at_rest m) (setting ++ (readings 7 ++ (to_the_last ++ (Read false 5_000_300_000 ∷ []))))).latched 0 ≡ 0x59
unfolding readings setting set_time later to_the_last bit to_digits from_digits decimal in_field plain_meaning dial_meaning month_meaning meaning field_byte time_bytes
wrap_second m =
    ap (λ (d : DateTime). to_digits (time_of ((seconds_of (clamped d) * nanos + 0 + 3_000_100_000) % (range * nanos) / nanos)).second) (date_set_lem (time_of (exact (at_rest m) 2_000_200_000 / nanos)))
    ∙ ap (λ (d : DateTime). to_digits (time_of ((seconds_of d * nanos + 0 + 3_000_100_000) % (range * nanos) / nanos)).second) (unclamped set_time set_in)
    ∙ ap (λ (n : ℕ). to_digits (time_of (n % (range * nanos) / nanos)).second) three_on
    ∙ ap (λ (n : ℕ). to_digits (time_of n).second) (shows later 0 100_000 later_in (omega arith))
    ∙ ap (λ (t : DateTime). to_digits t.second) (time_of_seconds later later_in)
  where
    three_on : seconds_of set_time * nanos + 0 + 3_000_100_000 ≡ seconds_of later * nanos + 0 + 100_000
    three_on = omega (arith, seconds_formula set_time, seconds_formula later)

-- the READ after it answers the second of the wrap, not of the START a second before
pub wrapped : List Call
wrapped = before_wrap ++ (bus store (Read false 5_000_300_000) ∷ [])

pub read_after_wrap : Answers wrapped 5_000_400_000 0 0x59
unfolding wrapped store story readings case case_end setting to_the_last config rises bit to_digits from_digits decimal in_field plain_meaning dial_meaning month_meaning meaning
read_after_wrap =
    read_at wrapped (story 7 ++ (to_the_last ++ (Read false 5_000_300_000 ∷ []))) 5_000_400_000 0 0x59 lent_all refl refl (omega arith) (wrap_second (fed_on (case ++ case_end))) tt
  where
    lent_all : fully_lent wrapped ≡ story 7 ++ (to_the_last ++ (Read false 5_000_300_000 ∷ []))
    lent_all = lent_append before_wrap (bus store (Read false 5_000_300_000) ∷ []) ∙ ap (λ (x : List Event). x ++ (Read false 5_000_300_000 ∷ [])) lent_to_wrap

-- ---- seconds alone do not tell a time

-- 12:65:07 has the seconds of 13:05:07, and only `InRange` shuts it out
pub late_minute : (seconds_of (date_time 2026 1 1 12 65 7) ≡ seconds_of (date_time 2026 1 1 13 5 7)) × (InRange (date_time 2026 1 1 12 65 7) → ⊥)
late_minute = (omega (arith, seconds_formula (date_time 2026 1 1 12 65 7), seconds_formula (date_time 2026 1 1 13 5 7)), λ v. let h = v.minute_to in omega arith)

-- ---- conversions of two lots

-- 3C is written to control at 1,000,000,000, and the pointer set to status for a read
pub polling : List Event
polling =
    Start 0x68 false 999_998_000 ∷ Write 0x0E 999_999_000 ∷ Write 0x3C 1_000_000_000
    ∷ Start 0x68 false 1_000_001_000 ∷ Write 0x0F 1_000_002_000 ∷ Start 0x68 true 1_000_003_000 ∷ []

-- the power-on of a script, but for its conversion time
pub lot : ℕ → Ds3231Config
lot n = let f = default_config in record { start = f.start; oscillator_stopped = f.oscillator_stopped; temperature_quarters = f.temperature_quarters; conversion_nanos = n }

-- what the READ answers then, at t
abbrev status_at : ℕ → ℕ → Numbered Answered
status_at n t = answer (bus store (Read false t)) (chip_after_all (chip_on (lot n)) (on_store polling))

-- a legal time: the READ answers status with bit 2 set while the instant is below the conversion's end
converts_in : (n t b : ℕ) → legal n ≡ true → status_byte n (record { control = 0x1C; status = 0x08; start = Some 1_000_000_000 }) t ≡ b → status_at n t ≡ accepted (replied (Byte b))
unfolding lot polling on_store store in_quarters meaning plain_meaning decimal
converts_in n t b l e =
    let o = (conversion_time.powers_on (lot n)).gives_chip (in_range_accepted (date_time 2026 1 1 0 0 0) start_in) refl l in
    (conversion_time.means (lot n) (chip_on (lot n)) o (on_store polling)).bus_status store false t refl refl refl ∙ ap (λ (x : ℕ). accepted (replied (Byte x))) e

pub two_lots : (status_at 125_000_000 1_124_999_999 ≡ accepted (replied (Byte 0x0C))) × (status_at 125_000_000 1_125_000_000 ≡ accepted (replied (Byte 0x08)))
    × (status_at 200_000_000 1_125_000_000 ≡ accepted (replied (Byte 0x0C))) × (status_at 200_000_000 1_200_000_000 ≡ accepted (replied (Byte 0x08)))
two_lots = (
  converts_in 125_000_000 1_124_999_999 0x0C refl refl,
  converts_in 125_000_000 1_125_000_000 0x08 refl refl,
  converts_in 200_000_000 1_125_000_000 0x0C refl refl,
  converts_in 200_000_000 1_200_000_000 0x08 refl refl,
)
