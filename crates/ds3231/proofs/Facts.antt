-- What `sound` tests, as facts about numbers, and back.
-- Assumes nothing.
use Prim.Native.Nat.{ℕ, ◌≤◌, ◌<◌}
use mathlib.Core.Bool.{Bool, true, false, ◌&&◌, false≢true}
use mathlib.Core.Path.{◌≡◌, refl, sym, ap}
use native.Mathlib.Omega.{arith}
use borrow.Author.Tests.{leb-true, ltb-true, eqb-true, le-leb, lt-ltb, eq-eqb}
use lib.Dec.{leb, ltb, eqb}
use lib.Bits.{bit_and}
use Rattle.std.specs.Prelude.{Option, Some, None}
use Rattle.refusals.specs.Numbered.{Numbered, accepted, refused, is_accepted, and_then}
use Rattle.computed.proofs.Choice.{both, both_true}
use Rattle.calendar.specs.Stated.{InRange, with_day, checked, seconds_of}
use Rattle.calendar.proofs.Laws.{in_range_accepted, accepted_in_range, month_bounds}
use Rattle.calendar.specs.declared.DateTime.{DateTime}
use Rattle.ds3231.specs.Numbers.{range}
use Rattle.ds3231.specs.Calls.{sound_time, sound_pending, sound_if_pending, sound_timing, in_quarters, in_conversion_times, sound_registers, sound}
use Rattle.ds3231.specs.declared.PendingTime.{PendingTime}
use Rattle.ds3231.specs.declared.Timing.{Timing}
use Rattle.ds3231.specs.declared.Registers.{Registers}
use Rattle.ds3231.specs.declared.Ds3231.{Ds3231}
use Rattle.ds3231.specs.declared.Ds3231Config.{Ds3231Config}

-- ---- soundness as facts

-- a year of either century
abbrev pub YearIn : ℕ → Type 0
YearIn y = (2000 ≤ y) × (y ≤ 2199)

pub record TimeIn (t : DateTime) : Type 0 where
  pub valid : InRange (with_day 1 t)
  pub day_from : 1 ≤ t.day
  pub day_to : t.day ≤ 31

pub record PendingIn (p : PendingTime) : Type 0 where
  pub time : TimeIn p.time
  pub week_from : 1 ≤ p.weekday
  pub week_to : p.weekday ≤ 7

-- of a pending time, if there is one
abbrev pub HasPending : Option PendingTime → Type 0
HasPending (Some p) = PendingIn p
HasPending None = Unit {0}

pub record TimingIn (c : Timing) : Type 0 where
  pub base : c.clock.base_seconds < range
  pub offset : c.clock.weekday_offset ≤ 6
  pub pending : HasPending c.pending

pub record RegistersIn (g : Registers) : Type 0 where
  pub quarters : in_quarters g.temperature_quarters ≡ true
  pub control : bit_and g.control 0x20 ≡ 0
  pub status : bit_and g.status 0x8B ≡ g.status
  pub conversion : in_conversion_times g.conversion_nanos ≡ true

pub record Sound (c : Ds3231) : Type 0 where
  pub timing : TimingIn c.timing
  pub registers : RegistersIn c.registers
  pub waiting : c.diagnostics.waiting ≤ 256

-- a configuration that power-on does not refuse
pub record ConfigIn (f : Ds3231Config) : Type 0 where
  pub start : InRange f.start
  pub quarters : in_quarters f.temperature_quarters ≡ true
  pub conversion : in_conversion_times f.conversion_nanos ≡ true

-- from the test to the facts

is_accepted_lem : (v : Numbered (Unit {0})) → is_accepted v ≡ true → v ≡ accepted tt
is_accepted_lem (accepted u) e = refl
is_accepted_lem (refused n vs) e = absurd (false≢true e)

time_fact : (t : DateTime) → sound_time t ≡ true → TimeIn t
unfolding sound_time
time_fact t e =
    let a = both _ (leb t.day 31) e in
    let b = both (is_accepted (checked (with_day 1 t))) (leb 1 t.day) a.0 in
    record { valid = accepted_in_range (with_day 1 t) (is_accepted_lem (checked (with_day 1 t)) b.0); day_from = leb-true _ _ b.1; day_to = leb-true _ _ a.1 }

pending_fact : (q : Option PendingTime) → sound_if_pending q ≡ true → HasPending q
unfolding sound_pending
pending_fact (Some p) e =
    let a = both _ (leb p.weekday 7) e in
    let b = both (sound_time p.time) (leb 1 p.weekday) a.0 in
    record { time = time_fact _ b.0; week_from = leb-true _ _ b.1; week_to = leb-true _ _ a.1 }
pending_fact None e = tt

pub sound_fact : (c : Ds3231) → sound c ≡ true → Sound c
unfolding sound sound_timing sound_registers
sound_fact c e =
    let a = both _ (leb c.diagnostics.waiting 256) e in
    let b = both (sound_timing c.timing) (sound_registers c.registers) a.0 in
    let p = both _ (sound_if_pending c.timing.pending) b.0 in
    let o = both (ltb c.timing.clock.base_seconds range) _ p.0 in
    let n = both _ _ b.1 in
    let s = both _ (eqb (bit_and c.registers.status 0x8B) c.registers.status) n.0 in
    let r = both (in_quarters c.registers.temperature_quarters) (eqb (bit_and c.registers.control 0x20) 0) s.0 in
    record {
      timing = record { base = ltb-true _ _ o.0; offset = omega (arith, leb-true _ _ o.1); pending = pending_fact c.timing.pending p.1 };
      registers = record { quarters = r.0; control = eqb-true _ _ r.1; status = eqb-true _ _ s.1; conversion = n.1 };
      waiting = leb-true _ _ a.1;
    }

-- and back

time_test : (t : DateTime) → TimeIn t → sound_time t ≡ true
unfolding sound_time
time_test t h = both_true _ _ (both_true _ _ (ap is_accepted (in_range_accepted (with_day 1 t) h.valid)) (le-leb _ _ h.day_from)) (le-leb _ _ h.day_to)

pending_test : (q : Option PendingTime) → HasPending q → sound_if_pending q ≡ true
unfolding sound_pending
pending_test (Some p) h = both_true _ _ (both_true _ _ (time_test _ h.time) (le-leb _ _ h.week_from)) (le-leb _ _ h.week_to)
pending_test None h = refl

pub sound_test : (c : Ds3231) → Sound c → sound c ≡ true
unfolding sound sound_timing sound_registers
sound_test c h =
    let t = h.timing in
    let g = h.registers in
    both_true _ _ (both_true _ _
    (both_true _ _ (both_true _ _ (lt-ltb _ _ t.base) (le-leb _ _ (omega (arith, t.offset)))) (pending_test c.timing.pending t.pending))
    (both_true _ _ (both_true _ _ (both_true _ _ g.quarters (eq-eqb _ _ g.control)) (eq-eqb _ _ g.status)) g.conversion))
    (le-leb _ _ h.waiting)

-- ---- the time of a pending time by the ranges of its fields

-- valid on the first of its month, by the ranges of the other fields
pub first_in : (t : DateTime) → YearIn t.year → (1 ≤ t.month) × (t.month ≤ 12) → t.hour ≤ 23 → t.minute ≤ 59 → t.second ≤ 59 → InRange (with_day 1 t)
first_in t y m h n s =
    record {
      date = record { year_from = y.0; year_to = y.1; month_from = m.0; month_to = m.1; day_from = omega arith; day_to = omega (arith, month_bounds t.year t.month) };
      hour_to = h;
      minute_to = n;
      second_to = s;
    }

-- as the code tests it
abbrev pub ranges : DateTime → Bool
ranges t =
    leb 2000 t.year && leb t.year 2199 && leb 1 t.month && leb t.month 12 && leb 1 t.day && leb t.day 31
    && leb t.hour 23 && leb t.minute 59 && leb t.second 59

ranges_test : (t : DateTime) → TimeIn t → ranges t ≡ true
ranges_test t h =
    let v = h.valid in
    let d = v.date in
    both_true _ _ (both_true _ _ (both_true _ _ (both_true _ _ (both_true _ _ (both_true _ _ (both_true _ _ (both_true _ _
    (le-leb _ _ d.year_from) (le-leb _ _ d.year_to)) (le-leb _ _ d.month_from)) (le-leb _ _ d.month_to))
    (le-leb _ _ h.day_from)) (le-leb _ _ h.day_to)) (le-leb _ _ v.hour_to)) (le-leb _ _ v.minute_to)) (le-leb _ _ v.second_to)

ranges_fact : (t : DateTime) → ranges t ≡ true → TimeIn t
ranges_fact t e =
    let a = both _ (leb t.second 59) e in
    let b = both _ (leb t.minute 59) a.0 in
    let c = both _ (leb t.hour 23) b.0 in
    let d = both _ (leb t.day 31) c.0 in
    let f = both _ (leb 1 t.day) d.0 in
    let g = both _ (leb t.month 12) f.0 in
    let h = both _ (leb 1 t.month) g.0 in
    let i = both (leb 2000 t.year) (leb t.year 2199) h.0 in
    record {
      valid = first_in t (leb-true _ _ i.0, leb-true _ _ i.1) (leb-true _ _ h.1, leb-true _ _ g.1) (leb-true _ _ c.1) (leb-true _ _ b.1) (leb-true _ _ a.1);
      day_from = leb-true _ _ f.1;
      day_to = leb-true _ _ d.1;
    }

pub same_test : (a b : Bool) → (a ≡ true → b ≡ true) → (b ≡ true → a ≡ true) → a ≡ b
same_test true b f g = sym (f refl)
same_test false true f g = g refl
same_test false false f g = refl

pub sound_time_ranges : (t : DateTime) → sound_time t ≡ ranges t
sound_time_ranges t = same_test (sound_time t) (ranges t) (λ e. ranges_test t (time_fact t e)) (λ e. time_test t (ranges_fact t e))

-- ---- document 01's examples of dates

-- a date of document 01's examples is in range, and has its seconds
pub example_is : (d : DateTime) (s : ℕ) → and_then (checked d) (accepted (seconds_of d)) ≡ accepted s → InRange d × (seconds_of d ≡ s)
example_is d s e = by (checked d) refl e
  where
    by : (v : Numbered (Unit {0})) → checked d ≡ v → and_then v (accepted (seconds_of d)) ≡ accepted s → InRange d × (seconds_of d ≡ s)
    by (accepted u) p q = (accepted_in_range d p, cc)
    by (refused n vs) p q = cc
