-- The claim `CountsMidnights`, proved: the weekday by a formula of the days, a second on, and what sets the clock.
-- Assumes nothing.
use Prim.Native.Nat.{ℕ, suc, ◌+◌, ◌*◌, ◌-◌, ◌/◌, ◌%◌, ◌≤◌, ◌<◌}
use mathlib.Core.Bool.{Bool, true, false, ◌&&◌}
use mathlib.Core.List.{List, [], ◌∷◌}
use mathlib.Core.Path.{◌≡◌, refl, sym, ap, ap₂, ◌∙◌, subst}
use native.Mathlib.Nat.{mod-eq_of_lt}
use native.Mathlib.Omega.{arith}
use borrow.Author.Tests.{eqb-true, eq-eqb}
use lib.Dec.{leb, eqb}
use Rattle.std.proofs.lemmas.Bool.{eqb-false}
use Rattle.std.specs.Prelude.{if◌then◌else◌, Option, Some, None}
use Rattle.refusals.specs.Numbered.{Numbered, accepted, refused, is_accepted, unless}
use Rattle.computed.specs.Entries.{At}
use Rattle.computed.proofs.Choice.{chosen, both, both_true}
use Rattle.calendar.specs.Stated.{InRange, time_of, seconds_of, date_time, weekday_of, nearest, day_number, next_weekday}
use Rattle.calendar.specs.declared.DateTime.{DateTime}
use Rattle.calendar.proofs.Examples.{examples}
use Rattle.calendar.proofs.Laws.{weekday_formula, seconds_of_time, time_of_seconds, time_in_range, seconds_formula, seconds_day, nearest_in_range}
use Rattle.fields.specs.Bytes.{field_byte}
use Rattle.fields.specs.Table.{meaning, time_bytes}
use Rattle.fields.proofs.Laws.{seven_bytes}
use Rattle.diagnostics.specs.declared.I2cDiagnostic.{I2cDiagnostic}
use Rattle.ds3231.specs.Numbers.{nanos, range, day}
use Rattle.ds3231.specs.Types.{Register, Weekday}
use Rattle.ds3231.specs.Clock.{elapsed, seconds_at, time_at, stepped, midnights, weekday_set, weekday_at}
use Rattle.ds3231.specs.Timing.{is_defined, sets_seconds, found, noted, found_at, clock_from, committed_clock, shown_at, pointed_by, commit}
use Rattle.ds3231.specs.Map.{number_of, Names, named}
use Rattle.ds3231.specs.Registers.{byte_at}
use Rattle.ds3231.specs.Calls.{sound, chip_on, power_on, shown_time, now_answer, register_answer, Call, bus, taking, verdict, chip_by, chip_after, written, has_read}
use Rattle.ds3231.specs.Model.{Accepted, Model, exact, whole_second, weekday_for, exact_weekday, exact_bytes, date_with, date_by, weekday_by, offset_with, Instant, never, at, last_seconds, holds_at, part_second, date_set, closed_by}
use Rattle.ds3231.specs.Exact.{events, NeverFall, last_instant, after}
use Rattle.ds3231.specs.Midnights.{at_midnight, a_second_on, ends, is_pending, sets_clock, in_writing, writes_time, accepts, weekday_answer, Finds, Pends, IsSet, Counts, ModelCounts, ShowsModel, CountsMidnights}
use Rattle.ds3231.specs.declared.Clock.{Clock}
use Rattle.ds3231.specs.declared.PendingTime.{PendingTime}
use Rattle.ds3231.specs.declared.Phase.{Phase}
use Rattle.ds3231.specs.declared.Phase.TheVariants.{Released, Pointer, Writing, Reading, Ignoring}
use Rattle.ds3231.specs.declared.Timing.{Timing}
use Rattle.ds3231.specs.declared.Event.TheVariants.{Start, Write, Read, Stop}
use Rattle.ds3231.specs.declared.Ds3231.{Ds3231}
use Rattle.ds3231.specs.declared.Ds3231Config.{Ds3231Config}
use Rattle.ds3231.proofs.Facts.{example_is, TimeIn, HasPending, sound_fact, sound_test, same_test}
use Rattle.ds3231.proofs.Weekdays.{step, counted_on, set_date, set_shows, not_set, opened_weekday, seconds_byte, weekday_byte}
use Rattle.ds3231.proofs.Bytes.{meaning_in, changed_in, seconds_in, time_in}
use Rattle.ds3231.proofs.Sounds.{sound_kept, on_sound}
use Rattle.ds3231.proofs.PowersOn.{on_chip}
use Rattle.ds3231.proofs.Follows.{date_same, clamp_same, the_offset, weekdays, follow_later, follow_latch}
use Rattle.ds3231.proofs.Map.{named_names}
use Rattle.ds3231.proofs.RegisterBytes.{time_entry}
use Rattle.ds3231.proofs.ExactTime.{register_answer_lem, after_power_on, follows_after}
use Rattle.ds3231.proofs.NeverRefused.{asked}

-- ---- what the calls answer

weekday_answered : (c : Ds3231) (t : ℕ) → sound c ≡ true → weekday_answer c t ≡ accepted (weekday_at c.timing.clock t)
unfolding time_bytes field_byte
weekday_answered c t e = register_answer_lem c Weekday 0x03 t (sound_fact c e) refl

-- ---- a second on

-- a midnight, by the seconds of a time
midnight_is : (d : DateTime) → InRange d → at_midnight d ≡ eqb (seconds_of d % day) 0
midnight_is d v = same_test (at_midnight d) (eqb (seconds_of d % day) 0) (λ e. at_0 e) (λ e. from_0 (eqb-true _ _ e))
  where
    formula : seconds_of d ≡ day_number d.year d.month d.day * 86400 + d.hour * 3600 + d.minute * 60 + d.second
    formula = seconds_formula d

    at_0 : at_midnight d ≡ true → eqb (seconds_of d % day) 0 ≡ true
    at_0 e =
        let p = both _ _ e in
        let q = both _ _ p.0 in
        let h = eqb-true d.hour _ q.0 in
        let m = eqb-true d.minute _ q.1 in
        let s = eqb-true d.second _ p.1 in
        eq-eqb (seconds_of d % day) 0 (omega (arith, formula))

    from_0 : seconds_of d % day ≡ 0 → at_midnight d ≡ true
    from_0 e =
        let h = eq-eqb d.hour _ (omega (arith, formula, v.hour_to, v.minute_to, v.second_to)) in
        let m = eq-eqb d.minute _ (omega (arith, formula, v.hour_to, v.minute_to, v.second_to)) in
        let s = eq-eqb d.second _ (omega (arith, formula, v.hour_to, v.minute_to, v.second_to)) in
        both_true _ _ (both_true _ _ h m) s

module _ (k : Clock) (t : ℕ) (h : k.base_at ≤ t) where
  elapsed_next : elapsed k (t + nanos) ≡ elapsed k t + 1
  elapsed_next = omega arith

  weekday_next : weekday_at k (t + nanos) ≡ (if eqb (seconds_at k (t + nanos) % day) 0 then next_weekday (weekday_at k t) else weekday_at k t)
  unfolding stepped
  weekday_next =
      chosen (λ (x : ℕ). weekday_at k (t + nanos) ≡ x) (eqb (seconds_at k (t + nanos) % day) 0)
      (λ e. let z = eqb-true _ _ e in ap (λ (n : ℕ). stepped n (weekday_set k)) (one_more z)) (λ e. ap (λ (n : ℕ). stepped n (weekday_set k)) (no_more (eqb-false _ _ e)))
    where
      one_more : seconds_at k (t + nanos) % day ≡ 0 → midnights k (t + nanos) ≡ suc (midnights k t)
      one_more z = omega (arith, elapsed_next)

      no_more : (seconds_at k (t + nanos) % day ≡ 0 → ⊥) → midnights k (t + nanos) ≡ midnights k t
      no_more z = omega (arith, elapsed_next)

-- of any times: the midnight and the weekday a second before
second_on : (s w x : ℕ) → s < range → x ≡ (if eqb (s % day) 0 then next_weekday w else w) → x ≡ a_second_on (time_of s) w
second_on s w x h e =
    e ∙ ap (λ (b : Bool). if b then next_weekday w else w) (ap (λ (n : ℕ). eqb (n % day) 0) (sym (seconds_of_time s)) ∙ sym (midnight_is (time_of s) (time_in_range s h)))

-- ---- a sound chip

is_accepted_lem : (v : Numbered (Unit {0})) → is_accepted v ≡ true → v ≡ accepted tt
is_accepted_lem (accepted u) e = refl
is_accepted_lem (refused n vs) e = cc

writing_phase : (p : Phase) → in_writing p ≡ true → p ≡ Writing
writing_phase Writing e = refl
writing_phase Released e = cc
writing_phase Pointer e = cc
writing_phase Reading e = cc
writing_phase Ignoring e = cc

given : {A : Type 0} (x y : A) → accepted x ≡ accepted y → x ≡ y
given x y e = cc

pub end_of_2199 : InRange (date_time 2199 12 31 23 59 59) × (seconds_of (date_time 2199 12 31 23 59 59) ≡ 6_311_433_599)
end_of_2199 = example_is _ _ examples.rows.1.1.1.0.seconds_are

pub first_of_2000 : InRange (date_time 2000 1 1 0 0 0) × (seconds_of (date_time 2000 1 1 0 0 0) ≡ 0)
first_of_2000 = example_is _ _ examples.rows.0.seconds_are

module _ (c : Ds3231) (sound_c : sound c ≡ true) where
  abbrev k : Clock
  k = c.timing.clock

  now_shown : (t : ℕ) (d : DateTime) → now_answer c t ≡ accepted d → time_of (seconds_at k t) ≡ d
  now_shown t d e = given (shown_time c t) d (sym (asked c (accepted (shown_time c t)) sound_c) ∙ e)

  weekday_shown_is : (t w : ℕ) → weekday_answer c t ≡ accepted w → weekday_at k t ≡ w
  weekday_shown_is t w e = given (weekday_at k t) w (sym (weekday_answered c t sound_c) ∙ e)

  steps_by : (t : ℕ) (d : DateTime) (w : ℕ) → k.base_at ≤ t → now_answer c (t + nanos) ≡ accepted d → weekday_answer c t ≡ accepted w → weekday_answer c (t + nanos) ≡ accepted (a_second_on d w)
  steps_by t d w h e f =
      weekday_answered c (t + nanos) sound_c
      ∙ ap accepted (second_on (seconds_at k (t + nanos)) (weekday_at k t) _ (seconds_in k (t + nanos)) (weekday_next k t h))
      ∙ ap₂ (λ (x : DateTime) (y : ℕ). accepted (a_second_on x y)) (now_shown (t + nanos) d e) (weekday_shown_is t w f)

  into : (t w : ℕ) → k.base_at ≤ t → now_answer c t ≡ accepted (date_time 2199 12 31 23 59 59) → weekday_answer c t ≡ accepted w
      → (now_answer c (t + nanos) ≡ accepted (date_time 2000 1 1 0 0 0)) × (weekday_answer c (t + nanos) ≡ accepted (next_weekday w))
  into t w h e f =
      let n = elapsed_next k t h in
      let s : seconds_at k t ≡ 6_311_433_599 = sym (seconds_of_time (seconds_at k t)) ∙ ap seconds_of (now_shown t _ e) ∙ end_of_2199.1 in
      let z : seconds_at k (t + nanos) ≡ 0 = omega (arith, n, s) in
      let d = asked c (accepted (shown_time c (t + nanos))) sound_c ∙ ap (λ (x : ℕ). accepted (time_of x)) (z ∙ sym first_of_2000.1) ∙ ap accepted (time_of_seconds _ first_of_2000.0) in
      (d, steps_by t (date_time 2000 1 1 0 0 0) w h d f)

  same : (t u : ℕ) → (t - k.base_at) / nanos ≡ (u - k.base_at) / nanos → weekday_answer c t ≡ weekday_answer c u
  same t u e =
      weekday_answered c t sound_c ∙ ap (λ (n : ℕ). accepted (stepped ((k.base_seconds % day + n) / day) (weekday_set k))) e ∙ sym (weekday_answered c u sound_c)

  below_base : (t : ℕ) → t ≤ k.base_at → (now_answer c t ≡ now_answer c k.base_at) × (weekday_answer c t ≡ weekday_answer c k.base_at)
  below_base t h =
      let e : elapsed k t ≡ elapsed k k.base_at = omega arith in (
        asked c (accepted (shown_time c t)) sound_c ∙ ap (λ (n : ℕ). accepted (time_of ((k.base_seconds + n) % range))) e ∙ sym (asked c (accepted (shown_time c k.base_at)) sound_c),
        same t k.base_at e,
      )

  by_formula : (t : ℕ) → let s = k.base_seconds + (t - k.base_at) / nanos in s < range → weekday_answer c t ≡ accepted ((s / day + k.weekday_offset) % 7 + 1)
  by_formula t h = weekday_answered c t sound_c ∙ ap accepted (counted_on k t ∙ omega arith)

  -- a call that ends a transaction makes the pending time the clock
  set_to : (x : Call) (p : PendingTime) → verdict x c ≡ accepted tt → (commit c.timing).clock ≡ (chip_by x c).timing.clock → None ≡ (chip_by x c).timing.pending → c.timing.pending ≡ Some p
      → IsSet (chip_after x c) p c.timing.pending_at
  set_to x p v e n f =
      let b = c.timing.pending_at in
      let d = chip_after x c in
      let h = subst HasPending f (sound_fact c sound_c).timing.pending in
      let is : d ≡ chip_by x c = ap (λ (y : Numbered (Unit {0})). unless y (chip_by x c) c) v in
      let clock : d.timing.clock ≡ clock_from p b = ap (λ (y : Ds3231). y.timing.clock) is ∙ sym e ∙ ap (λ (q : Option PendingTime). committed_clock q b k) f in
      let s = sound_kept x c sound_c in
      let i = nearest_in_range p.time in
      record {
        from = ap (λ (y : Clock). y.base_at) clock;
        date = asked d (accepted (shown_time d b)) s ∙ ap (λ (y : Clock). accepted (time_at y b)) clock ∙ ap accepted (set_date (nearest p.time) p.weekday b b i (omega arith));
        weekday = weekday_answered d b s ∙ ap (λ (y : Clock). accepted (weekday_at y b)) clock ∙ ap accepted (set_shows (nearest p.time) p.weekday b b i (omega arith) (h.week_from, h.week_to));
        no_more = ap (λ (y : Ds3231). y.timing.pending) is ∙ sym n;
      }

  set_by : (x : Call) (p : PendingTime) → verdict x c ≡ accepted tt → ends x ≡ true → c.timing.pending ≡ Some p → IsSet (chip_after x c) p c.timing.pending_at
  set_by (bus s (Start a r t)) p v e f = set_to (bus s (Start a r t)) p v refl refl f
  set_by (bus s (Stop t)) p v e f = set_to (bus s (Stop t)) p v refl refl f
  set_by (bus s (Write b t)) p v e f = cc
  set_by (bus s (Read m t)) p v e f = cc
  set_by (taking s o) p v e f = cc

  is_set_by : (x : Call) (p : PendingTime) → sets_clock x c ≡ true → c.timing.pending ≡ Some p → IsSet (chip_after x c) p c.timing.pending_at
  is_set_by x p e f = let z = both _ _ e in set_by x p (is_accepted_lem (verdict x c) z.0) (both _ _ z.1).0 f

  -- ---- what the other calls leave

  -- the clock, and where no time byte is written the pending time with its instant
  abbrev Left : Bool → Timing → Type 0
  Left writes x = (x.clock ≡ k) × (writes ≡ false → (x.pending ≡ c.timing.pending) × (x.pending_at ≡ c.timing.pending_at))

  commit_leaves : is_pending c.timing.pending ≡ false → Left false (commit c.timing)
  commit_leaves e = by c.timing.pending refl e
    where
      by : (q : Option PendingTime) → c.timing.pending ≡ q → is_pending q ≡ false → Left false (commit c.timing)
      by None f g = (ap (λ (x : Option PendingTime). committed_clock x c.timing.pending_at k) f ∙ not_set c.timing.pending_at k, λ w. (sym f, refl))
      by (Some p) f g = cc

  write_leaves : (p : Phase) (b t : ℕ) → Left (in_writing p && is_defined (meaning (number_of c.timing.pointer) b)) (written p b t c).timing
  write_leaves Released b t = (refl, λ w. (refl, refl))
  write_leaves Reading b t = (refl, λ w. (refl, refl))
  write_leaves Ignoring b t = (refl, λ w. (refl, refl))
  write_leaves Writing b t =
      let m = meaning (number_of c.timing.pointer) b in (
        refl,
        λ w. (
          ap (λ (x : Bool). if x then Some (noted m (found c.timing.pending k t)) else c.timing.pending) w,
          ap (λ (x : Bool). if x then (if sets_seconds m then t else found_at c.timing.pending c.timing.pending_at k t) else c.timing.pending_at) w,
        ),
      )
  write_leaves Pointer b t = by (named b)
    where
      by : (d : Option Register) → Left false (pointed_by d c.timing)
      by (Some r) = (refl, λ w. (refl, refl))
      by None = (refl, λ w. (refl, refl))

  read_leaves : (p : Phase) (t : ℕ) → Left false (has_read p t c).timing
  read_leaves Released t = (refl, λ w. (refl, refl))
  read_leaves Pointer t = (refl, λ w. (refl, refl))
  read_leaves Writing t = (refl, λ w. (refl, refl))
  read_leaves Ignoring t = (refl, λ w. (refl, refl))
  read_leaves Reading t = chosen (Left false) (leb 0x12 (number_of c.timing.pointer)) (λ e. (refl, λ w. (refl, refl))) (λ e. (refl, λ w. (refl, refl)))

  call_leaves : (x : Call) → (ends x && is_pending c.timing.pending) ≡ false → Left (writes_time x c.timing) (chip_by x c).timing
  call_leaves (bus s (Start a r t)) e = let z = commit_leaves e in (z.0, z.1)
  call_leaves (bus s (Stop t)) e = let z = commit_leaves e in (z.0, z.1)
  call_leaves (bus s (Write b t)) e = write_leaves c.timing.phase b t
  call_leaves (bus s (Read m t)) e = read_leaves c.timing.phase t
  call_leaves (taking s o) e = (refl, λ w. (refl, refl))

  leaves : (x : Call) → sets_clock x c ≡ false → Left (accepts x c) (chip_after x c).timing
  leaves x e = by (verdict x c) e
    where
      by : (v : Numbered (Unit {0})) → (is_accepted v && (ends x && is_pending c.timing.pending)) ≡ false → Left (is_accepted v && writes_time x c.timing) (unless v (chip_by x c) c).timing
      by (accepted u) g = call_leaves x g
      by (refused n vs) g = (refl, λ w. (refl, refl))

  -- ---- an accepted time byte

  found_is : (q : Option PendingTime) (t w : ℕ) → Finds q c t w → (found q k t).weekday ≡ w
  found_is (Some p) t w f = f
  found_is None t w f = opened_weekday k t ∙ weekday_shown_is t w f

  carries : (s : List I2cDiagnostic) (b t w : ℕ) → accepts (bus s (Write b t)) c ≡ true → Finds c.timing.pending c t w
      → Pends (chip_after (bus s (Write b t)) c) (if eqb (number_of c.timing.pointer) 0x03 then b else w)
  carries s b t w e f =
      let r = number_of c.timing.pointer in
      let m = meaning r b in
      let z = both _ _ e in
      let y = both _ _ z.1 in (
        noted m (found c.timing.pending k t),
        ap (λ (v : Numbered (Unit {0})). (unless v (chip_by (bus s (Write b t)) c) c).timing.pending) (is_accepted_lem (verdict (bus s (Write b t)) c) z.0)
            ∙ ap (λ (p : Phase). (written p b t c).timing.pending) (writing_phase c.timing.phase y.0)
            ∙ ap (λ (x : Bool). if x then Some (noted m (found c.timing.pending k t)) else c.timing.pending) y.1,
        weekday_byte r b (found c.timing.pending k t).weekday y.1 ∙ ap (λ (x : ℕ). if eqb r 0x03 then b else x) (found_is c.timing.pending t w f),
      )

  begins_by : (q : Option PendingTime) (x : Bool) (b t : ℕ)
      → (if x then t else found_at q b k t) ≡ (if x then t else if is_pending q then b else t - (t - k.base_at) % nanos)
  begins_by (Some p) x b t = refl
  begins_by None x b t = refl

  begins_at_byte : (s : List I2cDiagnostic) (b t : ℕ) → accepts (bus s (Write b t)) c ≡ true
      → (chip_after (bus s (Write b t)) c).timing.pending_at
      ≡ (if eqb (number_of c.timing.pointer) 0x00 then t else if is_pending c.timing.pending then c.timing.pending_at else t - (t - k.base_at) % nanos)
  begins_at_byte s b t e =
      let r = number_of c.timing.pointer in
      let m = meaning r b in
      let z = both _ _ e in
      let y = both _ _ z.1 in
      ap (λ (v : Numbered (Unit {0})). (unless v (chip_by (bus s (Write b t)) c) c).timing.pending_at) (is_accepted_lem (verdict (bus s (Write b t)) c) z.0)
      ∙ ap (λ (p : Phase). (written p b t c).timing.pending_at) (writing_phase c.timing.phase y.0)
      ∙ ap (λ (x : Bool). if x then (if sets_seconds m then t else found_at c.timing.pending c.timing.pending_at k t) else c.timing.pending_at) y.1
      ∙ ap (λ (x : Bool). if x then t else found_at c.timing.pending c.timing.pending_at k t) (seconds_byte r b y.1) ∙ begins_by c.timing.pending (eqb r 0x00) c.timing.pending_at t

  counted : Counts c
  counted =
      record {
        steps = steps_by;
        into_2000 = into;
        same_second = same;
        below = below_base;
        formula = by_formula;
        is_set = is_set_by;
        is_kept = λ x e. (leaves x e).0;
        carried = carries;
        begins = begins_at_byte;
        pending_kept = λ x e f. (leaves x e).1 f;
      }

-- ---- the model

-- a nanosecond on from the instant x, which is not taken modulo the range
weekday_on : (x o : ℕ) → weekday_for (suc x / nanos / day) o ≡ (if eqb (suc x % (range * nanos) % (day * nanos)) 0 then next_weekday (weekday_for (x / nanos / day) o) else weekday_for (x / nanos / day) o)
weekday_on x o =
    chosen (λ (y : ℕ). weekday_for (suc x / nanos / day) o ≡ y) (eqb (suc x % (range * nanos) % (day * nanos)) 0)
    (λ e. let z = eqb-true _ _ e in omega arith ∙ sym (step (x / nanos / day + o) (weekday_for (x / nanos / day) o) refl)) (λ e. let z = eqb-false _ _ e in omega arith)

-- the date that accepted bytes make is one but for its day
date_in : (l : List Accepted) (d : DateTime) → TimeIn d → TimeIn (date_by l d)
date_in [] d h = h
date_in (a ∷ l) d h =
    let m = meaning a.register a.value in
    date_in l (date_with m d) (subst TimeIn (sym (date_same m d)) (changed_in m (meaning_in a.register a.value) d h))

module _ (m : Model) where
  model_on_by : (t : ℕ) → m.since ≤ t → exact_weekday m (t + 1) ≡ (if eqb (exact m (t + 1) % (day * nanos)) 0 then next_weekday (exact_weekday m t) else exact_weekday m t)
  model_on_by t h =
      let next : m.count + (t + 1 - m.since) ≡ suc (m.count + (t - m.since)) = omega arith in
      ap (λ (x : ℕ). weekday_for (x / nanos / day) m.offset) next ∙ weekday_on (m.count + (t - m.since)) m.offset
      ∙ ap (λ (x : ℕ). if eqb (x % (range * nanos) % (day * nanos)) 0 then next_weekday (exact_weekday m t) else exact_weekday m t) (sym next)

  by_model_formula : (t : ℕ) → m.count + (t - m.since) < range * nanos → exact_weekday m t ≡ weekday_for (whole_second m t / day) m.offset
  by_model_formula t h = ap (λ (x : ℕ). weekday_for (x / nanos / day) m.offset) (sym (mod-eq_of_lt h))

  part_below : (i : Instant) (first : ℕ) → part_second i first m < nanos
  part_below never first = omega arith
  part_below (at t) first = omega arith

  sets_model : (a : Accepted) (l : List Accepted) → exact_weekday (closed_by (a ∷ l) m) (holds_at (last_seconds (a ∷ l) never) a.at) ≡ weekday_by (a ∷ l) (exact_weekday m a.at)
  sets_model a l =
      let d = date_set (a ∷ l) a.at m in
      let w = weekday_by (a ∷ l) (exact_weekday m a.at) in
      let p = part_below (last_seconds (a ∷ l) never) a.at in
      let h = date_in (a ∷ l) (time_of (whole_second m a.at)) (time_in _ (time_in_range (whole_second m a.at) (omega arith))) in
      let v = subst InRange (clamp_same _ h) (nearest_in_range _) in
      let i = weekdays (a ∷ l) (exact_weekday m a.at) (omega arith) in
      ap (λ (x : ℕ). weekday_for x (offset_with (day_number d.year d.month d.day) w)) (omega (arith, seconds_day d v, p)) ∙ (the_offset (day_number d.year d.month d.day) w i.0 i.1).0.gives

  model_counted : ModelCounts m
  model_counted = record { model_steps = model_on_by; model_formula = by_model_formula; model_sets = sets_model }

-- ---- the claim

on_its_day : (f : Ds3231Config) (c₀ : Ds3231) → power_on f ≡ accepted c₀ → (c₀.timing.clock.base_at ≡ 0) × (weekday_answer c₀ 0 ≡ accepted (weekday_of f.start)) × (c₀.timing.pending ≡ None)
on_its_day f c₀ e =
    on_chip (λ (c : Ds3231). (c.timing.clock.base_at ≡ 0) × (weekday_answer c 0 ≡ accepted (weekday_of f.start)) × (c.timing.pending ≡ None)) f c₀ e (λ i. (
      refl,
      weekday_answered (chip_on f) 0 (sound_test (chip_on f) (on_sound f i)) ∙ ap accepted (set_shows f.start (weekday_of f.start) 0 0 i.start (omega arith) (omega (arith, weekday_formula f.start))),
      refl,
    ))

module _ (f : Ds3231Config) (c₀ : Ds3231) (e : power_on f ≡ accepted c₀) (calls : List Call) (h : NeverFall 0 (events c₀ calls)) where
  abbrev then_chip : Ds3231
  then_chip = (after f c₀ calls).chip

  abbrev then_model : Model
  then_model = (after f c₀ calls).model

  shown_same : (t : ℕ) → last_instant 0 (events c₀ calls) ≤ t → exact_bytes then_model t ≡ shown_at then_chip.timing t
  shown_same t p = (follow_latch then_chip.timing then_model t (follow_later then_chip.timing then_model _ t p (follows_after f c₀ e calls h))).latched

  shows : ShowsModel f c₀ calls
  shows t n p q = by (named n) (named_names n)
    where
      by : (d : Option Register) → Names n d → (b : ℕ) × (register_answer then_chip n t ≡ accepted b) × At (exact_bytes then_model t) n b
      by (Some r) i =
          let b = byte_at (shown_at then_chip.timing t) then_chip.registers r t in (
            b,
            register_answer_lem then_chip r n t (after_power_on f c₀ e calls) (sym i),
            subst (λ (l : List ℕ). At l n b) (sym (shown_same t p))
                (subst (λ (x : ℕ). At (shown_at then_chip.timing t) x b) i (time_entry (shown_at then_chip.timing t) then_chip.registers t (seven_bytes _ _ _) r (omega arith))),
          )
      by None i = absurd (omega arith)

pub counts_midnights : CountsMidnights
counts_midnights = record { counts = counted; powers_on = on_its_day; model_counts = model_counted; shows_model = shows }
