-- While the instants never fall the chip's timing follows the model: the relation between the two, and that each event keeps it.
-- Assumes nothing.
use Prim.Native.Nat.{ℕ, ◌+◌, ◌*◌, ◌-◌, ◌/◌, ◌%◌, ◌≤◌}
use mathlib.Core.Bool.{Bool, true, false}
use mathlib.Core.List.{List, [], ◌∷◌, ◌++◌}
use mathlib.Core.Path.{◌≡◌, refl, sym, ap, ap₂, ◌∙◌, subst}
use native.Mathlib.Nat.{le_refl, le_trans}
use native.Mathlib.Omega.{arith}
use borrow.Author.Tests.{ltb-true, ltb-false}
use lib.Dec.{leb, ltb, eqb, lit<}
use Rattle.std.specs.Prelude.{if◌then◌else◌, Option, Some, None}
use Rattle.computed.proofs.Claim.{Claim, eq, each}
use Rattle.calendar.specs.Stated.{with_day, time_of, seconds_of, nearest, month_length, day_number}
use Rattle.calendar.proofs.Laws.{nearest_same, nearest_past}
use Rattle.calendar.specs.declared.DateTime.{DateTime}
use Rattle.fields.specs.Table.{Meaning, undefined, sets, meaning, time_bytes}
use Rattle.ds3231.specs.Numbers.{nanos, range}
use Rattle.ds3231.specs.Clock.{seconds_at, time_at, weekday_at, second_start}
use Rattle.ds3231.specs.Changed.{offset_for, changed_time, changed_weekday, changed_mode, next_pointer}
use Rattle.ds3231.specs.Timing.{phase_for, is_defined, sets_seconds, found, found_at, noted, clock_from, committed_clock, shown_at, latch, in_phase, pointed, pointed_by, commit, accept}
use Rattle.ds3231.specs.Map.{number_of}
use Rattle.ds3231.specs.Types.{Register}
use Rattle.ds3231.specs.Calls.{written, has_read, step}
use Rattle.ds3231.specs.Exact.{instant}
use Rattle.ds3231.specs.declared.Ds3231.{Ds3231}
use Rattle.ds3231.specs.declared.Event.{Event}
use Rattle.ds3231.specs.declared.Event.TheVariants.{Start, Write, Read, Stop}
use Rattle.ds3231.specs.Model.{Stage, unaddressed, writes, drops, Accepted, Model, exact, whole_second, exact_weekday, date_with, date_by, clamped, weekday_with, weekday_by, weekday_for, IsOffset, first_offset, offset_with, Instant, never, at, seconds_with, last_seconds, holds_at, part_second, date_set, closed_by, closed, latching, standing, pointing, keeps, mode_with, keeping, moved_pointer, write_in, fed}
use Rattle.ds3231.specs.declared.Clock.{Clock}
use Rattle.ds3231.specs.declared.PendingTime.{PendingTime}
use Rattle.ds3231.specs.declared.Phase.{Phase}
use Rattle.ds3231.specs.declared.Phase.TheVariants.{Released, Pointer, Writing, Reading, Ignoring}
use Rattle.ds3231.specs.declared.Timing.{Timing}
use Rattle.ds3231.proofs.Counting.{split_count, whole_count, part_count}
use Rattle.ds3231.proofs.Facts.{TimeIn, HasPending, TimingIn}
use Rattle.ds3231.proofs.Map.{next_moved, wrapping}
use Rattle.ds3231.proofs.Weekdays.{InWeek, counted_on, offset_gives}
use Rattle.ds3231.proofs.Bytes.{meaning_in, weekday_in, offset_in, weekday_shown}
use Rattle.ds3231.proofs.Places.{stage_of, stage_addressed, by_name, read_in}

-- ---- the clock and the count

-- the count is the clock's, since an instant up to `last`
pub record FollowsClock (k : Clock) (m : Model) (last : ℕ) : Type 0 where
  pub offset : m.offset ≡ k.weekday_offset
  pub count : m.count ≡ k.base_seconds * nanos + (m.since - k.base_at)
  pub base : k.base_at ≤ m.since
  pub since : m.since ≤ last

module _ (k : Clock) (m : Model) (last : ℕ) (w : FollowsClock k m last) (t : ℕ) (h : m.since ≤ t) where
  same_count : m.count + (t - m.since) ≡ k.base_seconds * nanos + (t - k.base_at)
  same_count = omega arith

  pub exact_is : exact m t ≡ seconds_at k t * nanos + (t - k.base_at) % nanos
  exact_is = ap (λ (x : ℕ). x % (range * nanos)) same_count ∙ split_count range nanos (lit< tt) (lit< tt) k.base_seconds (t - k.base_at)

  pub whole_is : whole_second m t ≡ seconds_at k t
  whole_is = ap (λ (x : ℕ). x % (range * nanos) / nanos) same_count ∙ whole_count range nanos (lit< tt) (lit< tt) k.base_seconds (t - k.base_at)

  pub part_is : exact m t % nanos ≡ (t - k.base_at) % nanos
  part_is = ap (λ (x : ℕ). x % (range * nanos) % nanos) same_count ∙ part_count range nanos (lit< tt) (lit< tt) k.base_seconds (t - k.base_at)

  pub weekday_is : exact_weekday m t ≡ weekday_at k t
  weekday_is = omega (arith, same_count, w.offset, counted_on k t)

-- ---- what one byte makes, on both sides

pub date_same : (m : Meaning) (d : DateTime) → date_with m d ≡ changed_time m d
date_same undefined d = refl
date_same (sets r n flag) d = refl

pub weekday_same : (m : Meaning) (w : ℕ) → weekday_with m w ≡ changed_weekday m w
weekday_same undefined w = refl
weekday_same (sets r n flag) w = refl

pub mode_same : (m : Meaning) (x : Bool) → mode_with m x ≡ changed_mode m x
mode_same undefined x = refl
mode_same (sets r n flag) x = refl

-- the instant at which a second of the pending time begins: that of the last seconds byte, or the start of the second of the first byte
abbrev begins_at : Clock → ℕ → Instant → ℕ
begins_at k first never = second_start k first
begins_at k first (at t) = t

seconds_same : (m : Meaning) (t : ℕ) (k : Clock) (first : ℕ) (i : Instant) → begins_at k first (seconds_with m t i) ≡ (if sets_seconds m then t else begins_at k first i)
seconds_same undefined t k first i = refl
seconds_same (sets r n flag) t k first i = by (eqb r 0)
  where
    by : (e : Bool) → begins_at k first (if e then at t else i) ≡ (if e then t else begins_at k first i)
    by true = refl
    by false = refl

-- a day past the month's end
pub clamp_same : (t : DateTime) → TimeIn t → nearest t ≡ clamped t
clamp_same t h = by (ltb (month_length t.year t.month) t.day) refl
  where
    by : (e : Bool) → ltb (month_length t.year t.month) t.day ≡ e → nearest t ≡ (if e then with_day (month_length t.year t.month) t else t)
    by true e = nearest_past t h.valid (ltb-true _ _ e)
    by false e =
        let v = h.valid in
        nearest_same t (record { date = record { year_from = v.date.year_from; year_to = v.date.year_to; month_from = v.date.month_from; month_to = v.date.month_to; day_from = h.day_from; day_to = ltb-false _ _ e }; hour_to = v.hour_to; minute_to = v.minute_to; second_to = v.second_to })

abbrev candidates : List ℕ
candidates = 0 ∷ 1 ∷ 2 ∷ 3 ∷ 4 ∷ 5 ∷ 6 ∷ []

-- the offset: computed at each remainder of the day and each weekday
offsets : ℕ → Claim
offsets k = eq (first_offset candidates (k / 7) (k % 7 + 1)) (offset_for (k % 7 + 1) (k / 7))

-- a day and its remainder have the same offset
offset_of : (os : List ℕ) (d w : ℕ) → first_offset os d w ≡ first_offset os (d % 7) w
offset_of [] d w = refl
offset_of (o ∷ os) d w =
    let e : (d + o) % 7 ≡ (d % 7 + o) % 7 = omega arith in
    ap₂ (λ (x y : ℕ). if eqb (x + 1) w then o else y) e (offset_of os d w)

offset_for_rest : (w d : ℕ) → offset_for w (d % 7) ≡ offset_for w d
unfolding offset_for
offset_for_rest w d = omega arith

pub offset_same : (d w : ℕ) → InWeek w → offset_with d w ≡ offset_for w d
unfolding offset_with offset_for offsets
offset_same d w h =
    let k = d % 7 * 7 + (w - 1) in
    let p : k / 7 ≡ d % 7 = omega arith in
    let q : k % 7 + 1 ≡ w = omega arith in
    let c = each offsets 0 49 tt k (omega arith) (omega arith) in
    offset_of candidates d w ∙ ap₂ (λ (x y : ℕ). first_offset candidates x y) (sym p) (sym q) ∙ c ∙ ap₂ (λ (x y : ℕ). offset_for y x) p q ∙ offset_for_rest w d

-- the model's offset is the one of 0 to 6 that gives the weekday
pub the_offset : (d w : ℕ) → 1 ≤ w → w ≤ 7 → IsOffset d w (offset_with d w) × ((o : ℕ) → IsOffset d w o → o ≡ offset_with d w)
unfolding offset_for
the_offset d w p q =
    let e = offset_same d w (p, q) in (
      record { at_most = subst (λ (x : ℕ). x ≤ 6) (sym e) (offset_in w d); gives = ap (weekday_for d) e ∙ offset_gives d w (p, q) },
      λ o i. only o i.at_most i.gives ∙ sym e,
    )
  where
    only : (o : ℕ) → o ≤ 6 → weekday_for d o ≡ w → o ≡ offset_for w d
    only o h g = omega arith

-- ---- the accepted bytes and the pending time

-- the pending time that accepted bytes make on a clock
abbrev gathered : List Accepted → Clock → ℕ → PendingTime
gathered l k first = record { time = date_by l (time_at k first); weekday = weekday_by l (weekday_at k first) }

-- and where its second begins
abbrev begun : List Accepted → Clock → ℕ → ℕ
begun l k first = begins_at k first (last_seconds l never)

-- a pending time and its instant, or none, stand for the accepted bytes
abbrev Gathers : List Accepted → Option PendingTime → ℕ → Clock → Type 0
Gathers [] q b k = q ≡ None
Gathers (a ∷ l) q b k = (q ≡ Some (gathered (a ∷ l) k a.at)) × (b ≡ begun (a ∷ l) k a.at)

-- each accepted byte's instant is from lo to hi
abbrev Within : ℕ → ℕ → List Accepted → Type 0
Within lo hi [] = Unit {0}
Within lo hi (a ∷ l) = (lo ≤ a.at) × (a.at ≤ hi) × Within lo hi l

pub record Follows (c : Timing) (m : Model) (last : ℕ) : Type 0 where
  pub stage : m.stage ≡ stage_of c.phase
  pub pointer : m.pointer ≡ number_of c.pointer
  pub mode : m.twelve ≡ c.twelve_hour
  pub latched : m.latched ≡ c.latched
  pub clock : FollowsClock c.clock m last
  pub gathers : Gathers m.accepted c.pending c.pending_at c.clock
  pub within : Within m.since last m.accepted

-- one more byte
abbrev meaning_of : Accepted → Meaning
meaning_of a = meaning a.register a.value

date_more : (l : List Accepted) (a : Accepted) (d : DateTime) → changed_time (meaning_of a) (date_by l d) ≡ date_by (l ++ (a ∷ [])) d
date_more [] a d = sym (date_same (meaning_of a) d)
date_more (b ∷ l) a d = date_more l a (date_with (meaning_of b) d)

weekday_more : (l : List Accepted) (a : Accepted) (w : ℕ) → changed_weekday (meaning_of a) (weekday_by l w) ≡ weekday_by (l ++ (a ∷ [])) w
weekday_more [] a w = sym (weekday_same (meaning_of a) w)
weekday_more (b ∷ l) a w = weekday_more l a (weekday_with (meaning_of b) w)

seconds_more : (l : List Accepted) (a : Accepted) (k : Clock) (first : ℕ) (i : Instant)
    → (if sets_seconds (meaning_of a) then a.at else begins_at k first (last_seconds l i)) ≡ begins_at k first (last_seconds (l ++ (a ∷ [])) i)
seconds_more [] a k first i = sym (seconds_same (meaning_of a) a.at k first i)
seconds_more (b ∷ l) a k first i = seconds_more l a k first (seconds_with (meaning_of b) b.at i)

within_wider : (l : List Accepted) (lo hi to : ℕ) → hi ≤ to → Within lo hi l → Within lo to l
within_wider [] lo hi to h w = tt
within_wider (a ∷ l) lo hi to h w = (w.0, le_trans w.1 h, within_wider l lo hi to h w.2)

within_more : (l : List Accepted) (lo hi : ℕ) (a : Accepted) → lo ≤ a.at → a.at ≤ hi → Within lo hi l → Within lo hi (l ++ (a ∷ []))
within_more [] lo hi a h k w = (h, k, tt)
within_more (b ∷ l) lo hi a h k w = (w.0, w.1, within_more l lo hi a h k w.2)

noted_more : (l : List Accepted) (a : Accepted) (k : Clock) (first : ℕ) → noted (meaning_of a) (gathered l k first) ≡ gathered (l ++ (a ∷ [])) k first
noted_more l a k first = λ j. record { time = date_more l a (time_at k first) j; weekday = weekday_more l a (weekday_at k first) j }

gathers_more : (l : List Accepted) (a : Accepted) (q : Option PendingTime) (b : ℕ) (k : Clock) → Gathers l q b k
    → Gathers (l ++ (a ∷ [])) (Some (noted (meaning_of a) (found q k a.at))) (if sets_seconds (meaning_of a) then a.at else found_at q b k a.at) k
gathers_more [] a q b k g = (
  ap (λ (x : Option PendingTime). Some (noted (meaning_of a) (found x k a.at))) g ∙ ap Some (noted_more [] a k a.at),
  ap (λ (x : Option PendingTime). if sets_seconds (meaning_of a) then a.at else found_at x b k a.at) g ∙ seconds_more [] a k a.at never,
)
gathers_more (e ∷ l) a q b k g = (
  ap (λ (x : Option PendingTime). Some (noted (meaning_of a) (found x k a.at))) g.0 ∙ ap Some (noted_more (e ∷ l) a k e.at),
  ap₂ (λ (x : Option PendingTime) (y : ℕ). if sets_seconds (meaning_of a) then a.at else found_at x y k a.at) g.0 g.1 ∙ seconds_more (e ∷ l) a k e.at never,
)

-- the last seconds byte's instant is one of them
abbrev UpTo : ℕ → Instant → Type 0
UpTo hi never = Unit {0}
UpTo hi (at t) = t ≤ hi

seconds_up : (m : Meaning) (hi t : ℕ) (i : Instant) → t ≤ hi → UpTo hi i → UpTo hi (seconds_with m t i)
seconds_up undefined hi t i h u = u
seconds_up (sets r n flag) hi t i h u = by (eqb r 0)
  where
    by : (e : Bool) → UpTo hi (if e then at t else i)
    by true = h
    by false = u

last_up : (l : List Accepted) (lo hi : ℕ) (i : Instant) → Within lo hi l → UpTo hi i → UpTo hi (last_seconds l i)
last_up [] lo hi i w u = u
last_up (a ∷ l) lo hi i w u = last_up l lo hi (seconds_with (meaning_of a) a.at i) w.2 (seconds_up (meaning_of a) hi a.at i w.1 u)

-- a weekday stays one
pub weekdays : (l : List Accepted) (w : ℕ) → InWeek w → InWeek (weekday_by l w)
weekdays [] w h = h
weekdays (a ∷ l) w h = weekdays l (weekday_with (meaning_of a) w) (subst InWeek (sym (weekday_same (meaning_of a) w)) (weekday_in (meaning_of a) (meaning_in a.register a.value) w h))

-- ---- a transaction is closed

module _ (k : Clock) (m : Model) (last : ℕ) (w : FollowsClock k m last) (first : ℕ) (h : m.since ≤ first) where
  -- the part second, and where the date holds, by the instant of the last seconds byte
  part_held : (i : Instant) → part_second i first m ≡ holds_at i first - begins_at k first i
  part_held never = part_is k m last w first h ∙ omega arith
  part_held (at t) = omega arith

  base_held : (i : Instant) → begins_at k first i ≤ holds_at i first
  base_held never = omega arith
  base_held (at t) = le_refl t

  held_up : (i : Instant) → first ≤ last → UpTo last i → holds_at i first ≤ last
  held_up never q u = q
  held_up (at t) q u = u

-- the offset that a transaction leaves: its last weekday byte, or without one the model's weekday at its first accepted byte
weekday_carried : (a : Accepted) (l : List Accepted) (m : Model)
    → (closed_by (a ∷ l) m).offset ≡ (let d = date_set (a ∷ l) a.at m in offset_with (day_number d.year d.month d.day) (weekday_by (a ∷ l) (exact_weekday m a.at)))
weekday_carried a l m = refl

clock_closed : (k : Clock) (m : Model) (last : ℕ) → FollowsClock k m last → (a : Accepted) (l : List Accepted) → Within m.since last (a ∷ l)
    → TimeIn (date_by (a ∷ l) (time_at k a.at))
    → FollowsClock (clock_from (gathered (a ∷ l) k a.at) (begun (a ∷ l) k a.at)) (closed_by (a ∷ l) m) last
clock_closed k m last w a l i v =
    let d = date_by (a ∷ l) (time_at k a.at) in
    let s : date_set (a ∷ l) a.at m ≡ nearest d = ap (λ (n : ℕ). clamped (date_by (a ∷ l) (time_of n))) (whole_is k m last w a.at i.0) ∙ sym (clamp_same d v) in
    let x : exact_weekday m a.at ≡ weekday_at k a.at = weekday_is k m last w a.at i.0 in
    record {
      offset =
          weekday_carried a l m ∙ ap₂ (λ (z : DateTime) (y : ℕ). offset_with (day_number z.year z.month z.day) (weekday_by (a ∷ l) y)) s x
          ∙ offset_same _ _ (weekdays (a ∷ l) (weekday_at k a.at) (weekday_shown k a.at));
      count = ap₂ (λ (z : DateTime) (y : ℕ). seconds_of z * nanos + y) s (part_held k m last w a.at i.0 (last_seconds (a ∷ l) never));
      base = base_held k m last w a.at i.0 (last_seconds (a ∷ l) never);
      since = held_up k m last w a.at i.0 (last_seconds (a ∷ l) never) i.1 (last_up (a ∷ l) m.since last never i tt);
    }

-- the clock of a commit
commit_clock : (c : Timing) (q : Option PendingTime) (b : ℕ) → c.pending ≡ q → c.pending_at ≡ b → (commit c).clock ≡ committed_clock q b c.clock
commit_clock c q b e r = ap₂ (λ (x : Option PendingTime) (y : ℕ). committed_clock x y c.clock) e r

follow_close : (c : Timing) (m : Model) (last : ℕ) → TimingIn c → Follows c m last → (l : List Accepted) → m.accepted ≡ l → Gathers l c.pending c.pending_at c.clock → Within m.since last l
    → Follows (commit c) (closed_by l m) last
follow_close c m last o w [] e g i =
    record {
      stage = w.stage;
      pointer = w.pointer;
      mode = w.mode;
      latched = w.latched;
      clock = subst (λ (k : Clock). FollowsClock k m last) (sym (commit_clock c None c.pending_at g refl)) w.clock;
      gathers = subst (λ (x : List Accepted). Gathers x None c.pending_at (commit c).clock) (sym e) refl;
      within = w.within;
    }
follow_close c m last o w (a ∷ l) e g i =
    record {
      stage = w.stage;
      pointer = w.pointer;
      mode = w.mode;
      latched = w.latched;
      clock =
          subst (λ (k : Clock). FollowsClock k (closed_by (a ∷ l) m) last) (sym (commit_clock c (Some (gathered (a ∷ l) c.clock a.at)) (begun (a ∷ l) c.clock a.at) g.0 g.1))
          (clock_closed c.clock m last w.clock a l i (subst HasPending g.0 o.pending).time);
      gathers = refl;
      within = tt;
    }

pub follow_commit : (c : Timing) (m : Model) (last : ℕ) → TimingIn c → Follows c m last → Follows (commit c) (closed m) last
follow_commit c m last o w = follow_close c m last o w m.accepted refl w.gathers w.within

-- ---- the other steps

-- the same clock and count, at a model that differs elsewhere
clock_kept : (k : Clock) (m n : Model) (last : ℕ) → n.offset ≡ m.offset → n.count ≡ m.count → n.since ≡ m.since → FollowsClock k m last → FollowsClock k n last
clock_kept k m n last p q r w = record { offset = p ∙ w.offset; count = omega arith; base = omega arith; since = omega arith }

-- time goes on
pub follow_later : (c : Timing) (m : Model) (last t : ℕ) → last ≤ t → Follows c m last → Follows c m t
follow_later c m last t h w =
    record {
      stage = w.stage;
      pointer = w.pointer;
      mode = w.mode;
      latched = w.latched;
      clock = record { offset = w.clock.offset; count = w.clock.count; base = w.clock.base; since = le_trans w.clock.since h };
      gathers = w.gathers;
      within = within_wider m.accepted m.since last t h w.within;
    }

pub follow_latch : (c : Timing) (m : Model) (t : ℕ) → Follows c m t → Follows (latch t c) (latching t m) t
follow_latch c m t w =
    record {
      stage = w.stage;
      pointer = w.pointer;
      mode = w.mode;
      latched = λ j. time_bytes (time_of (whole_is c.clock m t w.clock t w.clock.since j)) (weekday_is c.clock m t w.clock t w.clock.since j) (w.mode j);
      clock = clock_kept c.clock m (latching t m) t refl refl refl w.clock;
      gathers = w.gathers;
      within = w.within;
    }

pub follow_phase : (p : Phase) (s : Stage) → s ≡ stage_of p → (c : Timing) (m : Model) (last : ℕ) → Follows c m last → Follows (in_phase p c) (standing s m) last
follow_phase p s e c m last w =
    record {
      stage = e;
      pointer = w.pointer;
      mode = w.mode;
      latched = w.latched;
      clock = clock_kept c.clock m (standing s m) last refl refl refl w.clock;
      gathers = w.gathers;
      within = w.within;
    }

follow_point : (q : ℕ) (r : Register) → q ≡ number_of r → (c : Timing) (m : Model) (last : ℕ) → Follows c m last → Follows (pointed r c) (pointing q m) last
follow_point q r e c m last w =
    record {
      stage = w.stage;
      pointer = e;
      mode = w.mode;
      latched = w.latched;
      clock = clock_kept c.clock m (pointing q m) last refl refl refl w.clock;
      gathers = w.gathers;
      within = w.within;
    }

-- a byte at a register, accepted or not
gathers_by : (m : Meaning) (a : Accepted) → meaning_of a ≡ m → (l : List Accepted) (q : Option PendingTime) (b : ℕ) (k : Clock) → Gathers l q b k
    → Gathers (keeps m a l) (if is_defined m then Some (noted m (found q k a.at)) else q)
    (if is_defined m then (if sets_seconds m then a.at else found_at q b k a.at) else b) k
gathers_by undefined a e l q b k g = g
gathers_by (sets r n flag) a e l q b k g =
    subst (λ (x : Meaning). Gathers (l ++ (a ∷ [])) (Some (noted x (found q k a.at))) (if sets_seconds x then a.at else found_at q b k a.at) k) e (gathers_more l a q b k g)

within_by : (m : Meaning) (l : List Accepted) (lo hi : ℕ) (a : Accepted) → lo ≤ a.at → a.at ≤ hi → Within lo hi l → Within lo hi (keeps m a l)
within_by undefined l lo hi a h k w = w
within_by (sets r n flag) l lo hi a h k w = within_more l lo hi a h k w

follow_accept : (r b t : ℕ) (c : Timing) (m : Model) → Follows c m t → Follows (accept (meaning r b) t c) (keeping r b t m) t
follow_accept r b t c m w =
    let a : Accepted = record { register = r; value = b; at = t } in
    record {
      stage = w.stage;
      pointer = w.pointer;
      mode = mode_same (meaning r b) m.twelve ∙ ap (changed_mode (meaning r b)) w.mode;
      latched = w.latched;
      clock = clock_kept c.clock m (keeping r b t m) t refl refl refl w.clock;
      gathers = gathers_by (meaning r b) a refl m.accepted c.pending c.pending_at c.clock w.gathers;
      within = within_by (meaning r b) m.accepted m.since t a w.clock.since (le_refl t) w.within;
    }

-- ---- the events

follow_write : (p : Phase) (b t : ℕ) (c : Ds3231) (m : Model) → Follows c.timing m t → Follows (written p b t c).timing (write_in (stage_of p) b t m) t
follow_write Released b t c m w = w
follow_write Reading b t c m w = w
follow_write Ignoring b t c m w = w
follow_write Pointer b t c m w =
    let k = c.timing in
    by_name (λ (d : Option Register) (x : Bool). Follows (pointed_by d c.timing) (if x then standing writes (pointing b m) else standing drops m) t) b
    (λ r e. follow_phase Writing writes refl (pointed r k) (pointing b m) t (follow_point b r (sym e) k m t w)) (follow_phase Ignoring drops refl k m t w)
follow_write Writing b t c m w =
    let r = c.timing.pointer in
    let n = number_of r in
    subst (λ (x : ℕ). Follows (written Writing b t c).timing (pointing (moved_pointer x) (keeping x b t m)) t) (sym w.pointer)
    (follow_point (moved_pointer n) (next_pointer r) (next_moved r) (accept (meaning n b) t c.timing) (keeping n b t m) t (follow_accept n b t c.timing m w))

follow_read : (p : Phase) (t : ℕ) (c : Ds3231) (m : Model) → Follows c.timing m t → Follows (has_read p t c).timing (read_in (stage_of p) t m) t
follow_read Released t c m w = w
follow_read Pointer t c m w = w
follow_read Writing t c m w = w
follow_read Ignoring t c m w = w
follow_read Reading t c m w =
    let k = c.timing in
    let r = k.pointer in
    subst (λ (x : ℕ). Follows (has_read Reading t c).timing (if leb 0x12 x then latching t (pointing 0 m) else pointing (x + 1) m) t) (sym w.pointer)
    (wrapping (λ (x : Bool). let d = pointed (next_pointer r) k in Follows (if x then latch t d else d) (if x then latching t (pointing 0 m) else pointing (number_of r + 1) m) t) r
    (λ e. follow_latch (pointed (next_pointer r) k) (pointing 0 m) t (follow_point 0 (next_pointer r) (sym e) k m t w)) (λ e. follow_point _ (next_pointer r) (sym e) k m t w))

-- START latches what the clock shows there, once the transaction is closed
pub start_latches : (a : ℕ) (r : Bool) (t : ℕ) (c : Ds3231) → (step (Start a r t) c).timing.latched ≡ shown_at (commit c.timing) t
start_latches a r t c = refl

pub event_follows : (e : Event) (c : Ds3231) (m : Model) → TimingIn c.timing → Follows c.timing m (instant e) → Follows (step e c).timing (fed e m) (instant e)
event_follows (Start a r t) c m o w =
    follow_phase (phase_for a r) _ (stage_addressed a r) (latch t (commit c.timing)) (latching t (closed m)) t (follow_latch (commit c.timing) (closed m) t (follow_commit c.timing m t o w))
event_follows (Write b t) c m o w =
    subst (λ (s : Stage). Follows (written c.timing.phase b t c).timing (write_in s b t m) t) (sym w.stage) (follow_write c.timing.phase b t c m w)
event_follows (Read k t) c m o w =
    subst (λ (s : Stage). Follows (has_read c.timing.phase t c).timing (read_in s t m) t) (sym w.stage) (follow_read c.timing.phase t c m w)
event_follows (Stop t) c m o w = follow_phase Released unaddressed refl (commit c.timing) (closed m) t (follow_commit c.timing m t o w)
