-- The claim of `Exact`, proved.
-- Assumes nothing.
use Prim.Native.Nat.{ℕ, ◌+◌, ◌%◌, ◌≤◌}
use mathlib.Core.Bool.{Bool, true, false, not, ◌&&◌}
use mathlib.Core.List.{List, [], ◌∷◌, ◌++◌}
use mathlib.Core.Path.{◌≡◌, refl, sym, ap, ap₂, ◌∙◌, subst}
use native.Mathlib.Nat.{le_trans}
use native.Mathlib.Omega.{arith}
use lib.Dec.{leb, eqb}
use lib.ListN.{length}
use Rattle.refusals.specs.Numbered.{Numbered, accepted, refused, and_then, unless}
use Rattle.std.specs.Prelude.{if◌then◌else◌, Option, Some, None}
use Rattle.computed.specs.Entries.{At, entry}
use Rattle.computed.proofs.Choice.{chosen}
use Rattle.calendar.specs.Stated.{InRange, seconds_of}
use Rattle.calendar.proofs.Laws.{time_in_range, seconds_of_time, weekday_formula}
use Rattle.fields.proofs.Laws.{seven_bytes}
use Rattle.diagnostics.specs.declared.I2cDiagnostic.{I2cDiagnostic}
use Rattle.ds3231.specs.Clock.{seconds_at}
use Rattle.ds3231.specs.Map.{number_of, named}
use Rattle.ds3231.specs.Changed.{offset_for, next_pointer}
use Rattle.ds3231.specs.Timing.{shown_at, latch, pointed, pointed_by}
use Rattle.ds3231.specs.Registers.{byte_at}
use Rattle.ds3231.specs.Calls.{sound, timing_on, chip_on, power_on, shown_time, register_byte, register_answer, written, has_read, step, step_chip, replied, Call, bus, taking, lent_store, too_short, verdict, chip_by, chip_after, answered_by, answer}
use Rattle.ds3231.specs.Model.{Stage, reads, Model, is_reads, model_on}
use Rattle.ds3231.specs.Exact.{events_by, events, fully_lent, model_after, instant, NeverFall, last_instant, Watched, marks, watched_by, watched, after, TimeRead, answer_to, Holds, ExactTime}
use Rattle.ds3231.specs.Total.{chip_after_all}
use Rattle.ds3231.specs.Types.{Register}
use Rattle.ds3231.specs.declared.Phase.{Phase}
use Rattle.ds3231.specs.declared.Phase.TheVariants.{Released, Pointer, Writing, Reading, Ignoring}
use Rattle.ds3231.specs.declared.Timing.{Timing}
use Rattle.ds3231.specs.declared.Ds3231.{Ds3231}
use Rattle.ds3231.specs.declared.Event.{Event}
use Rattle.ds3231.specs.declared.Event.TheVariants.{Start, Write, Read, Stop}
use Rattle.ds3231.specs.declared.Reply.TheVariants.{Byte}
use Rattle.ds3231.specs.declared.Ds3231Config.{Ds3231Config}
use Rattle.ds3231.proofs.Facts.{ConfigIn, Sound, sound_test}
use Rattle.ds3231.proofs.Bytes.{seconds_in}
use Rattle.ds3231.proofs.Sounds.{call_sound, after_sound, on_sound}
use Rattle.ds3231.proofs.PowersOn.{on_chip}
use Rattle.ds3231.proofs.Map.{names_one}
use Rattle.ds3231.proofs.RegisterBytes.{looked_up, time_entry}
use Rattle.ds3231.proofs.NeverRefused.{asked}
use Rattle.ds3231.proofs.Places.{stage_of, Place, event_place}
use Rattle.ds3231.proofs.Follows.{Follows, exact_is, follow_later, follow_latch, start_latches, event_follows}

-- ---- the events are the bus calls that are lent 256 records

-- the verdict, by whether the chip is sound
abbrev verdict_of : Bool → Call → Ds3231 → Numbered (Unit {0})
verdict_of b k c = if not b then refused 10 [] else if not (eqb (length (lent_store k)) 256) then refused 11 [] else if too_short k c then refused 12 [] else accepted tt

pub verdict_by : (k : Call) (c : Ds3231) (b : Bool) → sound c ≡ b → verdict k c ≡ verdict_of b k c
verdict_by k c b e = ap (λ (x : Bool). verdict_of x k c) e

pub verdict_is : (k : Call) (c : Ds3231) → Sound c
    → verdict k c ≡ (if not (eqb (length (lent_store k)) 256) then refused 11 [] else if too_short k c then refused 12 [] else accepted tt)
verdict_is k c h = verdict_by k c true (sound_test c h)

bus_feed : (lent : Bool) (s : List I2cDiagnostic) (e : Event) (es : List Event)
    → events_by (if not lent then refused 11 [] else accepted tt) (bus s e) es ≡ (if lent then e ∷ es else es)
bus_feed true s e es = refl
bus_feed false s e es = refl

taking_feed : (v : Numbered (Unit {0})) (s o : List I2cDiagnostic) (es : List Event) → events_by v (taking s o) es ≡ es
taking_feed (accepted u) s o es = refl
taking_feed (refused n vs) s o es = refl

pub feed_run : (ks : List Call) (c : Ds3231) → Sound c → events c ks ≡ fully_lent ks
feed_run [] c h = refl
feed_run (bus s e ∷ ks) c h =
    ap₂ (λ (v : Numbered (Unit {0})) (es : List Event). events_by v (bus s e) es) (verdict_is (bus s e) c h)
    (feed_run ks (chip_after (bus s e) c) (after_sound (verdict (bus s e) c) (bus s e) c h))
    ∙ bus_feed (eqb (length s) 256) s e (fully_lent ks)
feed_run (taking s o ∷ ks) c h =
    taking_feed (verdict (taking s o) c) s o (events (chip_after (taking s o) c) ks)
    ∙ feed_run ks (chip_after (taking s o) c) (after_sound (verdict (taking s o) c) (taking s o) c h)

-- ---- whatever the instants: the latch is what `register` shows at the mark

-- a chip's latch, and the chip and instant of the mark
abbrev Shown : Timing → Ds3231 → ℕ → Type 0
Shown c d t = c.latched ≡ shown_at d.timing t

write_latch : (p : Phase) (b t : ℕ) (c : Ds3231) → (written p b t c).timing.latched ≡ c.timing.latched
write_latch Released b t c = refl
write_latch Reading b t c = refl
write_latch Ignoring b t c = refl
write_latch Pointer b t c = by (named b)
  where
    by : (d : Option Register) → (pointed_by d c.timing).latched ≡ c.timing.latched
    by (Some r) = refl
    by None = refl
write_latch Writing b t c = refl

-- a read latches where it wraps, as the model tells
read_latch : (p : Phase) (t : ℕ) (c d n : Ds3231) (l : ℕ) → n.timing ≡ (has_read p t c).timing → Shown c.timing d l
    → let b = is_reads (stage_of p) && leb 0x12 (number_of c.timing.pointer) in Shown (has_read p t c).timing (if b then n else d) (if b then t else l)
read_latch Released t c d n l e w = w
read_latch Pointer t c d n l e w = w
read_latch Writing t c d n l e w = w
read_latch Ignoring t c d n l e w = w
read_latch Reading t c d n l e w = by (leb 0x12 (number_of c.timing.pointer)) e
  where
    by : (b : Bool) → n.timing ≡ (if b then latch t (pointed (next_pointer c.timing.pointer) c.timing) else pointed (next_pointer c.timing.pointer) c.timing)
        → Shown (if b then latch t (pointed (next_pointer c.timing.pointer) c.timing) else pointed (next_pointer c.timing.pointer) c.timing) (if b then n else d) (if b then t else l)
    by true q = ap (λ (x : Timing). shown_at x t) (sym q)
    by false q = w

pub record Stands (w : Watched) : Type 0 where
  pub place : Place w.chip.timing w.model
  pub shown : Shown w.chip.timing w.marked w.at
  pub sound_chip : Sound w.chip
  pub sound_mark : Sound w.marked

-- an event
marked : (e : Event) (c d : Ds3231) (m : Model) (l : ℕ) → Place c.timing m → Shown c.timing d l
    → Shown (step e c).timing (if marks e m then step_chip (step e c) c else d) (if marks e m then instant e else l)
marked (Start a r t) c d m l p w = start_latches a r t c
marked (Write b t) c d m l p w = write_latch c.timing.phase b t c ∙ w
marked (Read k t) c d m l p w =
    subst (λ (x : Bool). Shown (has_read c.timing.phase t c).timing (if x then step_chip (step (Read k t) c) c else d) (if x then t else l))
    (sym (ap₂ (λ (s : Stage) (r : ℕ). is_reads s && leb 0x12 r) p.stage p.pointer))
    (read_latch c.timing.phase t c d (step_chip (step (Read k t) c) c) l refl w)
marked (Stop t) c d m l p w = w

-- a call, allowed or refused, and a list of calls
stands_next : (v : Numbered (Unit {0})) (k : Call) (w : Watched) → Stands w → Stands (watched_by v k w)
stands_next (refused n vs) k w s = s
stands_next (accepted u) (bus l e) w s =
    let h = call_sound (bus l e) w.chip s.sound_chip in
    record {
      place = event_place e w.chip w.model s.place;
      shown = marked e w.chip w.marked w.model w.at s.place s.shown;
      sound_chip = h;
      sound_mark = chosen Sound (marks e w.model) (λ b. h) (λ b. s.sound_mark);
    }
stands_next (accepted u) (taking l o) w s = record { place = s.place; shown = s.shown; sound_chip = call_sound (taking l o) w.chip s.sound_chip; sound_mark = s.sound_mark }

stands_run : (ks : List Call) (w : Watched) → Stands w → Stands (watched w ks)
stands_run [] w s = s
stands_run (k ∷ ks) w s = stands_run ks (watched_by (verdict k w.chip) k w) (stands_next (verdict k w.chip) k w s)

-- ---- while the instants never fall: the timing follows the model

-- what is left to show after a call
abbrev FollowsRun : List Call → Watched → ℕ → Type 0
FollowsRun ks w t = Sound w.chip → Follows w.chip.timing w.model t → NeverFall t (events w.chip ks)
    → Follows (watched w ks).chip.timing (watched w ks).model (last_instant t (events w.chip ks))

follows_next : (v : Numbered (Unit {0})) (k : Call) (ks : List Call) (w : Watched) (t₀ : ℕ) → Sound w.chip → Follows w.chip.timing w.model t₀
    → ((x : Watched) (t : ℕ) → FollowsRun ks x t)
    → let es = events_by v k (events (unless v (chip_by k w.chip) w.chip) ks) in
    NeverFall t₀ es → Follows (watched (watched_by v k w) ks).chip.timing (watched (watched_by v k w) ks).model (last_instant t₀ es)
follows_next (refused n vs) k ks w t₀ h s rest f = rest w t₀ h s f
follows_next (accepted u) (bus l e) ks w t₀ h s rest f =
    rest (watched_by (accepted u) (bus l e) w) (instant e) (call_sound (bus l e) w.chip h)
    (event_follows e w.chip w.model h.timing (follow_later w.chip.timing w.model t₀ (instant e) f.0 s)) f.1
follows_next (accepted u) (taking l o) ks w t₀ h s rest f = rest (watched_by (accepted u) (taking l o) w) t₀ (call_sound (taking l o) w.chip h) s f

follows_run : (ks : List Call) (w : Watched) (t : ℕ) → FollowsRun ks w t
follows_run [] w t h s f = s
follows_run (k ∷ ks) w t h s f = follows_next (verdict k w.chip) k ks w t h s (λ x u. follows_run ks x u) f

-- the model is fed the events
fed_next : (v : Numbered (Unit {0})) (k : Call) (ks : List Call) (w : Watched) → ((x : Watched) → (watched x ks).model ≡ model_after x.model (events x.chip ks))
    → (watched (watched_by v k w) ks).model ≡ model_after w.model (events_by v k (events (unless v (chip_by k w.chip) w.chip) ks))
fed_next (refused n vs) k ks w rest = rest w
fed_next (accepted u) (bus l e) ks w rest = rest (watched_by (accepted u) (bus l e) w)
fed_next (accepted u) (taking l o) ks w rest = rest (watched_by (accepted u) (taking l o) w)

fed_events : (ks : List Call) (w : Watched) → (watched w ks).model ≡ model_after w.model (events w.chip ks)
fed_events [] w = refl
fed_events (k ∷ ks) w = fed_next (verdict k w.chip) k ks w (λ x. fed_events ks x)

-- ---- the calls before a READ

never_prefix : (xs ys : List Event) (t : ℕ) → NeverFall t (xs ++ ys) → NeverFall t xs
never_prefix [] ys t h = tt
never_prefix (x ∷ xs) ys t h = (h.0, never_prefix xs ys (instant x) h.1)

events_by_lem : (v : Numbered (Unit {0})) (k : Call) (xs ys : List Event) → events_by v k (xs ++ ys) ≡ events_by v k xs ++ ys
events_by_lem (refused n vs) k xs ys = refl
events_by_lem (accepted u) (bus s e) xs ys = refl
events_by_lem (accepted u) (taking s o) xs ys = refl

events_append : (xs ys : List Call) (c : Ds3231) → events c (xs ++ ys) ≡ events c xs ++ events (chip_after_all c xs) ys
events_append [] ys c = refl
events_append (k ∷ xs) ys c =
    ap (events_by (verdict k c) k) (events_append xs ys (chip_after k c)) ∙ events_by_lem (verdict k c) k (events (chip_after k c) xs) (events (chip_after_all (chip_after k c) xs) ys)

-- ---- power-on

power_offset : (d w : ℕ) → w ≡ (d + 5) % 7 + 1 → 5 ≡ offset_for w d
unfolding offset_for
power_offset d w e = omega arith

on_follows : (f : Ds3231Config) → Follows (timing_on f) (model_on f) 0
on_follows f =
    follow_latch _ _ 0 (record {
      stage = refl;
      pointer = refl;
      mode = refl;
      latched = same [];
      clock = record { offset = power_offset _ _ (weekday_formula f.start); count = omega arith; base = omega arith; since = omega arith };
      gathers = refl;
      within = tt;
    })
  where
    same : (l : List ℕ) → l ≡ l
    same l = refl

-- document 01, 'Register bytes': power-on sets the offset to 5
pub power_on_offset : (f : Ds3231Config) (c₀ : Ds3231) → power_on f ≡ accepted c₀ → c₀.timing.clock.weekday_offset ≡ 5
power_on_offset f c₀ e = on_chip (λ (c : Ds3231). c.timing.clock.weekday_offset ≡ 5) f c₀ e (λ i. sym (power_offset _ _ (weekday_formula f.start)))

-- ---- the claim

-- what a READ answers, once the chip is known to be addressed for reading
pub read_answer : (s : List I2cDiagnostic) (k : Bool) (t : ℕ) (c : Ds3231) → verdict (bus s (Read k t)) c ≡ accepted tt → c.timing.phase ≡ Reading
    → answer (bus s (Read k t)) c ≡ accepted (replied (Byte (byte_at c.timing.latched c.registers c.timing.pointer t)))
read_answer s k t c v p =
    ap (λ (x : Numbered (Unit {0})). and_then x (accepted (answered_by (bus s (Read k t)) c))) v
    ∙ ap (λ (x : Phase). accepted (replied (has_read x t c).reply)) p

-- the model stands in `reads` where the chip is addressed for reading
pub reading_phase : (p : Phase) → stage_of p ≡ reads → p ≡ Reading
reading_phase Reading e = refl
reading_phase Released e = cc
reading_phase Pointer e = cc
reading_phase Writing e = cc
reading_phase Ignoring e = cc

-- what `register` answers at the number of a register of a sound chip
pub register_answer_lem : (c : Ds3231) (r : Register) (n t : ℕ) → Sound c → n ≡ number_of r → register_answer c n t ≡ accepted (byte_at (shown_at c.timing t) c.registers r t)
register_answer_lem c r n t w e = asked c (register_byte (named n) c t) (sound_test c w) ∙ ap (λ (d : Option Register). register_byte d c t) (names_one n (Some r) (sym e))

-- what `now` shows is valid, and its seconds are the clock's
shown_valid : (c : Ds3231) (t : ℕ) → InRange (shown_time c t)
shown_valid c t = time_in_range (seconds_at c.timing.clock t) (seconds_in c.timing.clock t)

shown_seconds : (c : Ds3231) (t : ℕ) → seconds_of (shown_time c t) ≡ seconds_at c.timing.clock t
shown_seconds c t = seconds_of_time (seconds_at c.timing.clock t)

module _ (f : Ds3231Config) (i : ConfigIn f) where
  abbrev c₀ : Ds3231
  c₀ = chip_on f

  abbrev watched_on : Watched
  watched_on = record { chip = c₀; model = model_on f; marked = c₀; at = 0 }

  stands : (calls : List Call) → Stands (after f c₀ calls)
  stands calls = stands_run calls watched_on (record { place = record { stage = refl; pointer = refl }; shown = refl; sound_chip = on_sound f i; sound_mark = on_sound f i })

  follows : (calls : List Call) → NeverFall 0 (events c₀ calls) → Follows (after f c₀ calls).chip.timing (after f c₀ calls).model (last_instant 0 (events c₀ calls))
  follows calls h = follows_run calls watched_on 0 (on_sound f i) (on_follows f) h

  never_before : (calls before more : List Call) → calls ≡ before ++ more → NeverFall 0 (events c₀ calls) → NeverFall 0 (events c₀ before)
  never_before calls before more e h =
      never_prefix (events c₀ before) (events (chip_after_all c₀ before) more) 0 (subst (NeverFall 0) (ap (events c₀) e ∙ events_append before more c₀) h)

  -- what a READ of the time answers, and that its register is one of the time
  answers : (calls : List Call) (r : TimeRead f c₀ calls) → let c = (after f c₀ r.before).chip in
      answer_to f c₀ calls r ≡ accepted (replied (Byte (byte_at c.timing.latched c.registers c.timing.pointer r.at)))
  answers calls r =
      let c = (after f c₀ r.before).chip in
      read_answer r.store r.acknowledged r.at c r.not_refused (reading_phase c.timing.phase (sym (stands r.before).place.stage ∙ r.reading))

  time_register : (calls : List Call) (r : TimeRead f c₀ calls) → number_of (after f c₀ r.before).chip.timing.pointer ≤ 0x06
  time_register calls r = subst (λ (x : ℕ). x ≤ 0x06) (stands r.before).place.pointer r.at_time

  holds : (calls : List Call) → Holds f c₀ calls
  holds calls =
      record {
        feed = feed_run calls c₀ (on_sound f i);
        fed_alone = fed_events calls watched_on ∙ ap (model_after (model_on f)) (feed_run calls c₀ (on_sound f i));
        answers_register = λ r.
            let w = after f c₀ r.before in
            let s = stands r.before in
            let c = w.chip in
            let p = c.timing.pointer in
            let h = time_register calls r in (
              byte_at c.timing.latched c.registers p r.at,
              answers calls r,
              register_answer_lem w.marked p w.model.pointer w.at s.sound_mark s.place.pointer
                  ∙ ap accepted ((looked_up (shown_at w.marked.timing w.at) w.marked.registers w.at p).time_byte h
                  ∙ ap (λ (l : List ℕ). entry l (number_of p)) (sym s.shown) ∙ sym ((looked_up c.timing.latched c.registers r.at p).time_byte h)),
            );
        answers_model = λ h r.
            let w = follows r.before (never_before calls r.before (bus r.store (Read r.acknowledged r.at) ∷ r.later) r.among h) in
            let c = (after f c₀ r.before).chip in
            let l = c.timing.latched in (
              byte_at l c.registers c.timing.pointer r.at,
              answers calls r,
              subst (λ (x : ℕ). At (after f c₀ r.before).model.latched x (byte_at l c.registers c.timing.pointer r.at)) (sym w.pointer)
                  (subst (λ (x : List ℕ). At x (number_of c.timing.pointer) (byte_at l c.registers c.timing.pointer r.at)) (sym w.latched)
                  (time_entry l c.registers r.at (ap length (stands r.before).shown ∙ seven_bytes _ _ _) c.timing.pointer (time_register calls r))),
            );
        latches = λ h. sym (follows calls h).latched;
        shows = λ h t g.
            let c = (after f c₀ calls).chip in
            let w = (follows calls h).clock in
            let x = exact_is c.timing.clock (after f c₀ calls).model (last_instant 0 (events c₀ calls)) w t (le_trans w.since g) in
            let y = shown_seconds c t in (
              shown_time c t,
              ap (λ (b : Bool). and_then (if b then accepted tt else refused 10 []) (accepted (shown_time c t))) (sound_test c (stands calls).sound_chip),
              record { valid = shown_valid c t; at_most = omega arith; within = omega arith },
            );
      }

-- the chip after any calls is sound
pub after_power_on : (f : Ds3231Config) (c₀ : Ds3231) → power_on f ≡ accepted c₀ → (calls : List Call) → Sound (after f c₀ calls).chip
after_power_on f c₀ e calls = on_chip (λ (c : Ds3231). Sound (after f c calls).chip) f c₀ e (λ i. (stands f i calls).sound_chip)

-- while the instants never fall its timing follows the model
pub follows_after : (f : Ds3231Config) (c₀ : Ds3231) → power_on f ≡ accepted c₀ → (calls : List Call) → NeverFall 0 (events c₀ calls)
    → Follows (after f c₀ calls).chip.timing (after f c₀ calls).model (last_instant 0 (events c₀ calls))
follows_after f c₀ e calls =
    on_chip (λ (c : Ds3231). NeverFall 0 (events c calls) → Follows (after f c calls).chip.timing (after f c calls).model (last_instant 0 (events c calls))) f c₀ e (λ i. follows f i calls)

pub exact_time : ExactTime
exact_time f c₀ e calls = on_chip (λ (c : Ds3231). Holds f c calls) f c₀ e (λ i. holds f i calls)
