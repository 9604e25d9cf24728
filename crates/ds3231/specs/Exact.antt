-- The exact time, 'Shown time and exact time' of document 01: no bus events whose instants never fall can, from power-on, put the shown time a whole second from the exact count of nanoseconds. One claim about any list of calls, refused ones included. Assumes nothing.
use Rattle.computed.specs.Prelude.{ℕ, Bool, true, false, List, [], eqb, length, At}
use Rattle.std.specs.Prelude.{◌+◌, ◌*◌, ◌≤◌, ◌<◌, ◌∷◌, ◌++◌, ◌≡◌, if◌then◌else◌}
use Rattle.refusals.specs.Numbered.{Numbered, accepted, refused}
use Rattle.calendar.specs.Stated.{InRange, seconds_of}
use Rattle.calendar.specs.declared.DateTime.{DateTime}
use Rattle.diagnostics.specs.declared.I2cDiagnostic.{I2cDiagnostic}
use Rattle.ds3231.specs.Numbers.{nanos}
use Rattle.ds3231.specs.Calls.{Answered, replied, Call, bus, taking, chip_by, power_on, now_answer, register_answer, verdict, chip_after, answer}
use Rattle.ds3231.specs.Model.{Model, reads, exact, wraps, fed, model_on}
use Rattle.ds3231.specs.Types.{Ds3231, Ds3231Config, Event, Start, Write, Read, Stop, Byte}

-- 'The table of refusals': a refused call is no event. The events among calls, without their stores
abbrev pub events_by : Numbered (Unit {0}) → Call → List Event → List Event
events_by (refused n vs) k es = es
events_by (accepted u) (bus s e) es = e ∷ es
events_by (accepted u) (taking s o) es = es

abbrev pub events : Ds3231 → List Call → List Event
events c [] = []
events c (k ∷ ks) = events_by (verdict k c) k (events (chip_after k c) ks)

-- the bus calls that are lent 256 records
abbrev pub fully_lent : List Call → List Event
fully_lent [] = []
fully_lent (bus s e ∷ ks) = if eqb (length s) 256 then e ∷ fully_lent ks else fully_lent ks
fully_lent (taking s o ∷ ks) = fully_lent ks

-- the model after events
abbrev pub model_after : Model → List Event → Model
model_after m [] = m
model_after m (e ∷ es) = model_after (fed e m) es

-- the instant of an event; instants that never fall, from one on; the last of them
abbrev pub instant : Event → ℕ
instant (Start a r t) = t
instant (Write b t) = t
instant (Read k t) = t
instant (Stop t) = t

abbrev pub NeverFall : ℕ → List Event → Type 0
NeverFall t [] = Unit {0}
NeverFall t (e ∷ es) = (t ≤ instant e) × NeverFall (instant e) es

abbrev pub last_instant : ℕ → List Event → ℕ
last_instant t [] = t
last_instant t (e ∷ es) = last_instant (instant e) es

-- the chip under calls, the model that is fed their events, and the chip and instant of the mark: right after the latest START, or a later pointer wrap made by a READ, which the model tells
pub record Watched : Type 0 where
  pub chip : Ds3231
  pub model : Model
  pub marked : Ds3231
  pub at : ℕ

abbrev pub marks : Event → Model → Bool
marks (Start a r t) m = true
marks (Write b t) m = false
marks (Read k t) m = wraps m
marks (Stop t) m = false

-- after a call with its verdict, and after a list of calls
abbrev pub watched_by : Numbered (Unit {0}) → Call → Watched → Watched
watched_by (refused n vs) k w = w
watched_by (accepted u) (taking s o) w = record { chip = chip_by (taking s o) w.chip; model = w.model; marked = w.marked; at = w.at }
watched_by (accepted u) (bus s e) w =
    let after = chip_by (bus s e) w.chip in
    let m = marks e w.model in
    record { chip = after; model = fed e w.model; marked = if m then after else w.marked; at = if m then instant e else w.at }

abbrev pub watched : Watched → List Call → Watched
watched w [] = w
watched w (k ∷ ks) = watched (watched_by (verdict k w.chip) k w) ks

-- 'Shown time and exact time': `now`'s date and the exact count. The date is valid, its seconds at most the count and less than a second below it
pub record Shows (d : DateTime) (count : ℕ) : Type 0 where
  pub valid : InRange d
  pub at_most : seconds_of d * nanos ≤ count
  pub within : count < seconds_of d * nanos + nanos

-- ---- the claim, from a power-on f that gave the chip c₀
module _ (f : Ds3231Config) (c₀ : Ds3231) where
  abbrev pub after : List Call → Watched
  after calls = watched (record { chip = c₀; model = model_on f; marked = c₀; at = 0 }) calls

  -- a READ of the time: not refused, it finds the model addressed for reading and at 0x00 to 0x06
  pub record TimeRead (calls : List Call) : Type 0 where
    pub before : List Call
    pub store : List I2cDiagnostic
    pub acknowledged : Bool
    pub at : ℕ
    pub later : List Call
    pub among : calls ≡ before ++ (bus store (Read acknowledged at) ∷ later)
    pub not_refused : verdict (bus store (Read acknowledged at)) (after before).chip ≡ accepted tt
    pub reading : (after before).model.stage ≡ reads
    pub at_time : (after before).model.pointer ≤ 0x06

  abbrev pub answer_to : (calls : List Call) → TimeRead calls → Numbered Answered
  answer_to calls r = answer (bus r.store (Read r.acknowledged r.at)) (after r.before).chip

  -- 'Shown time and exact time': one claim about the whole list, not one per call
  pub record Holds (calls : List Call) : Type 0 where
    -- the events are the bus calls that are lent 256 records, and the model is fed these alone
    pub feed : events c₀ calls ≡ fully_lent calls
    pub fed_alone : (after calls).model ≡ model_after (model_on f) (fully_lent calls)
    -- a READ of the time answers what `register` answers at the mark
    pub answers_register : (r : TimeRead calls) → let w = after r.before in
        (b : ℕ) × (answer_to calls r ≡ accepted (replied (Byte b))) × (register_answer w.marked w.model.pointer w.at ≡ accepted b)
    -- if the instants never fall: that is the model's latched byte, the entry at its pointer
    pub answers_model : NeverFall 0 (events c₀ calls) → (r : TimeRead calls) → let m = (after r.before).model in
        (b : ℕ) × (answer_to calls r ≡ accepted (replied (Byte b))) × At m.latched m.pointer b
    -- and the chip's latched bytes are the model's
    pub latches : NeverFall 0 (events c₀ calls) → (after calls).chip.timing.latched ≡ (after calls).model.latched
    -- and `now` shows the exact count at any instant from the last event on
    pub shows : NeverFall 0 (events c₀ calls) → (t : ℕ) → last_instant 0 (events c₀ calls) ≤ t
        → (d : DateTime) × (now_answer (after calls).chip t ≡ accepted d) × Shows d (exact (after calls).model t)

abbrev pub ExactTime : Type 0
ExactTime = (f : Ds3231Config) (c₀ : Ds3231) → power_on f ≡ accepted c₀ → (calls : List Call) → Holds f c₀ calls
