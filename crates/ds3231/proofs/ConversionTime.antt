-- The claim of `ConversionTime`, proved: the events, then the calls.
-- Assumes nothing.
use Prim.Native.Nat.{ℕ}
use mathlib.Core.Bool.{Bool, true, false}
use mathlib.Core.List.{List, [], ◌∷◌}
use mathlib.Core.Path.{◌≡◌, refl, sym, ap, ap₂, ◌∙◌, subst}
use lib.ListN.{length}
use Rattle.std.specs.Prelude.{if◌then◌else◌, Option, Some, None}
use Rattle.refusals.specs.Numbered.{Numbered, accepted, refused, and_then, unless}
use Rattle.diagnostics.specs.declared.I2cDiagnostic.{I2cDiagnostic}
use Rattle.ds3231.specs.Timing.{shown_at}
use Rattle.ds3231.specs.Registers.{runs_at, converting, byte_at, registers_written}
use Rattle.ds3231.specs.Map.{number_of}
use Rattle.ds3231.specs.Calls.{sound, chip_on, power_on, written, has_read, step, replied, answered_by, store_by, out_by, lent_store, lent_out, chip_after, Call, bus, taking, verdict, chip_by, answer}
use Rattle.ds3231.specs.Model.{Stage, reads, Model, fed, model_on}
use Rattle.ds3231.specs.Exact.{events_by, events, model_after}
use Rattle.ds3231.specs.Total.{chip_after_all}
use Rattle.ds3231.specs.ConversionTime.{control_after, status_after, starts, end_of, reads_with, Conversions, runs_for, written_at, written_in, after_event, after_events, conversions_on, control_byte, status_byte, conversions, model_then, Converts, below_end, end_after, AfterWrite, legal, Gives10, with_time, ConversionTime}
use Rattle.ds3231.specs.declared.Phase.{Phase}
use Rattle.ds3231.specs.declared.Phase.TheVariants.{Released, Pointer, Writing, Reading, Ignoring}
use Rattle.ds3231.specs.Types.{Register, Control, Status}
use Rattle.ds3231.specs.declared.Registers.{Registers}
use Rattle.ds3231.specs.declared.Ds3231.{Ds3231}
use Rattle.ds3231.specs.declared.Ds3231Config.{Ds3231Config}
use Rattle.ds3231.specs.declared.Event.{Event}
use Rattle.ds3231.specs.declared.Event.TheVariants.{Start, Write, Read, Stop}
use Rattle.ds3231.specs.declared.Reply.TheVariants.{Byte}
use Rattle.ds3231.proofs.Written.{Left, left}
use Rattle.ds3231.proofs.Map.{number_one}
use Rattle.ds3231.proofs.Facts.{ConfigIn, Sound, same_test, sound_test, sound_fact}
use Rattle.ds3231.proofs.Sounds.{sound_run, time_taken, on_sound}
use Rattle.ds3231.proofs.PowersOn.{times_legal, powers, default_on, on_chip}
use Rattle.ds3231.proofs.ExactTime.{verdict_by, verdict_is, feed_run, read_answer, reading_phase, register_answer_lem}
use Rattle.ds3231.proofs.Places.{stage_of, Place, event_place}

-- ---- the events

-- the end of a conversion of n nanoseconds by its start
abbrev end_for : (n : ℕ) → Option ℕ → Option ℕ
end_for n (Some s) = Some (end_of n s)
end_for n None = None

runs_same : (n : ℕ) (s : Option ℕ) (t : ℕ) → runs_at (end_for n s) t ≡ runs_for n s t
runs_same n (Some s) t = refl
runs_same n None t = refl

-- registers with the conversion time n, and conversions of n nanoseconds
record Agree (n : ℕ) (g : Registers) (v : Conversions) : Type 0 where
  pub control : g.control ≡ v.control
  pub status : g.status ≡ v.status
  pub end : g.conversion_end ≡ end_for n v.start
  pub time : g.conversion_nanos ≡ n

write_agrees : (n r b t : ℕ) (g x : Registers) (v : Conversions) → Agree n g v → Left r b t g x → Agree n x (written_at n r b t v)
write_agrees n r b t g x v a l =
    let w : converting g t ≡ runs_for n v.start t = ap (λ (e : Option ℕ). runs_at e t) a.end ∙ runs_same n v.start t in
    record {
      control = l.control ∙ ap (control_after r b) a.control;
      status = l.status ∙ ap (status_after r b) a.status;
      end = l.end ∙ rw (w, a.end, a.time) (by (starts r b (runs_for n v.start t)));
      time = l.time ∙ a.time;
    }
  where
    by : (d : Bool) → (if d then Some (end_of n t) else end_for n v.start) ≡ end_for n (if d then Some t else v.start)
    by true = refl
    by false = refl

write_in_agrees : (n : ℕ) (p : Phase) (b t : ℕ) (c : Ds3231) (v : Conversions) → Agree n c.registers v
    → Agree n (written p b t c).registers (written_in (stage_of p) n (number_of c.timing.pointer) b t v)
write_in_agrees n Released b t c v a = a
write_in_agrees n Reading b t c v a = a
write_in_agrees n Ignoring b t c v a = a
write_in_agrees n Pointer b t c v a = a
write_in_agrees n Writing b t c v a = write_agrees n _ b t c.registers _ v a (left (number_of c.timing.pointer) b t c.registers)

read_leaves : (p : Phase) (t : ℕ) (c : Ds3231) → (has_read p t c).registers ≡ c.registers
read_leaves Released t c = refl
read_leaves Pointer t c = refl
read_leaves Writing t c = refl
read_leaves Ignoring t c = refl
read_leaves Reading t c = refl

event_agrees : (n : ℕ) (e : Event) (c : Ds3231) (m : Model) (v : Conversions) → Place c.timing m → Agree n c.registers v → Agree n (step e c).registers (after_event n m e v)
event_agrees n (Start d r t) c m v p a = a
event_agrees n (Write b t) c m v p a =
    subst (λ (s : Stage). Agree n (written c.timing.phase b t c).registers (written_in s n m.pointer b t v)) (sym p.stage)
    (subst (λ (r : ℕ). Agree n (written c.timing.phase b t c).registers (written_in (stage_of c.timing.phase) n r b t v)) (sym p.pointer)
    (write_in_agrees n c.timing.phase b t c v a))
event_agrees n (Read k t) c m v p a = subst (λ (g : Registers). Agree n g v) (sym (read_leaves c.timing.phase t c)) a
event_agrees n (Stop t) c m v p a = a

-- ---- the calls

-- a chip after calls, and what the events among them make
record Made (n : ℕ) (c : Ds3231) (m : Model) (v : Conversions) : Type 0 where
  pub place : Place c.timing m
  pub agree : Agree n c.registers v

-- after the events es
abbrev MadeBy : (n : ℕ) → Ds3231 → Model → Conversions → List Event → Type 0
MadeBy n c m v es = Made n c (model_after m es) (after_events n m es v)

made_next : (n : ℕ) (w : Numbered (Unit {0})) (k : Call) (ks : List Call) (c : Ds3231) (m : Model) (v : Conversions) → Made n c m v
    → ((d : Ds3231) (m : Model) (v : Conversions) → Made n d m v → MadeBy n (chip_after_all d ks) m v (events d ks))
    → let d = unless w (chip_by k c) c in MadeBy n (chip_after_all d ks) m v (events_by w k (events d ks))
made_next n (refused x vs) k ks c m v h rest = rest c m v h
made_next n (accepted u) (bus s e) ks c m v h rest =
    rest (chip_by (bus s e) c) (fed e m) (after_event n m e v) (record { place = event_place e c m h.place; agree = event_agrees n e c m v h.place h.agree })
made_next n (accepted u) (taking s o) ks c m v h rest = rest (chip_by (taking s o) c) m v (record { place = h.place; agree = h.agree })

made_run : (n : ℕ) (ks : List Call) (c : Ds3231) (m : Model) (v : Conversions) → Made n c m v → MadeBy n (chip_after_all c ks) m v (events c ks)
made_run n [] c m v h = h
made_run n (k ∷ ks) c m v h = made_next n (verdict k c) k ks c m v h (λ d m v. made_run n ks d m v)

-- ---- control and status of a chip

module _ (f : Ds3231Config) (i : ConfigIn f) (calls : List Call) where
  abbrev nanos : ℕ
  nanos = f.conversion_nanos

  abbrev chip : Ds3231
  chip = chip_after_all (chip_on f) calls

  abbrev model_here : Model
  model_here = model_then nanos f (chip_on f) calls

  abbrev made_then : Conversions
  made_then = conversions nanos f (chip_on f) calls

  sound_then : Sound chip
  sound_then = sound_fact chip (sound_run calls (chip_on f) (sound_test (chip_on f) (on_sound f i)))

  made : Made nanos chip model_here made_then
  made =
      subst (MadeBy nanos chip (model_on f) (conversions_on f)) (feed_run calls (chip_on f) (on_sound f i))
      (made_run nanos calls (chip_on f) (model_on f) (conversions_on f)
      (record { place = record { stage = refl; pointer = refl }; agree = record { control = refl; status = refl; end = refl; time = refl } }))

  runs_then : (t : ℕ) → converting chip.registers t ≡ runs_for nanos made_then.start t
  runs_then t = ap (λ (e : Option ℕ). runs_at e t) made.agree.end ∙ runs_same nanos made_then.start t

  control_same : (time : List ℕ) (t : ℕ) → byte_at time chip.registers Control t ≡ control_byte nanos made_then t
  control_same time t = ap₂ (reads_with 0x20) made.agree.control (runs_then t)

  status_same : (time : List ℕ) (t : ℕ) → byte_at time chip.registers Status t ≡ status_byte nanos made_then t
  status_same time t = ap₂ (reads_with 0x04) made.agree.status (runs_then t)

  -- a READ of the register r, which the model stands at
  read_then : (r : Register) (b : ℕ) (s : List I2cDiagnostic) (k : Bool) (t : ℕ) → byte_at chip.timing.latched chip.registers r t ≡ b → length s ≡ 256
      → model_here.stage ≡ reads → model_here.pointer ≡ number_of r → answer (bus s (Read k t)) chip ≡ accepted (replied (Byte b))
  read_then r b s k t w l e p =
      read_answer s k t chip (verdict_is (bus s (Read k t)) chip sound_then ∙ rw l refl) (reading_phase chip.timing.phase (sym made.place.stage ∙ e))
      ∙ ap (λ (x : Register). accepted (replied (Byte (byte_at chip.timing.latched chip.registers x t)))) (number_one chip.timing.pointer r (sym made.place.pointer ∙ p))
      ∙ ap (λ (x : ℕ). accepted (replied (Byte x))) w

  converts : Converts nanos f (chip_on f) calls
  converts =
      record {
        runs = runs_then;
        register_control = λ t. register_answer_lem chip Control 0x0E t sound_then refl ∙ ap accepted (control_same (shown_at chip.timing t) t);
        register_status = λ t. register_answer_lem chip Status 0x0F t sound_then refl ∙ ap accepted (status_same (shown_at chip.timing t) t);
        bus_control = λ s k t. read_then Control _ s k t (control_same chip.timing.latched t);
        bus_status = λ s k t. read_then Status _ s k t (status_same chip.timing.latched t);
      }

-- ---- registers of any chip, after any write

below_same : (e : Option ℕ) (t : ℕ) → runs_at e t ≡ below_end e t
below_same (Some e) t = refl
below_same None t = refl

after_write : (g : Registers) (r b t u : ℕ) → AfterWrite g.conversion_nanos g r b t u
after_write g r b t u =
    let l = left r b t g in
    let z : (registers_written r b t g).conversion_end ≡ end_after g.conversion_nanos r b t g = l.end ∙ rw (below_same g.conversion_end t) refl in
    let w = ap (λ (x : Option ℕ). runs_at x u) z ∙ below_same _ u in
    record { runs = w; control = λ time. ap₂ (reads_with 0x20) l.control w; status = λ time. ap₂ (reads_with 0x04) l.status w }

-- ---- any chip keeps its time

abbrev Keeps : Ds3231 → Registers → Type 0
Keeps c g = g.conversion_nanos ≡ c.registers.conversion_nanos

write_keeps : (p : Phase) (b t : ℕ) (c : Ds3231) → Keeps c (written p b t c).registers
write_keeps Released b t c = refl
write_keeps Reading b t c = refl
write_keeps Ignoring b t c = refl
write_keeps Pointer b t c = refl
write_keeps Writing b t c = (left (number_of c.timing.pointer) b t c.registers).time

call_keeps : (k : Call) (c : Ds3231) → Keeps c (chip_by k c).registers
call_keeps (bus s (Start a r t)) c = refl
call_keeps (bus s (Write b t)) c = write_keeps c.timing.phase b t c
call_keeps (bus s (Read k t)) c = ap (λ (g : Registers). g.conversion_nanos) (read_leaves c.timing.phase t c)
call_keeps (bus s (Stop t)) c = refl
call_keeps (taking s o) c = refl

after_keeps : (v : Numbered (Unit {0})) (k : Call) (c : Ds3231) → Keeps c (unless v (chip_by k c) c).registers
after_keeps (accepted u) k c = call_keeps k c
after_keeps (refused n vs) k c = refl

keeps_time : (c : Ds3231) (calls : List Call) → Keeps c (chip_after_all c calls).registers
keeps_time c [] = refl
keeps_time c (k ∷ ks) = keeps_time (chip_after k c) ks ∙ after_keeps (verdict k c) k c

-- ---- chips that are not sound

bounded : (c : Ds3231) → sound c ≡ true → (n : ℕ) → sound (with_time n c) ≡ legal n
bounded c e n =
    let h = sound_fact c e in
    let g = h.registers in
    same_test _ _ (λ w. sym (times_legal n) ∙ (sound_fact (with_time n c) w).registers.conversion) (λ w. sound_test (with_time n c) (record {
      timing = h.timing;
      registers = record { quarters = g.quarters; control = g.control; status = g.status; conversion = times_legal n ∙ w };
      waiting = h.waiting;
    }))

not_sound : (c : Ds3231) → legal c.registers.conversion_nanos ≡ false → sound c ≡ false
not_sound c e = by (sound c) refl
  where
    by : (b : Bool) → sound c ≡ b → b ≡ false
    by true p = sym (sound_fact c p).registers.conversion ∙ (times_legal _ ∙ e)
    by false p = refl

pub gives_10 : (c : Ds3231) → sound c ≡ false → Gives10 c
gives_10 c e =
    record {
      answers = λ k. ap (λ (v : Numbered (Unit {0})). and_then v (accepted (answered_by k c))) (verdict_by k c false e);
      chip = λ k. ap (λ (v : Numbered (Unit {0})). unless v (chip_by k c) c) (verdict_by k c false e);
      store = λ k. ap (λ (v : Numbered (Unit {0})). unless v (store_by k c) (lent_store k)) (verdict_by k c false e);
      out = λ k. ap (λ (v : Numbered (Unit {0})). unless v (out_by k c) (lent_out k)) (verdict_by k c false e);
      asked_time = λ t. rw e refl;
      asked_register = λ r t. rw e refl;
      asked_dropped = rw e refl;
    }

-- ---- the claim

means : (f : Ds3231Config) (c₀ : Ds3231) → power_on f ≡ accepted c₀ → (calls : List Call) → Converts f.conversion_nanos f c₀ calls
means f c₀ e calls = on_chip (λ (d : Ds3231). Converts f.conversion_nanos f d calls) f c₀ e (λ i. converts f i calls)

pub conversion_time : ConversionTime
conversion_time =
    record {
      powers_on = powers;
      taken = time_taken;
      kept = keeps_time;
      means = means;
      any_write = after_write;
      as_document_01 = λ g e r b t u. subst (λ (n : ℕ). AfterWrite n g r b t u) e (after_write g r b t u);
      of_a_script = refl;
      script_powers_on = default_on;
      bound = bounded;
      out_of_range = λ c e. gives_10 c (not_sound c e);
    }
