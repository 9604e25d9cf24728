-- The model stands where the chip does, whatever the instants: the same stage of the transaction and the same pointer.
-- Assumes nothing.
use Prim.Native.Nat.{ℕ, ◌+◌, ◌≤◌}
use mathlib.Core.Bool.{Bool, true, false, ◌&&◌}
use mathlib.Core.List.{List, [], ◌∷◌}
use mathlib.Core.Path.{◌≡◌, refl, sym, ap, ◌∙◌, subst}
use borrow.Author.Tests.{le-leb, lt-leb}
use lib.Dec.{leb, eqb}
use Rattle.std.specs.Prelude.{if◌then◌else◌, Option, Some, None}
use Rattle.ds3231.specs.Map.{number_of, Names, named}
use Rattle.ds3231.specs.Timing.{latch, pointed, pointed_by, phase_for}
use Rattle.ds3231.specs.Changed.{next_pointer}
use Rattle.ds3231.specs.Calls.{written, has_read, step}
use Rattle.ds3231.specs.Model.{Stage, unaddressed, awaits_pointer, writes, drops, reads, Accepted, Model, closed_by, latching, standing, pointing, moved_pointer, write_in, is_reads, stage_for, fed}
use Rattle.ds3231.specs.Types.{Register}
use Rattle.ds3231.specs.declared.Phase.{Phase}
use Rattle.ds3231.specs.declared.Phase.TheVariants.{Released, Pointer, Writing, Reading, Ignoring}
use Rattle.ds3231.specs.declared.Timing.{Timing}
use Rattle.ds3231.specs.declared.Ds3231.{Ds3231}
use Rattle.ds3231.specs.declared.Event.{Event}
use Rattle.ds3231.specs.declared.Event.TheVariants.{Start, Write, Read, Stop}
use Rattle.ds3231.proofs.Map.{number_below, named_names, next_moved, wrapping}

abbrev pub stage_of : Phase → Stage
stage_of Released = unaddressed
stage_of Pointer = awaits_pointer
stage_of Writing = writes
stage_of Reading = reads
stage_of Ignoring = drops

pub record Place (c : Timing) (m : Model) : Type 0 where
  pub stage : m.stage ≡ stage_of c.phase
  pub pointer : m.pointer ≡ number_of c.pointer

pub stage_addressed : (a : ℕ) (r : Bool) → stage_for a r ≡ stage_of (phase_for a r)
stage_addressed a r = by (eqb a 0x68) r
  where
    by : (e r : Bool) → (if e then (if r then reads else awaits_pointer) else unaddressed) ≡ stage_of (if e then (if r then Reading else Pointer) else Released)
    by true true = refl
    by true false = refl
    by false r = refl

-- closing a transaction moves neither
pub closed_stage : (l : List Accepted) (m : Model) → (closed_by l m).stage ≡ m.stage
closed_stage [] m = refl
closed_stage (a ∷ l) m = refl

pub closed_pointer : (l : List Accepted) (m : Model) → (closed_by l m).pointer ≡ m.pointer
closed_pointer [] m = refl
closed_pointer (a ∷ l) m = refl

-- the pointer byte names a register where it is at most 0x12
pub by_name : (P : Option Register → Bool → Type 0) (b : ℕ) → ((r : Register) → number_of r ≡ b → P (Some r) true) → P None false → P (named b) (leb b 0x12)
by_name P b f g = by (named b) (named_names b)
  where
    by : (d : Option Register) → Names b d → P d (leb b 0x12)
    by (Some r) e = subst (P (Some r)) (sym (le-leb b 0x12 (subst (λ (n : ℕ). n ≤ 0x12) e (number_below r)))) (f r e)
    by None h = subst (P None) (sym (lt-leb b 0x12 h)) g

write_place : (p : Phase) (b t : ℕ) (c : Ds3231) (m : Model) → Place c.timing m → Place (written p b t c).timing (write_in (stage_of p) b t m)
write_place Released b t c m w = w
write_place Reading b t c m w = w
write_place Ignoring b t c m w = w
write_place Pointer b t c m w =
    by_name (λ (d : Option Register) (x : Bool). Place (pointed_by d c.timing) (if x then standing writes (pointing b m) else standing drops m)) b
    (λ r e. record { stage = refl; pointer = sym e }) (record { stage = refl; pointer = w.pointer })
write_place Writing b t c m w = record { stage = w.stage; pointer = ap moved_pointer w.pointer ∙ next_moved c.timing.pointer }

-- a READ in a stage
abbrev pub read_in : Stage → ℕ → Model → Model
read_in s t m = if is_reads s && leb 0x12 m.pointer then latching t (pointing 0 m) else if is_reads s then pointing (m.pointer + 1) m else m

read_place : (p : Phase) (t : ℕ) (c : Ds3231) (m : Model) → Place c.timing m → Place (has_read p t c).timing (read_in (stage_of p) t m)
read_place Released t c m w = w
read_place Pointer t c m w = w
read_place Writing t c m w = w
read_place Ignoring t c m w = w
read_place Reading t c m w =
    let r = c.timing.pointer in
    subst (λ (x : ℕ). Place (has_read Reading t c).timing (if leb 0x12 x then latching t (pointing 0 m) else pointing (x + 1) m)) (sym w.pointer)
    (wrapping (λ (x : Bool). let d = pointed (next_pointer r) c.timing in Place (if x then latch t d else d) (if x then latching t (pointing 0 m) else pointing (number_of r + 1) m)) r
    (λ e. record { stage = w.stage; pointer = sym e }) (λ e. record { stage = w.stage; pointer = sym e }))

pub event_place : (e : Event) (c : Ds3231) (m : Model) → Place c.timing m → Place (step e c).timing (fed e m)
event_place (Start a r t) c m w = record { stage = stage_addressed a r; pointer = closed_pointer m.accepted m ∙ w.pointer }
event_place (Write b t) c m w =
    subst (λ (s : Stage). Place (written c.timing.phase b t c).timing (write_in s b t m)) (sym w.stage) (write_place c.timing.phase b t c m w)
event_place (Read k t) c m w =
    subst (λ (s : Stage). Place (has_read c.timing.phase t c).timing (read_in s t m)) (sym w.stage) (read_place c.timing.phase t c m w)
event_place (Stop t) c m w = record { stage = refl; pointer = closed_pointer m.accepted m ∙ w.pointer }
