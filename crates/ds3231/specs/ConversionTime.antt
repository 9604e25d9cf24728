-- Order 2 of document 02: a conversion time per panel. Conversions by the bus events alone, from their starts and not from the end that the chip keeps; what a write means, from that end; and what is claimed, `ConversionTime`. Assumes nothing.
use Rattle.computed.specs.Prelude.{ℕ, Bool, true, false, not, List, [], min, leb, ltb, eqb, length, bit_and, bit_or, ℤ}
use Rattle.std.specs.Prelude.{◌+◌, ◌&&◌, ◌∷◌, ◌≡◌, if◌then◌else◌, Option, Some, None}
use Rattle.refusals.specs.Numbered.{accepted, refused}
use Rattle.calendar.specs.Stated.{checked}
use Rattle.diagnostics.specs.declared.I2cDiagnostic.{I2cDiagnostic}
use Rattle.ds3231.specs.Types.{Registers, Ds3231, Ds3231Config, Control, Status, Event, Start, Write, Read, Stop, Byte}
use Rattle.ds3231.specs.Registers.{converting, byte_at, registers_written}
use Rattle.ds3231.specs.Calls.{in_quarters, sound, chip_on, default_config, power_on, now_answer, dropped_answer, register_answer, replied, Call, bus, lent_store, lent_out, chip_after, store_after, out_after, answer}
use Rattle.ds3231.specs.Model.{Stage, unaddressed, awaits_pointer, writes, drops, reads, Model, fed, model_on}
use Rattle.ds3231.specs.Exact.{fully_lent, model_after}
use Rattle.ds3231.specs.Total.{chip_after_all}

-- ---- 'Register bytes' of control and status, with n for its 200,000,000 nanoseconds

-- a byte b written to register r: control keeps the byte without bit 5; status after a write is (status & byte & 0x83) | (byte & 0x08)
abbrev pub control_after : (r b kept : ℕ) → ℕ
control_after r b kept = if eqb r 0x0E then bit_and b 0xDF else kept

abbrev pub status_after : (r b kept : ℕ) → ℕ
status_after r b kept = if eqb r 0x0F then bit_or (bit_and (bit_and kept b) 0x83) (bit_and b 0x08) else kept

-- bit 5 of control set while not converting starts a conversion
abbrev pub starts : (r b : ℕ) → (runs : Bool) → Bool
starts r b runs = eqb r 0x0E && (not (eqb (bit_and b 0x20) 0) && not runs)

-- a conversion runs while the instant is below start plus n, that sum saturating
abbrev pub end_of : (n start : ℕ) → ℕ
end_of n start = min (start + n) 0xFFFF_FFFF_FFFF_FFFF

-- while a conversion runs, control bit 5 and status bit 2 read set
abbrev pub reads_with : (bit kept : ℕ) → (runs : Bool) → ℕ
reads_with bit kept runs = bit_or kept (if runs then bit else 0)

-- ---- conversions by the bus events alone, each of n nanoseconds

-- control without bit 5, status without bit 2, and the start of the last conversion, if there was one
pub record Conversions : Type 0 where
  pub control : ℕ
  pub status : ℕ
  pub start : Option ℕ

-- also at an instant below the start, since instants may fall
abbrev pub runs_for : (n : ℕ) → Option ℕ → ℕ → Bool
runs_for n (Some start) t = ltb t (end_of n start)
runs_for n None t = false

abbrev pub control_byte : (n : ℕ) → Conversions → ℕ → ℕ
control_byte n v t = reads_with 0x20 v.control (runs_for n v.start t)

abbrev pub status_byte : (n : ℕ) → Conversions → ℕ → ℕ
status_byte n v t = reads_with 0x04 v.status (runs_for n v.start t)

-- a byte b written at t to register r
abbrev pub written_at : (n r b t : ℕ) → Conversions → Conversions
written_at n r b t v = record {
  control = control_after r b v.control;
  status = status_after r b v.status;
  start = if starts r b (runs_for n v.start t) then Some t else v.start;
}

-- 'Acknowledgements': the byte goes to the register of the pointer where the model of the exact time stands in `writes`, and elsewhere to none
abbrev pub written_in : Stage → (n r b t : ℕ) → Conversions → Conversions
written_in writes n r b t v = written_at n r b t v
written_in unaddressed n r b t v = v
written_in awaits_pointer n r b t v = v
written_in drops n r b t v = v
written_in reads n r b t v = v

abbrev pub after_event : (n : ℕ) → Model → Event → Conversions → Conversions
after_event n m (Start a r t) v = v
after_event n m (Write b t) v = written_in m.stage n m.pointer b t v
after_event n m (Read k t) v = v
after_event n m (Stop t) v = v

abbrev pub after_events : (n : ℕ) → Model → List Event → Conversions → Conversions
after_events n m [] v = v
after_events n m (e ∷ es) v = after_events n (fed e m) es (after_event n m e v)

-- 'Register bytes': power-on has control 0x1C, status 0x08, or 0x88 where the oscillator had stopped
abbrev pub conversions_on : Ds3231Config → Conversions
conversions_on f = record { control = 0x1C; status = if f.oscillator_stopped then 0x88 else 0x08; start = None }

-- ---- after calls on the chip c₀ of a power-on f: conversions of n nanoseconds
module _ (n : ℕ) (f : Ds3231Config) (c₀ : Ds3231) (calls : List Call) where
  -- made by the bus calls that are lent 256 records: from power-on these are the ones not refused (`feed` of Exact.antt)
  abbrev pub conversions : Conversions
  conversions = after_events n (model_on f) (fully_lent calls) (conversions_on f)

  abbrev pub model_then : Model
  model_then = model_after (model_on f) (fully_lent calls)

  abbrev pub chip_then : Ds3231
  chip_then = chip_after_all c₀ calls

  -- whatever the instants of the events, at every instant t: whether a conversion runs, and what `register` and a bus READ answer of control and status
  pub record Converts : Type 0 where
    pub runs : (t : ℕ) → converting chip_then.registers t ≡ runs_for n conversions.start t
    pub register_control : (t : ℕ) → register_answer chip_then 0x0E t ≡ accepted (control_byte n conversions t)
    pub register_status : (t : ℕ) → register_answer chip_then 0x0F t ≡ accepted (status_byte n conversions t)
    pub bus_control : (s : List I2cDiagnostic) (k : Bool) (t : ℕ) → length s ≡ 256 → model_then.stage ≡ reads → model_then.pointer ≡ 0x0E
        → answer (bus s (Read k t)) chip_then ≡ accepted (replied (Byte (control_byte n conversions t)))
    pub bus_status : (s : List I2cDiagnostic) (k : Bool) (t : ℕ) → length s ≡ 256 → model_then.stage ≡ reads → model_then.pointer ≡ 0x0F
        → answer (bus s (Read k t)) chip_then ≡ accepted (replied (Byte (status_byte n conversions t)))

-- ---- a byte b written at t to register r, of registers whose conversions last n nanoseconds

-- an instant below the end that is kept, if one is
abbrev pub below_end : Option ℕ → ℕ → Bool
below_end (Some end) t = ltb t end
below_end None t = false

-- the end that is kept once b is written: a conversion under way keeps its own, whatever bit 5
abbrev pub end_after : (n r b t : ℕ) → Registers → Option ℕ
end_after n r b t g = if starts r b (below_end g.conversion_end t) then Some (end_of n t) else g.conversion_end

-- then, at the instant u: whether a conversion runs, control and status, by the end that is kept
pub record AfterWrite (n : ℕ) (g : Registers) (r b t u : ℕ) : Type 0 where
  pub runs : converting (registers_written r b t g) u ≡ below_end (end_after n r b t g) u
  pub control : (time : List ℕ) → byte_at time (registers_written r b t g) Control u ≡ reads_with 0x20 (control_after r b g.control) (below_end (end_after n r b t g) u)
  pub status : (time : List ℕ) → byte_at time (registers_written r b t g) Status u ≡ reads_with 0x04 (status_after r b g.status) (below_end (end_after n r b t g) u)

-- ---- what is claimed

-- 125,000,000 to 200,000,000, both ends legal
abbrev pub legal : ℕ → Bool
legal n = leb 125_000_000 n && leb n 200_000_000

-- power-on by its checks of start, quarters and conversion time: 22 comes after 7, and 7 after 1 to 6
pub record PowersOn (f : Ds3231Config) : Type 0 where
  pub start_first : (number : ℕ) (values : List ℤ) → checked f.start ≡ refused number values → power_on f ≡ refused number values
  pub then_quarters : checked f.start ≡ accepted tt → in_quarters f.temperature_quarters ≡ false → power_on f ≡ refused 7 (f.temperature_quarters ∷ [])
  pub then_time : checked f.start ≡ accepted tt → in_quarters f.temperature_quarters ≡ true → legal f.conversion_nanos ≡ false → power_on f ≡ refused 22 []
  pub gives_chip : checked f.start ≡ accepted tt → in_quarters f.temperature_quarters ≡ true → legal f.conversion_nanos ≡ true → power_on f ≡ accepted (chip_on f)

-- every call on the chip c gives 10, and leaves chip, store and output
pub record Gives10 (c : Ds3231) : Type 0 where
  pub answers : (k : Call) → answer k c ≡ refused 10 []
  pub chip : (k : Call) → chip_after k c ≡ c
  pub store : (k : Call) → store_after k c ≡ lent_store k
  pub out : (k : Call) → out_after k c ≡ lent_out k
  pub asked_time : (t : ℕ) → now_answer c t ≡ refused 10 []
  pub asked_register : (r t : ℕ) → register_answer c r t ≡ refused 10 []
  pub asked_dropped : dropped_answer c ≡ refused 10 []

-- the chip c with the conversion time n, all else the same
abbrev pub with_time : ℕ → Ds3231 → Ds3231
with_time n c = record {
  timing = c.timing;
  registers = let g = c.registers in record {
    alarms = g.alarms;
    control = g.control;
    status = g.status;
    conversion_end = g.conversion_end;
    conversion_nanos = n;
    aging = g.aging;
    temperature_quarters = g.temperature_quarters;
    int_sqw_reported = g.int_sqw_reported;
  };
  diagnostics = c.diagnostics;
}

pub record ConversionTime : Type 0 where
  pub powers_on : (f : Ds3231Config) → PowersOn f
  -- power-on takes the time, and 'the chip keeps it': any chip, whatever is called
  pub taken : (f : Ds3231Config) → (chip_on f).registers.conversion_nanos ≡ f.conversion_nanos
  pub kept : (c : Ds3231) (calls : List Call) → (chip_after_all c calls).registers.conversion_nanos ≡ c.registers.conversion_nanos
  -- 'what converting means changes for control, status and every caller': after any calls from power-on, conversions of its time
  pub means : (f : Ds3231Config) (c₀ : Ds3231) → power_on f ≡ accepted c₀ → (calls : List Call) → Converts f.conversion_nanos f c₀ calls
  -- and after any write to registers of any chip, sound or not, at any instant
  pub any_write : (g : Registers) (r b t u : ℕ) → AfterWrite g.conversion_nanos g r b t u
  -- '`clockrun` and the host's run keep 200,000,000, where all answers are those of the Rust': with this time any write means what document 01 says; their power-on has it, and is not refused
  pub as_document_01 : (g : Registers) → g.conversion_nanos ≡ 200_000_000 → (r b t u : ℕ) → AfterWrite 200_000_000 g r b t u
  pub of_a_script : default_config.conversion_nanos ≡ 200_000_000
  pub script_powers_on : power_on default_config ≡ accepted (chip_on default_config)
  -- 'a sound chip also has this number in range': given another time, a sound chip is sound exactly where that is legal
  pub bound : (c : Ds3231) → sound c ≡ true → (n : ℕ) → sound (with_time n c) ≡ legal n
  -- any chip with a time that is not legal gives 10 to every call
  pub out_of_range : (c : Ds3231) → legal c.registers.conversion_nanos ≡ false → Gives10 c
