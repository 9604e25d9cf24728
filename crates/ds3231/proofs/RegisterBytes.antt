-- The byte of a time register is the entry of the time's bytes at its number, that of an alarm register the entry of the alarm bytes at its number less 7.
-- Assumes nothing.
use Prim.Native.Nat.{ℕ, ◌-◌, ◌≤◌}
use mathlib.Core.List.{List}
use mathlib.Core.Path.{◌≡◌, refl, sym, subst}
use native.Mathlib.Omega.{arith}
use lib.ListN.{length}
use Rattle.computed.specs.Entries.{At, entry}
use Rattle.computed.proofs.Entries.{entry_at}
use Rattle.ds3231.specs.Types.{Registers, Register, Seconds, Minutes, Hours, Weekday, Date, Month, Year, Alarm1Seconds, Alarm1Minutes, Alarm1Hours, Alarm1Day, Alarm2Minutes, Alarm2Hours, Alarm2Day, Control, Status, Aging, TemperatureMsb, TemperatureLsb}
use Rattle.ds3231.specs.Map.{number_of}
use Rattle.ds3231.specs.Registers.{byte_at}

module _ (time : List ℕ) (g : Registers) (t : ℕ) where
  pub record LookedUp (r : Register) : Type 0 where
    pub time_byte : number_of r ≤ 0x06 → byte_at time g r t ≡ entry time (number_of r)
    pub alarm_byte : 0x07 ≤ number_of r → number_of r ≤ 0x0D → byte_at time g r t ≡ entry g.alarms (number_of r - 7)

  pub looked_up : (r : Register) → LookedUp r
  looked_up Seconds = record { time_byte = λ h. refl; alarm_byte = λ p q. absurd (omega arith) }
  looked_up Minutes = record { time_byte = λ h. refl; alarm_byte = λ p q. absurd (omega arith) }
  looked_up Hours = record { time_byte = λ h. refl; alarm_byte = λ p q. absurd (omega arith) }
  looked_up Weekday = record { time_byte = λ h. refl; alarm_byte = λ p q. absurd (omega arith) }
  looked_up Date = record { time_byte = λ h. refl; alarm_byte = λ p q. absurd (omega arith) }
  looked_up Month = record { time_byte = λ h. refl; alarm_byte = λ p q. absurd (omega arith) }
  looked_up Year = record { time_byte = λ h. refl; alarm_byte = λ p q. absurd (omega arith) }
  looked_up Alarm1Seconds = record { time_byte = λ h. absurd (omega arith); alarm_byte = λ p q. refl }
  looked_up Alarm1Minutes = record { time_byte = λ h. absurd (omega arith); alarm_byte = λ p q. refl }
  looked_up Alarm1Hours = record { time_byte = λ h. absurd (omega arith); alarm_byte = λ p q. refl }
  looked_up Alarm1Day = record { time_byte = λ h. absurd (omega arith); alarm_byte = λ p q. refl }
  looked_up Alarm2Minutes = record { time_byte = λ h. absurd (omega arith); alarm_byte = λ p q. refl }
  looked_up Alarm2Hours = record { time_byte = λ h. absurd (omega arith); alarm_byte = λ p q. refl }
  looked_up Alarm2Day = record { time_byte = λ h. absurd (omega arith); alarm_byte = λ p q. refl }
  looked_up Control = record { time_byte = λ h. absurd (omega arith); alarm_byte = λ p q. absurd (omega arith) }
  looked_up Status = record { time_byte = λ h. absurd (omega arith); alarm_byte = λ p q. absurd (omega arith) }
  looked_up Aging = record { time_byte = λ h. absurd (omega arith); alarm_byte = λ p q. absurd (omega arith) }
  looked_up TemperatureMsb = record { time_byte = λ h. absurd (omega arith); alarm_byte = λ p q. absurd (omega arith) }
  looked_up TemperatureLsb = record { time_byte = λ h. absurd (omega arith); alarm_byte = λ p q. absurd (omega arith) }

  -- no lookup misses
  pub time_entry : length time ≡ 7 → (r : Register) → number_of r ≤ 0x06 → At time (number_of r) (byte_at time g r t)
  time_entry l r h = subst (At time (number_of r)) (sym ((looked_up r).time_byte h)) (entry_at time (number_of r) (omega arith))

  pub alarm_entry : length g.alarms ≡ 7 → (r : Register) → 0x07 ≤ number_of r → number_of r ≤ 0x0D → At g.alarms (number_of r - 7) (byte_at time g r t)
  alarm_entry l r p q = subst (At g.alarms (number_of r - 7)) (sym ((looked_up r).alarm_byte p q)) (entry_at g.alarms (number_of r - 7) (omega arith))
