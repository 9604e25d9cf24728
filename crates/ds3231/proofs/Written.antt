-- What a byte written to a register leaves of control, status and the conversions.
-- Assumes nothing.
use Prim.Native.Nat.{ℕ, ◌-◌}
use mathlib.Core.Bool.{true, false, ◌&&◌}
use mathlib.Core.Path.{◌≡◌, refl}
use native.Mathlib.Omega.{arith}
use borrow.Author.Tests.{leb-true, eqb-true}
use lib.Dec.{leb, eqb}
use Rattle.std.proofs.lemmas.Bool.{ne_eqb}
use Rattle.std.specs.Prelude.{if◌then◌else◌, Some}
use Rattle.computed.proofs.Choice.{chosen, both}
use Rattle.ds3231.specs.Registers.{converting, alarm_written, control_written, status_written, registers_written}
use Rattle.ds3231.specs.ConversionTime.{control_after, status_after, starts, end_of}
use Rattle.ds3231.specs.declared.Registers.{Registers}

-- control, status, the last conversion's end, the conversion time and the quarters that a byte b written at t to register r leaves
pub record Left (r b t : ℕ) (g x : Registers) : Type 0 where
  pub control : x.control ≡ control_after r b g.control
  pub status : x.status ≡ status_after r b g.status
  pub end : x.conversion_end ≡ (if starts r b (converting g t) then Some (end_of g.conversion_nanos t) else g.conversion_end)
  pub time : x.conversion_nanos ≡ g.conversion_nanos
  pub quarters : x.temperature_quarters ≡ g.temperature_quarters

module _ (r b t : ℕ) (g : Registers) where
  -- a write that leaves these as they are
  elsewhere : (x : Registers) → eqb r 0x0E ≡ false → eqb r 0x0F ≡ false → x.control ≡ g.control → x.status ≡ g.status → x.conversion_end ≡ g.conversion_end
      → x.conversion_nanos ≡ g.conversion_nanos → x.temperature_quarters ≡ g.temperature_quarters → Left r b t g x
  elsewhere x p q c s e n u = record { control = rw (p, c) refl; status = rw (q, s) refl; end = rw (p, e) refl; time = n; quarters = u }

  at_control : eqb r 0x0E ≡ true → Left r b t g (control_written b t g)
  at_control p = record { control = rw p refl; status = rw (eqb-true r 0x0E p) refl; end = rw p refl; time = refl; quarters = refl }

  at_status : eqb r 0x0E ≡ false → eqb r 0x0F ≡ true → Left r b t g (status_written b g)
  at_status p q = record { control = rw p refl; status = rw q refl; end = rw p refl; time = refl; quarters = refl }

  at_alarm : leb r 0x0D ≡ true → Left r b t g (alarm_written (r - 7) b g)
  at_alarm e =
      let h = leb-true r 0x0D e in
      elsewhere _ (ne_eqb r 0x0E (omega (arith, h))) (ne_eqb r 0x0F (omega (arith, h))) refl refl refl refl refl

  pub left : Left r b t g (registers_written r b t g)
  left =
      let P = Left r b t g in
      chosen P (leb 0x07 r && leb r 0x0D) (λ e. at_alarm (both _ (leb r 0x0D) e).1)
      (λ e. chosen P (eqb r 0x0E) at_control
      (λ p. chosen P (eqb r 0x0F) (at_status p)
      (λ q. chosen P (eqb r 0x10) (λ w. elsewhere _ p q refl refl refl refl refl) (λ w. elsewhere _ p q refl refl refl refl refl))))
