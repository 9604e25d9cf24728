-- What taking leaves that is not refused is what it promises.
-- Assumes nothing.
use Prim.Native.Nat.{ℕ, ◌≤◌}
use mathlib.Core.Bool.{Bool, true, false, not}
use mathlib.Core.List.{[]}
use mathlib.Core.Path.{◌≡◌, refl, sym}
use native.Mathlib.Omega.{arith}
use lib.Dec.{eqb}
use borrow.Author.Tests.{le-ltb, eqb-true}
use Rattle.std.specs.Prelude.{if◌then◌else◌}
use Rattle.refusals.specs.Numbered.{Numbered, accepted, refused}
use Rattle.refusals.proofs.Checks.{accepted_answer, accepted_leaves, never}
use Rattle.ds3231.specs.Calls.{sound, taking, verdict}
use Rattle.ds3231.specs.declared.Ds3231.{Ds3231}
use Rattle.ds3231.proofs.Facts.{sound_fact}
use Rattle.ds3231_chip.specs.Answers.{lent_verdict}
use Rattle.ds3231_bus.specs.ByValue.{TookTo}

lent_accepted : (b d : Bool) → ◌≡◌ {A = Numbered (Unit {0})} (accepted tt) (if not b then refused 10 [] else if not d then refused 11 [] else accepted tt) → (b ≡ true) × (d ≡ true)
lent_accepted true true e = (refl, refl)
lent_accepted true false e = never (sym e)
lent_accepted false d e = never (sym e)

pub takes : (c : Ds3231) (len room : ℕ) → accepted tt ≡ lent_verdict c len → c.diagnostics.waiting ≤ room
    → TookTo c len room (record { chip = record { timing = c.timing; registers = c.registers; diagnostics = record { waiting = 0; dropped = c.diagnostics.dropped } }; count = c.diagnostics.waiting })
takes c len room h k =
    let a = lent_accepted (sound c) (eqb len 256) h in
    let n = eqb-true len 256 a.1 in
    record {
      did = λ s o l m.
          let v : verdict (taking s o) c ≡ accepted tt = rw (a.0, l, a.1, m, le-ltb room c.diagnostics.waiting k) in
          record { answers = accepted_answer _ tt _ v; chip = accepted_leaves _ tt _ c v; store = accepted_leaves _ tt _ s v; out = accepted_leaves _ tt _ o v };
      in_store = omega (arith, n, (sound_fact c a.0).waiting);
      in_out = k;
    }
