-- `ds3231_chip::sound::sound_pending` meets its contract.
use mathlib.Core.Bool.{Bool, true, false, ◌&&◌}
use mathlib.Core.Path.{◌≡◌, refl}
use lib.Dec.{leb}
use borrow.Author.Rules.{rules}
use Rattle.ds3231.specs.Calls.{sound_time, sound_pending}
use Rattle.ds3231_chip.proofs.sound.sound_pending.Goals as goal

-- a range, and the tests of its ends
grouped : (t w w' : Bool) → (t && (w && w')) ≡ ((t && w) && w')
grouped true w w' = refl
grouped false w w' = refl

pub returns : goal.returns
unfolding sound_pending
returns c =
    let w : c.contains.result ≡ (leb 1 c.args.pending.weekday && leb c.args.pending.weekday 7) = search rules in
    rw (c.sound_time.ensures, w) (grouped (sound_time c.args.pending.time) (leb 1 c.args.pending.weekday) (leb c.args.pending.weekday 7))
