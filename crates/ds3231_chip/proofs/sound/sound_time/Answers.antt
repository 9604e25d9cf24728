-- `ds3231_chip::sound::sound_time` meets its contract.
use mathlib.Core.Bool.{Bool, true, false, ◌&&◌}
use mathlib.Core.Path.{◌≡◌, refl, ◌∙◌}
use lib.Dec.{leb}
use borrow.Author.Rules.{rules}
use Rattle.ds3231.proofs.Facts.{sound_time_ranges}
use Rattle.ds3231_chip.proofs.sound.sound_time.Goals as goal

-- ranges of year, month and day, and the tests of their ends
grouped : (y m m' d d' : Bool) → ((y && (m && m')) && (d && d')) ≡ ((((y && m) && m') && d) && d')
grouped false m m' d d' = refl
grouped true false m' d d' = refl
grouped true true false d d' = refl
grouped true true true d d' = refl

pub returns : goal.returns
returns c =
    let t = c.args.time in
    let y : c.contains.result ≡ (leb 2000 t.year && leb t.year 2199) = c.contains.ensures.value ∙ rw (c.new.ensures.start, c.new.ensures.end, c.new.ensures.exhausted) (search rules) in
    let m : c.contains-2.result ≡ (leb 1 t.month && leb t.month 12) = c.contains-2.ensures.value ∙ rw (c.new-2.ensures.start, c.new-2.ensures.end, c.new-2.ensures.exhausted) (search rules) in
    let d : c.contains-3.result ≡ (leb 1 t.day && leb t.day 31) = c.contains-3.ensures.value ∙ rw (c.new-3.ensures.start, c.new-3.ensures.end, c.new-3.ensures.exhausted) (search rules) in
    rw (y, m, d, grouped, sound_time_ranges t)
