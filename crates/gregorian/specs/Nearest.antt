-- Need not be believed: on every pending time of a sound chip `clamp_same` (ds3231/proofs/Follows.antt) equates `nearest_time` with `clamped` of ds3231/specs/Model.antt, and a chip that is not sound is refused; on a valid time `nearest_same` (proofs/Nearest.antt) says that it is that time. Assumes nothing.
use Rattle.computed.specs.Prelude.{ℕ, ltb}
use Rattle.std.specs.Prelude.{if◌then◌else◌}
use Rattle.gregorian.specs.Calendar.{month_length}
use Rattle.gregorian.specs.Times.{Time}

-- the number from a to b that is nearest to n
unfoldable pub nearest_in : ℕ → ℕ → ℕ → ℕ
nearest_in a b n = if ltb n a then a else if ltb b n then b else n

-- the time whose every field is moved to the nearest value in its range, a day past the month's end to its last day
unfoldable pub nearest_time : Time → Time
nearest_time t =
    let y = nearest_in 2000 2199 t.year in
    let m = nearest_in 1 12 t.month in
    record { year = y; month = m; day = nearest_in 1 (month_length y m) t.day; hour = nearest_in 0 23 t.hour; minute = nearest_in 0 59 t.minute; second = nearest_in 0 59 t.second }
