-- Need not be believed: `number` (proofs/Hinnant.antt) equates these formulas of the code (Howard Hinnant's), on a year that starts in March, with `day_number`. Only private contracts cite them. Assumes nothing.
use Rattle.std.specs.Prelude.{ℕ, ◌+◌, ◌-◌, ◌*◌, ◌/◌}

-- the days from 0000-03-01 to the start of the March year y
abbrev pub march_year : ℕ → ℕ
march_year y = y * 365 + y / 4 - y / 100 + y / 400

-- the days of a March year before its month m, 0 for March to 11 for February
abbrev pub march_month : ℕ → ℕ
march_month m = (153 * m + 2) / 5
