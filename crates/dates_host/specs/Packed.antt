-- The numbers that a host reads of dates, which document 01 does not ask for: a date, its seconds, or a refusal without its values. Assumes nothing.
use Rattle.std.specs.Prelude.{ℕ, ◌+◌, ◌*◌, ◌^◌}
use Rattle.refusals.specs.Numbered.{Numbered, accepted, refused}
use Rattle.calendar.specs.declared.DateTime.{DateTime}

-- a date as one number: a byte for each field but the year, which has the two above them
abbrev pub packed_date : DateTime → ℕ
packed_date t = t.year * 2 ^ 40 + t.month * 2 ^ 32 + t.day * 2 ^ 24 + t.hour * 2 ^ 16 + t.minute * 2 ^ 8 + t.second

-- a date packed, or the number of the refusal times 2^56
abbrev pub host_date : Numbered DateTime → ℕ
host_date (accepted t) = packed_date t
host_date (refused n vs) = n * 2 ^ 56

-- a number of seconds, or the number of the refusal times 2^56
abbrev pub host_seconds : Numbered ℕ → ℕ
host_seconds (accepted s) = s
host_seconds (refused n vs) = n * 2 ^ 56
