-- The text of a date and a time of day, of a valid one as ISO 8601 writes it: `2026-01-01T00:00:00`. Assumes nothing.
use Rattle.std.specs.Prelude.{ℕ, List, [], false, ◌-◌, ◌^◌, ◌++◌, codes}
use Rattle.std.specs.Fmt.{decimal, format_spec, padded_integral}
use Rattle.calendar.specs.declared.DateTime.{DateTime}

-- the decimal digits of a number, with zeros in front to the width
abbrev pub zero_padded : ℕ → ℕ → List ℕ
zero_padded width n = padded_integral (format_spec 32 0 4 width (2 ^ 64 - 1)) false [] (decimal n)

abbrev pub date_time_text : DateTime → List ℕ
date_time_text t =
    zero_padded 4 t.year ++ codes "-" ++ zero_padded 2 t.month ++ codes "-" ++ zero_padded 2 t.day
    ++ codes "T" ++ zero_padded 2 t.hour ++ codes ":" ++ zero_padded 2 t.minute ++ codes ":" ++ zero_padded 2 t.second
