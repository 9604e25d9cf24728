-- The text that `clockrun` prints, byte by byte: document 01, 'Script answers'. Assumes nothing.
use Rattle.computed.specs.Prelude.{ℕ, zero, suc, List, [], ltb, eqb}
use Rattle.std.specs.Prelude.{◌+◌, ◌/◌, ◌%◌, ◌∷◌, ◌++◌, if◌then◌else◌, flat_map}
use Rattle.diagnostics.specs.Reports.{Word, UNDEFINED, READONLY, NOREGISTER, NOTMODELLED, Column, none, number, Line, line_of}
use Rattle.diagnostics.specs.declared.I2cDiagnostic.{I2cDiagnostic}

-- ---- numbers

-- the decimal digits of n, with no zero in front, where n has at most `places` of them
abbrev pub digits_in : ℕ → ℕ → List ℕ
digits_in zero n = []
digits_in (suc places) n = if ltb n 10 then ((48 + n) ∷ []) else (digits_in places (n / 10) ++ ((48 + n % 10) ∷ []))

-- 'Script answers': instants and the dropped count are decimal; every number of 64 bits is below 10^20
unfoldable pub decimal_of : ℕ → List ℕ
decimal_of n = digits_in 20 n

-- 'Script answers': letters upper case
unfoldable pub hex_digit : ℕ → ℕ
hex_digit d = if ltb d 10 then 48 + d else 55 + d

-- 'Script answers': value, answer, register and byte two hexadecimal digits
abbrev pub hex_of : ℕ → List ℕ
hex_of b = hex_digit (b / 16) ∷ hex_digit (b % 16) ∷ []

-- ---- fixed byte strings

abbrev pub comma : List ℕ
comma = 44 ∷ []

abbrev pub line_end : List ℕ
line_end = 10 ∷ []

-- 'Script answers': `at,event,value,answer`, and a line feed
abbrev pub header : List ℕ
header = 97 ∷ 116 ∷ 44 ∷ 101 ∷ 118 ∷ 101 ∷ 110 ∷ 116 ∷ 44 ∷ 118 ∷ 97 ∷ 108 ∷ 117 ∷ 101 ∷ 44 ∷ 97 ∷ 110 ∷ 115 ∷ 119 ∷ 101 ∷ 114 ∷ 10 ∷ []

-- 'Script answers': `START`, `WRITE`, `READ`, `STOP`, by the kind of the record
unfoldable pub event_word : ℕ → List ℕ
event_word kind =
    if eqb kind 0 then (83 ∷ 84 ∷ 65 ∷ 82 ∷ 84 ∷ [])
    else if eqb kind 1 then (87 ∷ 82 ∷ 73 ∷ 84 ∷ 69 ∷ [])
    else if eqb kind 2 then (82 ∷ 69 ∷ 65 ∷ 68 ∷ [])
    else (83 ∷ 84 ∷ 79 ∷ 80 ∷ [])

-- 'Script answers': the six bytes `DS3231`
abbrev chip_name : List ℕ
chip_name = 68 ∷ 83 ∷ 51 ∷ 50 ∷ 51 ∷ 49 ∷ []

-- 'Diagnostics': `UNDEFINED`, `READONLY`, `NOREGISTER`, `NOTMODELLED`
abbrev pub word_text : Word → List ℕ
word_text UNDEFINED = 85 ∷ 78 ∷ 68 ∷ 69 ∷ 70 ∷ 73 ∷ 78 ∷ 69 ∷ 68 ∷ []
word_text READONLY = 82 ∷ 69 ∷ 65 ∷ 68 ∷ 79 ∷ 78 ∷ 76 ∷ 89 ∷ []
word_text NOREGISTER = 78 ∷ 79 ∷ 82 ∷ 69 ∷ 71 ∷ 73 ∷ 83 ∷ 84 ∷ 69 ∷ 82 ∷ []
word_text NOTMODELLED = 78 ∷ 79 ∷ 84 ∷ 77 ∷ 79 ∷ 68 ∷ 69 ∷ 76 ∷ 76 ∷ 69 ∷ 68 ∷ []

-- 'Script answers': register and byte, or `--`
abbrev pub column_text : Column → List ℕ
column_text none = 45 ∷ 45 ∷ []
column_text (number n) = hex_of n

-- `dropped,`
abbrev dropped_word : List ℕ
dropped_word = 100 ∷ 114 ∷ 111 ∷ 112 ∷ 112 ∷ 101 ∷ 100 ∷ 44 ∷ []

-- `refused,`
abbrev refused_word : List ℕ
refused_word = 114 ∷ 101 ∷ 102 ∷ 117 ∷ 115 ∷ 101 ∷ 100 ∷ 44 ∷ []

-- ---- lines

-- 'Script answers': `1000300000,WRITE,08,01`
abbrev pub event_line : (at kind value answer : ℕ) → List ℕ
event_line at kind value answer = decimal_of at ++ comma ++ event_word kind ++ comma ++ hex_of value ++ comma ++ hex_of answer ++ line_end

-- 'Script answers': `DS3231,1000300000,UNDEFINED,03,08`
abbrev diagnostic_text : ℕ → Line → List ℕ
diagnostic_text at l = chip_name ++ comma ++ decimal_of at ++ comma ++ word_text l.word ++ comma ++ column_text l.register ++ comma ++ column_text l.byte ++ line_end

abbrev pub diagnostic_line : I2cDiagnostic → List ℕ
diagnostic_line d = diagnostic_text d.at (line_of d.kind)

abbrev pub diagnostic_lines : List I2cDiagnostic → List ℕ
diagnostic_lines ds = flat_map diagnostic_line ds

-- 'Script answers': `dropped,0`
abbrev pub dropped_line : ℕ → List ℕ
dropped_line n = dropped_word ++ decimal_of n ++ line_end

-- 'Script answers': record from 0, or `-` for 13 and 14
abbrev pub record_text : List ℕ → List ℕ
record_text [] = 45 ∷ []
record_text (i ∷ is) = decimal_of i

-- 'Script answers': `refused,N,R`, number, and record
abbrev pub refused_line : ℕ → List ℕ → List ℕ
refused_line n is = refused_word ++ decimal_of n ++ comma ++ record_text is ++ line_end
