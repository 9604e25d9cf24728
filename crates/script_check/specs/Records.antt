-- A script's records, which scripts are legal, and what the check answers: document 01, 'Script answers' and 'The table of refusals'. Assumes nothing.
use Rattle.computed.specs.Prelude.{ℕ, zero, suc, Bool, List, [], ltb, eqb, length, get_or, ℤ, pos, nat_abs}
use Rattle.std.specs.Prelude.{◌+◌, ◌*◌, ◌≤◌, ◌<◌, ◌/◌, ◌%◌, ◌&&◌, ◌||◌, ◌∷◌, ◌≡◌, if◌then◌else◌, Option, Some, None, Result, Ok, Err, MatchResult}
use Rattle.refusals.specs.Numbered.{Numbered, accepted, refused, and_then, Row, answered}
use Rattle.script_check.specs.declared.kinds.Kind as Kind
use Rattle.script_check.specs.declared.faults.RecordFault.{RecordFault}
use Rattle.script_check.specs.declared.faults.RecordFault.TheVariants as Fault
use Rattle.script_check.specs.declared.faults.ScriptFault.{ScriptFault}
use Rattle.script_check.specs.declared.faults.ScriptFault.TheVariants.{TooLong, NotWhole, Record}

-- the number that k bytes from a position on make, lowest first; past the end a byte counts as 0
unfoldable pub little_endian : List ℕ → (from k : ℕ) → ℕ
little_endian s from zero = 0
little_endian s from (suc k) = get_or s from 0 + 256 * little_endian s (from + 1) k

-- 'Script answers': records of 16 bytes, the instant in bytes 0 to 7, lowest first
abbrev pub instant_of : List ℕ → ℕ → ℕ
instant_of s i = little_endian s (16 * i) 8

-- 'Script answers': byte 8 the kind, 0 START, 1 WRITE, 2 READ, 3 STOP
abbrev pub kind_of : List ℕ → ℕ → ℕ
kind_of s i = get_or s (16 * i + 8) 0

-- 'Script answers': byte 9 the value
abbrev pub value_of : List ℕ → ℕ → ℕ
value_of s i = get_or s (16 * i + 9) 0

-- 'Script answers': the number that bytes 10 to 15 make, which is 0 exactly where all of them are
abbrev pub padding_of : List ℕ → ℕ → ℕ
padding_of s i = little_endian s (16 * i + 10) 6

-- how many whole records a script has
abbrev pub records_in : List ℕ → ℕ
records_in s = length s / 16

-- 'Script answers': the number of a kind
abbrev pub kind_number : Kind.Kind → ℕ
kind_number Kind.TheVariants.Start = 0
kind_number Kind.TheVariants.Write = 1
kind_number Kind.TheVariants.Read = 2
kind_number Kind.TheVariants.Stop = 3

-- 'The table of refusals', 16: the kind of a number; above 3 there is none
abbrev pub OfKind : ℕ → Result Kind.Kind RecordFault → Type 0
OfKind number r = MatchResult r (λ k. kind_number k ≡ number) (λ f. (f ≡ Fault.Kind) × (3 < number))

-- 'The table of refusals', 17: READ above 1, STOP not 0
unfoldable pub bad_value : ℕ → ℕ → Bool
bad_value kind value = (eqb kind 2 && ltb 1 value) || (eqb kind 3 && ltb 0 value)

-- 'The table of refusals', 16 to 19 in their order: the first that holds of record i where `last` is the previous record's instant; else the record's own instant
unfoldable pub judged_after : List ℕ → ℕ → (last : ℕ) → Result ℕ RecordFault
judged_after s i last =
    if ltb 3 (kind_of s i) then Err Fault.Kind
    else if bad_value (kind_of s i) (value_of s i) then Err Fault.Value
    else if ltb 0 (padding_of s i) then Err Fault.Padding
    else if ltb (instant_of s i) last then Err Fault.Falling
    else Ok (instant_of s i)

-- 'The table of refusals', 19: the previous record's instant; the first record has none before it, and no instant is below 0
abbrev pub last_of : List ℕ → ℕ → ℕ
last_of s zero = 0
last_of s (suc i) = instant_of s i

-- 'The table of refusals', 16 to 19: what is wrong with record i, held against the record before it; or its instant, where nothing is
abbrev pub record_fault : List ℕ → ℕ → Result ℕ RecordFault
record_fault s i = judged_after s i (last_of s i)

-- 'The table of refusals': the numbers of what is wrong with a record
abbrev pub fault_number : RecordFault → ℕ
fault_number Fault.Kind = 16
fault_number Fault.Value = 17
fault_number Fault.Padding = 18
fault_number Fault.Falling = 19

-- 'The table of refusals': the row of a script's fault; of a record's fault with the record's number
abbrev pub fault_row : ScriptFault → Row
fault_row TooLong = record { number = 14; values = [] }
fault_row NotWhole = record { number = 13; values = [] }
fault_row (Record i f) = record { number = fault_number f; values = pos i ∷ [] }

-- the record that a script's refusal names: its value, if it has one
abbrev pub record_named : List ℤ → Option ℕ
record_named [] = None
record_named (i ∷ is) = Some (nat_abs i)

-- a judgement of record i: its instant; or, 'The table of refusals', the number of what is wrong, with the record's number
abbrev pub judgement_numbered : ℕ → Result ℕ RecordFault → Numbered ℕ
judgement_numbered i = answered (λ f. fault_row (Record i f))

-- an answer without the instant that it gives
abbrev pub verdict_of : Numbered ℕ → Numbered (Unit {0})
verdict_of (accepted at) = accepted tt
verdict_of (refused number values) = refused number values

-- 'Script answers': what holds of a legal record by itself
pub record LegalRecord (s : List ℕ) (i : ℕ) : Type 0 where
  pub kind : kind_of s i ≤ 3
  pub read : kind_of s i ≡ 2 → value_of s i ≤ 1
  pub stop : kind_of s i ≡ 3 → value_of s i ≡ 0
  pub padding : (k : ℕ) → 10 ≤ k → k ≤ 15 → get_or s (16 * i + k) 0 ≡ 0

-- 'Script answers': at most 2,048 records, which are 32,768 bytes, all whole; each is legal, and no instant is below the previous record's
pub record Legal (s : List ℕ) : Type 0 where
  pub short : length s ≤ 32768
  pub whole : length s % 16 ≡ 0
  pub records : (i : ℕ) → i < records_in s → LegalRecord s i
  pub rising : (i : ℕ) → i + 1 < records_in s → instant_of s i ≤ instant_of s (i + 1)

-- a record of the script and the number of its fault: no record before it has a fault. It does not look at the script's length, for which 14 and 13 come before
pub record FirstFault (s : List ℕ) (number i : ℕ) : Type 0 where
  pub within : i < records_in s
  pub fault : judgement_numbered i (record_fault s i) ≡ refused number (pos i ∷ [])
  pub before : (j : ℕ) → j < i → record_fault s j ≡ Ok (instant_of s j)

-- 'The table of refusals', of a script's length: 14, then 13
unfoldable pub checked_length : ℕ → Numbered (Unit {0})
checked_length n = if ltb 32768 n then refused 14 [] else if eqb (n % 16) 0 then accepted tt else refused 13 []

-- of n records of a script from record i on: the refusal of the first that has a fault, or accepted where none has
unfoldable pub checked_from : List ℕ → ℕ → ℕ → Numbered (Unit {0})
checked_from s i zero = accepted tt
checked_from s i (suc n) = and_then (verdict_of (judgement_numbered i (record_fault s i))) (checked_from s (i + 1) n)

-- 'The table of refusals': 14, 13, then record by record 16 to 19. In proofs/Laws.antt: `accepted_legal` and `legal_accepted`, so exactly the legal scripts are accepted; `first_fault`, so the record of a refusal is the first with a fault
abbrev pub checked_script : List ℕ → Numbered (Unit {0})
checked_script s = and_then (checked_length (length s)) (checked_from s 0 (records_in s))
