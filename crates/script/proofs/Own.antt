-- A record by its own sixteen bytes: its fields, and its event.
-- Assumes nothing.
use Rattle.std.proofs.Common.{◌≡◌, ◌≤◌, ◌<◌, ℕ, List, [], get_or}
use Rattle.std.specs.Simd.{first_chunks}
use Rattle.script_check.specs.Records.{instant_of, kind_of, value_of, records_in}
use Rattle.script_check.specs.Judging.{bytes_of}
use Rattle.script_check.proofs.Bytes.{chunk}
use Rattle.script_check.proofs.Folds.{own_instant, own_kind, own_value}
use Rattle.script.specs.Runs.{event_of}
use Rattle.script.specs.ByValue.{fields_of}

pub fields_own : (s : List ℕ) (i : ℕ) → fields_of (bytes_of s i) ≡ record { at = instant_of s i; kind = kind_of s i; value = value_of s i }
fields_own s i = rw (own_instant s i, own_kind s i, own_value s i)

-- of a script's records, each of its own bytes
pub kind_own : (s : List ℕ) (records : List (List ℕ)) → records ≡ first_chunks 16 (records_in s) s → ((i : ℕ) → i < records_in s → kind_of s i ≤ 3) → (i : ℕ) → i < records_in s → kind_of (get_or records i []) 0 ≤ 3
kind_own s records own legal i h = rw (own, chunk 16 (records_in s) s i [] h, own_kind s i) (legal i h)

pub event_own : (s : List ℕ) (i : ℕ) → event_of (bytes_of s i) 0 ≡ event_of s i
unfolding event_of
event_own s i = rw (own_kind s i, own_value s i, own_instant s i)
