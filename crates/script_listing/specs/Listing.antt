-- What `clockrun` prints for a script: document 01, 'Script answers'. Assumes nothing.
use Rattle.computed.specs.Prelude.{ℕ, zero, suc, List, [], take, drop, length, nat_abs, leb}
use Rattle.std.specs.Prelude.{◌∷◌, ◌++◌, ◌≡◌, if◌then◌else◌}
use Rattle.refusals.specs.Numbered.{Numbered, accepted, refused}
use Rattle.listing.specs.Text.{header, event_line, diagnostic_lines, dropped_line, refused_line}
use Rattle.script_check.specs.Records.{instant_of, kind_of, value_of, records_in, checked_script}
use Rattle.script.specs.Runs.{Held, held_at, answer_at, clockrun_held}

-- 'Script answers': a line an event, of the first n; the answer of record i is the one on the chip after the first i records
unfoldable pub event_lines : List ℕ → ℕ → List ℕ
event_lines s zero = []
event_lines s (suc n) = event_lines s n ++ event_line (instant_of s n) (kind_of s n) (value_of s n) (answer_at s clockrun_held n)

-- 'Diagnostics': the records that wait, oldest first; 'Script answers': then the dropped count
abbrev diagnostics_text : Held → List ℕ
diagnostics_text h = diagnostic_lines (take h.chip.diagnostics.waiting h.store) ++ dropped_line h.chip.diagnostics.dropped

-- 'Script answers': what is printed for a script that ran
abbrev pub ran_listing : List ℕ → List ℕ
ran_listing s = header ++ event_lines s (records_in s) ++ diagnostics_text (held_at s clockrun_held (records_in s))

-- 'Script answers': a refused script prints only its refusal
abbrev pub listing_by : Numbered (Unit {0}) → List ℕ → List ℕ
listing_by (accepted u) s = ran_listing s
listing_by (refused n []) s = refused_line n []
listing_by (refused n (i ∷ is)) s = refused_line n (nat_abs i ∷ [])

abbrev pub listing_of : List ℕ → List ℕ
listing_of s = listing_by (checked_script s) s

-- a text in front of what stood behind it in a lent slice, where the slice has room for every listing: else nothing
abbrev pub Printed : (text out out' : List ℕ) (r : ℕ) → Type 0
Printed text out out' r = (r ≡ (if leb 110688 (length out) then length text else 0)) × (out' ≡ (if leb 110688 (length out) then text ++ drop (length text) out else out))

-- 'The table of refusals', 14: the listing of an input of which n bytes were read into `bytes`, all of it or as much as `bytes` holds. Whatever such an input is, its listing is printed
abbrev pub ListedInput : (bytes : List ℕ) (n : ℕ) (out out' : List ℕ) (r : ℕ) → Type 0
ListedInput bytes n out out' r = (s : List ℕ) → take n bytes ≡ take (length bytes) s → Printed (listing_of s) out out' r
