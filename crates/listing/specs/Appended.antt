-- Need not be believed: what appending text to a lent slice of bytes leaves and answers, the promises of this crate's functions. `listing` of script_listing/src/lib.rt consumes them, and promises an equation with `listing_of`. Assumes nothing.
use Rattle.computed.specs.Prelude.{ℕ, List, leb, length, take, drop}
use Rattle.std.specs.Prelude.{◌+◌, ◌++◌, ◌≡◌, if◌then◌else◌, Option, Some, None}
use Rattle.diagnostics.specs.Reports.{Line, Column, none, number}
use Rattle.listing.specs.Text.{comma, column_text}

-- the slice with the text from the position on
unfoldable pub appended : List ℕ → ℕ → List ℕ → List ℕ
appended out at text = take at out ++ text ++ drop (at + length text) out

-- the slice has the text from `at` on, and the answer is the position after it
pub record Appended (text out : List ℕ) (at : ℕ) (out' : List ℕ) (r : ℕ) : Type 0 where
  pub bytes : out' ≡ appended out at text
  pub next : r ≡ at + length text

-- a text that may need `room` bytes, as a line needs 48: appended where so many are left from `at` on, else the slice and the position stay
pub record AppendedIn (room : ℕ) (text out : List ℕ) (at : ℕ) (out' : List ℕ) (r : ℕ) : Type 0 where
  pub bytes : out' ≡ (if leb (at + room) (length out) then appended out at text else out)
  pub next : r ≡ (if leb (at + room) (length out) then at + length text else at)

-- a report's two columns
abbrev pub columns_text : Line → List ℕ
columns_text l = column_text l.register ++ comma ++ column_text l.byte

-- the column of a byte, or of none
abbrev pub byte_column : Option ℕ → Column
byte_column (Some b) = number b
byte_column None = none
