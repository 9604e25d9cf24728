-- An answer as document 01 numbers it. Assumes nothing.
use Rattle.std.specs.Prelude.{ℕ, Bool, true, false, List, [], ℤ, Option, Some, None, Result, Ok, Err}

-- 'The table of refusals': accepted with a value, or refused with a number of the table and the values that it gives with it
pub data Numbered (A : Type 0) : Type 0 where
  accepted : A → Numbered A
  refused : ℕ → List ℤ → Numbered A

abbrev pub is_accepted : {A : Type 0} → Numbered A → Bool
is_accepted (accepted a) = true
is_accepted (refused number values) = false

-- 'The table of refusals', its order: the answer of a call after a check is the check's refusal if it refuses, else the answer
abbrev pub and_then : {A : Type 0} → Numbered (Unit {0}) → Numbered A → Numbered A
and_then (accepted _) answer = answer
and_then (refused number values) answer = refused number values

-- 'The table of refusals': refusals change nothing. What a call leaves after a check is what was there before if the check refuses
abbrev pub unless : {A : Type 0} → Numbered (Unit {0}) → A → A → A
unless (accepted _) after before = after
unless (refused number values) after before = before

-- a row of the table: the number of a refusal, and the values that it gives with it
pub record Row : Type 0 where
  pub number : ℕ
  pub values : List ℤ

abbrev pub refused_by : {A : Type 0} → Row → Numbered A
refused_by r = refused r.number r.values

-- the answer that a `Result` is, where each error has its row of the table
abbrev pub answered : {A E : Type 0} → (E → Row) → Result A E → Numbered A
answered row (Ok a) = accepted a
answered row (Err e) = refused_by (row e)

-- the answer that an `Option` is, where none is refused with a number that has no values
abbrev pub some_or : {A : Type 0} → ℕ → Option A → Numbered A
some_or number (Some a) = accepted a
some_or number None = refused number []
