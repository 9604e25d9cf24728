-- What a check's answer makes of a call's answer and of what the call leaves.
-- Assumes nothing.
use Prim.Native.Nat.{ℕ}
use mathlib.Core.List.{List}
use mathlib.Core.Path.{◌≡◌, refl, sym, ap}
use lib.IntN.{ℤ}
use native.Mathlib.Omega.{arith}
use Rattle.std.specs.Prelude.{Result, Ok, Err, IsErrAnd}
use Rattle.refusals.specs.Numbered.{Numbered, accepted, refused, and_then, unless, Row, refused_by}

module _ (v : Numbered (Unit {0})) where
  pub accepted_answer : {A : Type 0} (u : Unit {0}) (answer : Numbered A) → v ≡ accepted u → answer ≡ and_then v answer
  accepted_answer u answer e = ap (λ (w : Numbered (Unit {0})). and_then w answer) (sym e)

  pub refused_answer : {A : Type 0} (number : ℕ) (values : List ℤ) (answer : Numbered A) → v ≡ refused number values → refused number values ≡ and_then v answer
  refused_answer number values answer e = ap (λ (w : Numbered (Unit {0})). and_then w answer) (sym e)

  pub accepted_leaves : {A : Type 0} (u : Unit {0}) (after before : A) → v ≡ accepted u → after ≡ unless v after before
  accepted_leaves u after before e = ap (λ (w : Numbered (Unit {0})). unless w after before) (sym e)

  pub refused_leaves : {A : Type 0} (number : ℕ) (values : List ℤ) (after before : A) → v ≡ refused number values → before ≡ unless v after before
  refused_leaves number values after before e = ap (λ (w : Numbered (Unit {0})). unless w after before) (sym e)

-- what is accepted, or `other`
abbrev pub accepted_or : {A : Type 0} → A → Numbered A → A
accepted_or other (accepted a) = a
accepted_or other (refused number values) = other

-- a refusal, of another type of answers
abbrev again : {A : Type 0} → Numbered A → Numbered (Unit {0})
again (accepted a) = accepted tt
again (refused number values) = refused number values

-- no answer is both refused and accepted
pub never : {A B : Type 0} {a : A} {n : ℕ} {values : List ℤ} → ◌≡◌ {A = Numbered A} (refused n values) (accepted a) → B
never e = let z : ◌≡◌ {A = ℕ} 0 1 = cc in absurd (omega (arith, z))

-- the answer of a call that has one check tells that of the check
pub by_accepted : {A : Type 0} (v : Numbered (Unit {0})) (a w : A) → accepted w ≡ and_then v (accepted a) → (v ≡ accepted tt) × (w ≡ a)
by_accepted (accepted u) a w e = (refl, ap (accepted_or a) e)
by_accepted (refused number values) a w e = never (sym e)

pub by_refused : {A : Type 0} (v : Numbered (Unit {0})) (a : A) (r : Row) → refused_by r ≡ and_then v (accepted a) → v ≡ refused_by r
by_refused (accepted u) a r e = never e
by_refused (refused number values) a r e = sym (ap again e)

-- a `Result` that is an error, which is `e`: what the exit of a `?` returns
pub error_is : {A E : Type 0} (r : Result A E) (e : E) → IsErrAnd r (λ d. d ≡ e) → r ≡ Err e
error_is (Ok a) e h = absurd h
error_is (Err d) e h = ap (λ x. Err x) h
