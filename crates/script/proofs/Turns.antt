-- A turn of the run: what a step makes of the chip, the records and the answer bytes.
-- Assumes nothing.
use Prim.Native.Nat.{ℕ, suc, ◌+◌, ◌≤◌, ◌<◌}
use mathlib.Core.Bool.{true}
use mathlib.Core.List.{List, [], ◌∷◌, ◌++◌}
use mathlib.Core.Path.{◌≡◌, refl, sym, ap, ap₂, ◌∙◌, subst}
use native.Mathlib.Numerals.{add-one}
use native.Mathlib.Omega.{arith}
use lib.ListN.{length, take, set, length-set}
use lib.Seq.{take_all, take-suc-set}
use Rattle.refusals.specs.Numbered.{Numbered, accepted, and_then, unless}
use Rattle.refusals.proofs.Checks.{accepted_leaves}
use Rattle.diagnostics.specs.Reports.{stored_all}
use Rattle.diagnostics.specs.declared.Diagnostics.{Diagnostics}
use Rattle.diagnostics.specs.declared.I2cDiagnostic.{I2cDiagnostic}
use Rattle.diagnostics.proofs.Counts.{stored_all_length}
use Rattle.ds3231.specs.Calls.{sound, reply_byte, bus, step, step_chip, chip_by, store_by, answered_by}
use Rattle.ds3231.specs.declared.Ds3231.{Ds3231}
use Rattle.ds3231.specs.declared.Event.{Event}
use Rattle.ds3231_step.specs.Answers.{SteppedBy}
use Rattle.ds3231_step.specs.declared.Stepped.{Stepped}
use Rattle.script_check.specs.Records.{records_in}
use Rattle.script.specs.Runs.{Held, held_at, answers_to, answer_at, answer_byte, event_of, run_verdict, Ran}
use Rattle.std.specs.Prelude.{Ok, option_to_list, Option, Some, None, MatchOption, IsSomeAnd}
use Rattle.diagnostics.specs.ByValue.{posted}
use Rattle.diagnostics.specs.declared.Posting.{Posting}
use Rattle.diagnostics.proofs.Stores.{post_stores}
use Rattle.script.proofs.RunLaws.{none_refused}
use Rattle.script.proofs.RunVerdicts.{accepted_held}

-- a report is posted at the waiting count before it
pub posts_report : (r : Option I2cDiagnostic) (n : Diagnostics) (p : Option Posting) → MatchOption r (p ≡ None) (λ d. IsSomeAnd p (λ q. q ≡ record { slot = n.waiting; «record» = d }))
    → (rs : List I2cDiagnostic) → length rs ≡ 256 → posted p rs ≡ stored_all (option_to_list r) n rs
posts_report None n p e rs l = rw e
posts_report (Some d) n None e rs l = absurd e
posts_report (Some d) n (Some q) e rs l = rw e (post_stores n d rs l)

-- ---- the turns

-- before record i: the chip, the records and the first i answer bytes are those after the first i records, and the run began on a sound chip and 256 records
pub record Through (h : Held) (s : List ℕ) (n i : ℕ) (c : Ds3231) (rs : List I2cDiagnostic) (a : List ℕ) : Type 0 where
  pub chip : c ≡ (held_at s h i).chip
  pub store : rs ≡ (held_at s h i).store
  pub bytes : take i a ≡ answers_to s h i
  pub ok : sound h.chip ≡ true
  pub full : length h.store ≡ 256
  pub whole : length rs ≡ 256
  pub room : length a ≡ n
  pub count : n ≡ records_in s
  pub up : i ≤ n

module _ (h : Held) (s : List ℕ) where
  pub begins : (n : ℕ) (a : List ℕ) → run_verdict h s n ≡ accepted tt → length a ≡ n → Through h s n 0 h.chip h.store a
  unfolding held_at answers_to
  begins n a v l =
      let w = accepted_held h s n v in
      record { chip = refl; store = refl; bytes = refl; ok = w.2; full = w.0; whole = w.0; room = l; count = w.1; up = omega arith }

  -- the chip, the store and the answer of record i, since no event is refused
  module _ (ok : sound h.chip ≡ true) (full : length h.store ≡ 256) (i : ℕ) where
    abbrev event : Event
    event = event_of s i

    next_chip : step_chip (step event (held_at s h i).chip) (held_at s h i).chip ≡ (held_at s h (suc i)).chip
    unfolding held_at
    next_chip = sym (ap (λ (v : Numbered (Unit {0})). unless v (chip_by (bus (held_at s h i).store event) (held_at s h i).chip) (held_at s h i).chip) (none_refused s h ok full i))

    next_store : stored_all (step event (held_at s h i).chip).reports (held_at s h i).chip.diagnostics (held_at s h i).store ≡ (held_at s h (suc i)).store
    unfolding held_at
    next_store = sym (ap (λ (v : Numbered (Unit {0})). unless v (store_by (bus (held_at s h i).store event) (held_at s h i).chip) (held_at s h i).store) (none_refused s h ok full i))

    next_answer : reply_byte (step event (held_at s h i).chip).reply ≡ answer_at s h i
    next_answer = sym (ap (λ (v : Numbered (Unit {0})). answer_byte (and_then v (accepted (answered_by (bus (held_at s h i).store event) (held_at s h i).chip)))) (none_refused s h ok full i))

  pub turn : (n i : ℕ) (c : Ds3231) (rs : List I2cDiagnostic) (a : List ℕ) → Through h s n i c rs a → i < n
      → (e : Event) → e ≡ event_of s i → (p : Stepped) → SteppedBy (step e c) c p
      → (rs' : List I2cDiagnostic) → rs' ≡ stored_all (option_to_list p.report) c.diagnostics rs → (b : ℕ) → b ≡ reply_byte p.reply
      → Through h s n (i + 1) p.chip rs' (set a i b)
  unfolding answers_to
  turn n i c rs a t l e ee p by rs' is b eb =
      let er : rs' ≡ stored_all (step e c).reports c.diagnostics rs = is ∙ ap (λ (ds : List I2cDiagnostic). stored_all ds c.diagnostics rs) by.reports in
      let k : Through h s n (suc i) p.chip rs' (set a i b) = record {
        chip = by.chip ∙ ap₂ (λ (x : Event) (y : Ds3231). step_chip (step x y) y) ee t.chip ∙ next_chip t.ok t.full i;
        store = er ∙ (λ j. stored_all (step (ee j) (t.chip j)).reports (t.chip j).diagnostics (t.store j)) ∙ next_store t.ok t.full i;
        bytes =
            take-suc-set a i b (omega arith)
            ∙ ap₂ (λ (x : List ℕ) (y : ℕ). x ++ (y ∷ [])) t.bytes (eb ∙ ap reply_byte by.reply ∙ ap₂ (λ (x : Event) (y : Ds3231). reply_byte (step x y).reply) ee t.chip ∙ next_answer t.ok t.full i);
        ok = t.ok;
        full = t.full;
        whole = ap length er ∙ stored_all_length (step e c).reports c.diagnostics rs ∙ t.whole;
        room = length-set a i b ∙ t.room;
        count = t.count;
        up = omega arith;
      } in
      subst (λ (j : ℕ). Through h s n j p.chip rs' (set a i b)) (sym (add-one i)) k

  pub ends : (n i : ℕ) (c : Ds3231) (rs : List I2cDiagnostic) (a a' : List ℕ) → Through h s n i c rs a' → n ≤ i → run_verdict h s (length a) ≡ accepted tt → Ran h s a (Ok tt) c rs a'
  ends n i c rs a a' t l v =
      let e : i ≡ records_in s = omega (arith, t.count) in
      record {
        answers = sym v;
        chip = t.chip ∙ ap (λ (j : ℕ). (held_at s h j).chip) e ∙ accepted_leaves _ tt _ _ v;
        store = t.store ∙ ap (λ (j : ℕ). (held_at s h j).store) e ∙ accepted_leaves _ tt _ _ v;
        bytes = sym (take_all i a' (omega arith)) ∙ t.bytes ∙ ap (answers_to s h) e ∙ accepted_leaves _ tt _ _ v;
      }
