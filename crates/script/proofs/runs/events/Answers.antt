use Rattle.std.proofs.Common.{◌≡◌, refl, ◌∙◌, rules, arith, [], length, ◌/◌}
use Rattle.diagnostics.specs.Reports.{stored_all}
use Rattle.std.specs.Prelude.{option_to_list}
use Rattle.script_check.proofs.Bytes.{chunk}
use Rattle.script.specs.Runs.{event_of}
use Rattle.script.proofs.Own.{kind_own, event_own}
use Rattle.script.proofs.RunVerdicts.{accepted_kind}
use Rattle.script.proofs.Turns.{begins, turn, ends, posts_report}
use Rattle.script.proofs.runs.events.Goals as goal

pub loop-i-init : goal.loop-i-init
loop-i-init c = begins _ _ _ _ c.requires refl

pub event-requires : goal.event-requires
event-requires c = kind_own c.args.script.now _ c.as_chunks.ensures.front (accepted_kind _ _ _ c.requires) _ (omega arith)

pub loop-i-preserved : goal.loop-i-preserved
loop-i-preserved c =
    let n = c.loop-i.chip.diagnostics in
    let rs = c.loop-i.records in
    let s = c.args.script.now in
    let i = c.loop-i.i in
    let e : c.event.result ≡ event_of s i = c.event.ensures ∙ rw (c.as_chunks.ensures.front, chunk 16 (length s / 16) s i [] (omega arith)) (event_own s i) in
    let store : c.post.new.store ≡ stored_all (option_to_list c.step-stepped.result.report) n rs = c.post.ensures ∙ search (rules, posts_report) in
    turn _ _ _ _ c.loop-i.chip rs _ c.loop-i.invariant (omega arith) _ e _ c.step-stepped.ensures _ store _ c.from.ensures

pub returns : goal.returns
returns c = ends _ _ _ _ _ _ _ _ c.loop-i.invariant (omega arith) c.requires
