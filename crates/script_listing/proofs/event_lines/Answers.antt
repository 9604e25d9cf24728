-- `script_listing::event_lines` meets its contract.
use Rattle.std.proofs.Common.{◌≡◌, ap, ◌∙◌, ◌<◌, ◌/◌, [], length, rules, arith}
use Rattle.std.proofs.lemmas.List.{take_all}
use Rattle.std.proofs.lemmas.Slice.Zip.{zip_turn, zip_end}
use Rattle.std.specs.Simd.{first_chunks}
use lib.ListN.{length-append}
use Rattle.script_check.specs.Records.{records_in}
use Rattle.script_check.proofs.Bytes.{chunk}
use Rattle.script_check.specs.Judging.{bytes_of}
use Rattle.script.specs.ByValue.{fields_of}
use Rattle.script_listing.proofs.Events.{begins, turn}
use Rattle.script_listing.proofs.event_lines.Goals as goal

pub loop-bytes-init : goal.loop-bytes-init
loop-bytes-init c = begins _ _ _ _ c.requires.0

pub loop-bytes-preserved : goal.loop-bytes-preserved
loop-bytes-preserved c =
    let s = c.args.script.now in
    let l = c.loop-bytes in
    let i = length l.yielded in
    let z = zip_turn (first_chunks 16 (length s / 16) s) c.args.answers.now l.yielded c.into_iter-bytes-iterator.result l.bytes-iterator c.next.new.self _ (search rules) (search (rules, take_all, arith)) l.yielded_by _ c.in-Some.is c.next.ensures.steps in
    let h : i < records_in s = omega (arith, l.invariant.count, z.1) in
    let e : c.from-event.result ≡ fields_of (bytes_of s i) = c.from-event.ensures ∙ ap fields_of (z.2 [] ∙ chunk 16 (length s / 16) s i [] h) in
    rw (length-append l.yielded _) (turn c.requires.0 c.requires.1 z.1 l.invariant c.event_line-next.auto.out _ e (rw (z.3 0) at c.event_line-next.ensures))

pub returns : goal.returns
returns c =
    let s = c.args.script.now in
    let l = c.loop-bytes in
    let n = zip_end (first_chunks 16 (length s / 16) s) c.args.answers.now l.yielded c.into_iter-bytes-iterator.result l.bytes-iterator c.next.new.self _ (search rules) (search (rules, take_all, arith)) l.yielded_by c.in-None.is c.next.ensures.steps in
    let m : length l.yielded ≡ records_in s = search (rules, arith) in
    rw m at l.invariant.written
