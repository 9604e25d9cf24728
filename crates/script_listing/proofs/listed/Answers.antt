-- `script_listing::listed` meets its contract.
use mathlib.Core.Path.{◌≡◌, sym}
use native.Mathlib.Omega.{arith}
use Rattle.std.proofs.Common.{rules}
use Rattle.refusals.specs.Numbered.{accepted, refused_by}
use Rattle.listing.proofs.Appending.{fitting}
use Rattle.script_check.specs.Records.{checked_script, record_named}
use Rattle.script.specs.Runs.{run_row}
use Rattle.script_listing.proofs.Legal.{at_most, answers_check, leaves_held, leaves_bytes, refused_as}
use Rattle.script_listing.proofs.listed.Goals as goal

pub ran-requires-clause-answers_value : goal.ran-requires-clause-answers_value
ran-requires-clause-answers_value c =
    let l = c.requires.0 in
    let t = c.in-Ok.ensures in
    let g : checked_script c.args.script.now ≡ accepted tt = sym (answers_check l t) in
    (leaves_bytes l t g, leaves_held l t g)

pub ran-requires-clause-script_bound : goal.ran-requires-clause-script_bound
ran-requires-clause-script_bound c = (at_most c.args.script.now (sym (answers_check c.requires.0 c.in-Ok.ensures)), c.requires.1)

pub returns-in-Ok : goal.returns-in-Ok
returns-in-Ok c = rw (sym (answers_check c.requires.0 c.in-Ok.ensures)) c.ran.ensures

pub returns-in-Err : goal.returns-in-Err
returns-in-Err c =
    let v : refused_by (run_row c.in-Err.error) ≡ checked_script c.args.script.now = answers_check c.requires.0 c.in-Err.ensures in
    let r : c.map-record.result ≡ record_named (run_row c.in-Err.error).values = search rules in
    refused_as c.args.script.now (run_row c.in-Err.error) v (fitting (omega arith) (rw (r, c.number.ensures) at c.refused_line.ensures))
