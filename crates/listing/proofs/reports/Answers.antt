use Rattle.std.proofs.Common.{take, ◌∙◌, arith, length-take}
use Rattle.listing.proofs.Lines.{lines_length, line_more}
use Rattle.listing.proofs.reports.Goals as goal

pub put-next-requires : goal.put-next-requires
put-next-requires c =
    let i = c.loop-diagnostic.diagnostic-index in
    let ds = c.args.records.now in
    omega (arith, lines_length (take i ds), length-take i ds)

pub loop-diagnostic-preserved : goal.loop-diagnostic-preserved
loop-diagnostic-preserved c =
    line_more _ _ _ c.loop-diagnostic-test.true (c.deref.ensures.0 ∙ c.report.ensures) (omega arith) c.loop-diagnostic.invariant c.put-next.ensures
