-- `script_listing::ran` meets its contract.
use Rattle.script_listing.proofs.Whole.{whole}
use borrow.Author.Rules.{rules}
use Rattle.script_listing.proofs.ran.Goals as goal

pub returns : goal.returns
returns c =
    whole c.args.script.now c.args.end c.requires.script_bound.0 c.requires.answers_value.1 (search rules) c.requires.script_bound.1 (search rules) (search rules) (search rules)
    c.header-next.ensures c.event_lines-next.ensures c.diagnostic_lines-next.ensures c.dropped_line.ensures
