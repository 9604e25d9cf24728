-- `script_listing::input_listing` meets its contract.
use borrow.Author.Rules.{rules}
use Rattle.script_listing.proofs.Input.{input_listed}
use Rattle.script_listing.proofs.input_listing.Goals as goal

pub returns : goal.returns
returns c = input_listed c.args.input c.args.n c.args.out.now (search rules) c.front.ensures c.listing.ensures
