-- `script_listing::listing` meets its contract.
use native.Mathlib.Omega.{arith}
use Rattle.script_listing.proofs.Whole.{roomy}
use Rattle.script_listing.proofs.listing.Goals as goal

pub returns : goal.returns
returns c = roomy (omega arith) c.listed.ensures
