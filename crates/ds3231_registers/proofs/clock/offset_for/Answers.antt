-- `clock::offset_for` meets its contract: the definition, step for step.
use Rattle.ds3231.specs.Changed.{offset_for}
use borrow.Author.Rules.{rules}
use Rattle.ds3231_registers.proofs.clock.offset_for.Goals as goal

pub returns : goal.returns
unfolding offset_for
returns c = search rules
